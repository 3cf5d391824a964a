-- What an expression takes of the tokens, and that it is a node.
use Rattle.std.proofs.Common.{◌≡◌, ℕ, zero, suc, Bool, true, false, refl, arith}
use Rattle.policy_ast.specs.declared.expr.Arithmetic.{Arithmetic}
use Rattle.policy_ast.specs.declared.expr.Arithmetic.TheVariants as arithmetic
use Rattle.policy_ast.specs.declared.expr.Count.{Count}
use Rattle.policy_ast.specs.declared.expr.Count.TheVariants as count
use Rattle.policy_ast.specs.declared.expr.Expr.{Expr}
use Rattle.policy_ast.specs.declared.expr.Unary.{Unary}
use Rattle.policy_ast.specs.declared.expr.Unary.TheVariants as unary
use Rattle.policy_ast.specs.grammar.Expressions as rows
use Rattle.policy_ast.specs.grammar.Expressions.{AndOver, BindOver, BodyOver, ComparisonOver, ConditionalOver, ElseExprOver, ExprOver, ExprWithin, IsExpr, LetOver, OrOver, Level, PrimaryOver, UnaryOver, conditional, operand, whole}
use Rattle.policy_ast.specs.grammar.Fields as fields
use Rattle.policy_ast.specs.grammar.Fields.{IsNumber}
use Rattle.policy_ast.specs.grammar.Fixed.{and, arithmetic_token, arrow, close_brace, close_bracket, close_paren, colon, comma, comparison_token, count_token, dot, equals, open_brace, open_bracket, open_paren, or, path, presence_token, question_mark, unary_token, word}
use Rattle.policy_ast.specs.grammar.Forms.{◌▸◌, Listed}
use Rattle.policy_ast.specs.grammar.Parts.{Nonterminal}
use Rattle.policy_ast.specs.grammar.Patterns as patterns
use Rattle.policy_ast.specs.grammar.Patterns.{FreeOver, FreeValueOver, PatternOver}
use Rattle.policy_ast.proofs.grammar.Facts.{AreHigh, AreParts, LeavesTail, parts_tail, before_parts, before_tail, behind_high, behind_parts, behind_tail, chained_high, chained_parts, empty_tail, is_closing, listed_tail, made_parts, made_tail, many_tail, node_high, node_parts, node_tail, optional_tail, pair_parts, pair_tail}
use Rattle.policy_ast.proofs.grammar.Tails.{IsTail}
use Rattle.policy_ast.proofs.grammar.FieldLaws.{literal_parts, name_parts}

pub number_parts : AreParts IsNumber
number_parts ts rest a fields.IsNumber.number = record { tail = IsTail.behind IsTail.all; shorter = omega arith; opens = refl }

arithmetic_opens : (op : Arithmetic) → is_closing (arithmetic_token op) ≡ false
arithmetic_opens arithmetic.Add = refl
arithmetic_opens arithmetic.Sub = refl
arithmetic_opens arithmetic.SaturatingAdd = refl
arithmetic_opens arithmetic.SaturatingSub = refl

count_opens : (op : Count) → is_closing (count_token op) ≡ false
count_opens count.AtLeast = refl
count_opens count.AtMost = refl
count_opens count.Exactly = refl
count_opens count.CountUpTo = refl

sign_opens : (op : Unary) → is_closing (unary_token op) ≡ false
sign_opens unary.Not = refl
sign_opens unary.Unwrap = refl
sign_opens unary.CheckUnwrap = refl

module _ (Below : Level → Nonterminal Expr) (parts : (level : Level) → AreParts (Below level)) where
  below_tail : LeavesTail (Below (whole false))
  below_tail = parts_tail (parts (whole false))

  pub bind_parts : AreParts (BindOver Below)
  bind_parts = made_parts (pair_parts name_parts (behind_tail below_tail colon)) _

  free_value_tail : LeavesTail (FreeValueOver (Below (whole false)))
  free_value_tail ts rest a (patterns.free x) = behind_tail (made_tail empty_tail _) question_mark ts rest a x
  free_value_tail ts rest a (patterns.value x) = made_tail below_tail _ ts rest a x

  pub free_parts : AreParts (FreeOver (Below (whole false)))
  free_parts = made_parts (pair_parts name_parts (behind_tail free_value_tail colon)) _

  pub pattern_parts : AreParts (PatternOver (Below (whole false)))
  pattern_parts = made_parts (pair_parts name_parts (behind_tail (pair_tail (listed_tail (parts_tail free_parts) close_bracket)
      (optional_tail (behind_tail (listed_tail (parts_tail free_parts) close_brace) open_brace) arrow)) open_bracket)) _

  pub let_parts : AreParts (LetOver Below)
  let_parts = behind_parts (node_tail (parts_tail (pair_parts name_parts (behind_tail below_tail equals))) _) (word "let") refl

  pub body_tail : LeavesTail (BodyOver Below)
  body_tail = behind_tail (made_tail (pair_tail (many_tail (parts_tail let_parts) colon) (before_tail below_tail close_brace)) _) open_brace

  else_tail : LeavesTail (ElseExprOver Below)
  else_tail ts rest a (rows.body x) = made_tail body_tail _ ts rest a x
  else_tail ts rest a (rows.else_if x) = made_tail (parts_tail (parts conditional)) _ ts rest a x

  pub conditional_parts : AreParts (ConditionalOver Below)
  conditional_parts = behind_parts (node_tail (parts_tail (pair_parts (parts (whole true)) (pair_tail body_tail (behind_tail else_tail (word "else"))))) _) (word "if") refl

  arguments_tail : LeavesTail (open_paren ▸ Listed (Below (whole false)) close_paren)
  arguments_tail = behind_tail (listed_tail below_tail close_paren) open_paren

  pub primary_parts : (is_head : Bool) → AreParts (PrimaryOver Below is_head)
  primary_parts h ts rest a (rows.literal x) = node_parts literal_parts _ ts rest a x
  primary_parts h ts rest a (rows.none x) = behind_parts (node_tail empty_tail _) (word "None") refl ts rest a x
  primary_parts h ts rest a (rows.some x) = behind_parts (node_tail (behind_tail (before_tail below_tail close_paren) open_paren) _) (word "Some") refl ts rest a x
  primary_parts h ts rest a (rows.this x) = behind_parts (node_tail empty_tail _) (word "this") refl ts rest a x
  primary_parts h ts rest a (rows.name x) = node_parts name_parts _ ts rest a x
  primary_parts h ts rest a (rows.parens x) = behind_parts (node_tail (before_tail below_tail close_paren) _) open_paren refl ts rest a x
  primary_parts h ts rest a (rows.foreign_call x) = node_parts (pair_parts name_parts (behind_tail (pair_tail (parts_tail name_parts) arguments_tail) path)) _ ts rest a x
  primary_parts h ts rest a (rows.call x) = node_parts (pair_parts name_parts arguments_tail) _ ts rest a x
  primary_parts h ts rest a (rows.fields is x) = node_parts (pair_parts name_parts (behind_tail (listed_tail (parts_tail bind_parts) close_brace) open_brace)) _ ts rest a x
  primary_parts h ts rest a (rows.arithmetic op x) =
      behind_parts (node_tail (behind_tail (pair_tail below_tail (behind_tail (before_tail below_tail close_paren) comma)) open_paren) _) (arithmetic_token op) (arithmetic_opens op) ts rest a x
  primary_parts h ts rest a (rows.query x) = behind_parts (node_tail (parts_tail pattern_parts) _) (word "query") refl ts rest a x
  primary_parts h ts rest a (rows.exists x) = behind_parts (node_tail (parts_tail pattern_parts) _) (word "exists") refl ts rest a x
  primary_parts h ts rest a (rows.count op x) = behind_parts (node_tail (parts_tail (pair_parts number_parts (parts_tail pattern_parts))) _) (count_token op) (count_opens op) ts rest a x
  primary_parts h ts rest a (rows.if x) = conditional_parts ts rest a x

  pub unary_parts : (is_head : Bool) → AreParts (UnaryOver Below is_head)
  unary_parts h ts rest a (rows.prefixed op x) = behind_parts (node_tail (parts_tail (parts (operand h))) _) (unary_token op) (sign_opens op) ts rest a x
  unary_parts h ts rest a (rows.plain x) = chained_parts (primary_parts h) dot _ (parts_tail name_parts) ts rest a x

  pub comparison_parts : (is_head : Bool) → AreParts (ComparisonOver Below is_head)
  comparison_parts h ts rest a (rows.alone x) = unary_parts h ts rest a x
  comparison_parts h ts rest a (rows.compared op x) = node_parts (pair_parts (unary_parts h) (behind_tail (parts_tail (unary_parts h)) (comparison_token op))) _ ts rest a x
  comparison_parts h ts rest a (rows.is op x) = node_parts (before_parts (before_parts (unary_parts h) (word "is")) (presence_token op)) _ ts rest a x

  pub and_parts : (is_head : Bool) → AreParts (AndOver Below is_head)
  and_parts h = chained_parts (comparison_parts h) and _ (parts_tail (comparison_parts h))

  or_parts : (is_head : Bool) → AreParts (OrOver Below is_head)
  or_parts h = chained_parts (and_parts h) or _ (parts_tail (and_parts h))

  expr_over_parts : (level : Level) → AreParts (ExprOver Below level)
  expr_over_parts (whole h) = or_parts h
  expr_over_parts (operand h) = unary_parts h
  expr_over_parts conditional = conditional_parts

pub expr_within_parts : (n : ℕ) (level : Level) → AreParts (ExprWithin n level)
expr_within_parts zero level = λ ts rest a x. absurd x
expr_within_parts (suc n) level = expr_over_parts (ExprWithin n) (expr_within_parts n) level

pub expr_parts : (level : Level) → AreParts (IsExpr level)
expr_parts level ts rest a (rows.nested n x) = expr_within_parts n level ts rest a x

-- each expression is a node
module _ (Below : Level → Nonterminal Expr) where
  primary_high : (is_head : Bool) → AreHigh (PrimaryOver Below is_head)
  primary_high h ts rest a (rows.literal x) = node_high _ ts rest a x
  primary_high h ts rest a (rows.none x) = behind_high (node_high _) (word "None") ts rest a x
  primary_high h ts rest a (rows.some x) = behind_high (node_high _) (word "Some") ts rest a x
  primary_high h ts rest a (rows.this x) = behind_high (node_high _) (word "this") ts rest a x
  primary_high h ts rest a (rows.name x) = node_high _ ts rest a x
  primary_high h ts rest a (rows.parens x) = behind_high (node_high _) open_paren ts rest a x
  primary_high h ts rest a (rows.foreign_call x) = node_high _ ts rest a x
  primary_high h ts rest a (rows.call x) = node_high _ ts rest a x
  primary_high h ts rest a (rows.fields is x) = node_high _ ts rest a x
  primary_high h ts rest a (rows.arithmetic op x) = behind_high (node_high _) (arithmetic_token op) ts rest a x
  primary_high h ts rest a (rows.query x) = behind_high (node_high _) (word "query") ts rest a x
  primary_high h ts rest a (rows.exists x) = behind_high (node_high _) (word "exists") ts rest a x
  primary_high h ts rest a (rows.count op x) = behind_high (node_high _) (count_token op) ts rest a x
  primary_high h ts rest a (rows.if x) = behind_high (node_high _) (word "if") ts rest a x

  unary_high : (is_head : Bool) → AreHigh (UnaryOver Below is_head)
  unary_high h ts rest a (rows.prefixed op x) = behind_high (node_high _) (unary_token op) ts rest a x
  unary_high h ts rest a (rows.plain x) = chained_high (primary_high h) dot _ (λ b a. omega arith) ts rest a x

  comparison_high : (is_head : Bool) → AreHigh (ComparisonOver Below is_head)
  comparison_high h ts rest a (rows.alone x) = unary_high h ts rest a x
  comparison_high h ts rest a (rows.compared op x) = node_high _ ts rest a x
  comparison_high h ts rest a (rows.is op x) = node_high _ ts rest a x

  and_high : (is_head : Bool) → AreHigh (AndOver Below is_head)
  and_high h = chained_high (comparison_high h) and _ (λ b a. omega arith)

  pub expr_over_high : (level : Level) → AreHigh (ExprOver Below level)
  expr_over_high (whole h) = chained_high (and_high h) or _ (λ b a. omega arith)
  expr_over_high (operand h) = unary_high h
  expr_over_high conditional = behind_high (node_high _) (word "if")
