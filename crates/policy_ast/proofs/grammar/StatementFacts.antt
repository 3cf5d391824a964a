-- What a statement takes of the tokens, that it is a node, and before which tokens it may end.
use Rattle.std.proofs.Common.{◌≡◌, ℕ, zero, suc, true, false, ◌∷◌, None, refl, arith}
use Rattle.policy_ast.specs.declared.finish.FinishStmt.{FinishStmt}
use Rattle.policy_ast.specs.declared.part.Part.{Part}
use Rattle.policy_ast.specs.declared.statement.Stmt.{Stmt}
use Rattle.policy_ast.specs.grammar.Expressions.{whole}
use Rattle.policy_ast.specs.grammar.Fields as fields
use Rattle.policy_ast.specs.grammar.Fixed.{arrow, bar, close_brace, close_bracket, close_paren, comma, open_brace, open_bracket, open_paren, underscore, word}
use Rattle.policy_ast.specs.grammar.Forms as forms
use Rattle.policy_ast.specs.grammar.Parts.{Nonterminal, Kinds}
use Rattle.policy_ast.specs.grammar.Patterns as patterns
use Rattle.policy_ast.specs.grammar.Patterns.{IsArmPattern}
use Rattle.policy_ast.specs.grammar.Statements as rows
use Rattle.policy_ast.specs.grammar.Statements.{ArmOver, BlockOver, ElseOver, IfOver, Inner, InnerOver, IsBind, IsFinishBlock, IsFinishStmt, IsLet, IsPattern, IsStmt, IsWhole, StmtOver, StmtWithin, if_statement, statement}
use Rattle.policy_ast.specs.grammar.Expressions.{IsExpr}
use Rattle.policy_ast.proofs.grammar.Ends.{EndsWhole, ends_before_name, ends_whole}
use Rattle.policy_ast.proofs.grammar.ExpressionFacts.{bind_parts, expr_parts, let_parts, pattern_parts}
use Rattle.policy_ast.proofs.grammar.Facts.{AreHigh, AreParts, LeavesTail, parts_tail, behind_high, behind_parts, behind_tail, chained_parts, empty_tail, listed_tail, made_parts, made_tail, many_tail, node_high, node_parts, node_tail, optional_tail, pair_parts, pair_tail}
use Rattle.policy_ast.proofs.grammar.FieldLaws.{name_parts, pattern_literal_parts}
use Rattle.policy_ast.proofs.grammar.Laws.{Always}
use Rattle.policy_ast.proofs.grammar.Reading.{after}

whole_tail : LeavesTail IsWhole
whole_tail = parts_tail (expr_parts (whole false))

bind_tail : LeavesTail IsBind
bind_tail = parts_tail (bind_parts IsExpr expr_parts)

pattern_tail : LeavesTail IsPattern
pattern_tail = parts_tail (pattern_parts IsExpr expr_parts)

pub finish_stmt_parts : AreParts IsFinishStmt
finish_stmt_parts ts rest a (rows.create x) = behind_parts (node_tail (pair_tail (parts_tail name_parts) (behind_tail (pair_tail (listed_tail bind_tail close_bracket)
    (behind_tail (behind_tail (listed_tail bind_tail close_brace) open_brace) arrow)) open_bracket)) _) (word "create") refl ts rest a x
finish_stmt_parts ts rest a (rows.update x) = behind_parts (node_tail (pair_tail pattern_tail (behind_tail (behind_tail (listed_tail bind_tail close_brace) open_brace) (word "to"))) _) (word "update") refl ts rest a x
finish_stmt_parts ts rest a (rows.delete x) = behind_parts (node_tail (pair_tail (parts_tail name_parts) (behind_tail (listed_tail bind_tail close_bracket) open_bracket)) _) (word "delete") refl ts rest a x
finish_stmt_parts ts rest a (rows.emit x) = behind_parts (node_tail whole_tail _) (word "emit") refl ts rest a x
finish_stmt_parts ts rest a (rows.call x) = node_parts (pair_parts name_parts (behind_tail (listed_tail whole_tail close_paren) open_paren)) _ ts rest a x

pub finish_block_tail : LeavesTail IsFinishBlock
finish_block_tail = behind_tail (many_tail (parts_tail finish_stmt_parts) close_brace) open_brace

-- a statement of a finish block may follow an expression
pub finish_stmt_follows : (ts rest : Kinds) (a : Part FinishStmt) → IsFinishStmt ts rest a → EndsWhole false ts
finish_stmt_follows ts rest a (rows.create (forms.behind {ts = inner} x)) = ends_whole false (word "create" ∷ inner) refl refl refl refl refl refl refl refl refl
finish_stmt_follows ts rest a (rows.update (forms.behind {ts = inner} x)) = ends_whole false (word "update" ∷ inner) refl refl refl refl refl refl refl refl refl
finish_stmt_follows ts rest a (rows.delete (forms.behind {ts = inner} x)) = ends_whole false (word "delete" ∷ inner) refl refl refl refl refl refl refl refl refl
finish_stmt_follows ts rest a (rows.emit (forms.behind {ts = inner} x)) = ends_whole false (word "emit" ∷ inner) refl refl refl refl refl refl refl refl refl
finish_stmt_follows ts rest a (rows.call (forms.node_of (forms.pair {mid = mid} (fields.name {text = text} is) x))) = ends_before_name false text is mid

pub arm_pattern_parts : AreParts IsArmPattern
arm_pattern_parts ts rest a (patterns.any x) = behind_parts (made_tail empty_tail _) underscore refl ts rest a x
arm_pattern_parts ts rest a (patterns.literals x) = made_parts (chained_parts (made_parts pattern_literal_parts _) bar _ (parts_tail pattern_literal_parts)) _ ts rest a x

module _ (Below : Inner → Nonterminal Stmt) (parts : (inner : Inner) → AreParts (Below inner)) where
  pub block_tail : LeavesTail (BlockOver Below)
  block_tail = behind_tail (many_tail (parts_tail (parts statement)) close_brace) open_brace

  else_tail : LeavesTail (ElseOver Below)
  else_tail ts rest a (rows.block x) = made_tail block_tail _ ts rest a x
  else_tail ts rest a (rows.else_if x) = made_tail (parts_tail (parts if_statement)) _ ts rest a x

  if_parts : AreParts (IfOver Below)
  if_parts = behind_parts (node_tail (pair_tail (parts_tail (expr_parts (whole true))) (pair_tail block_tail (optional_tail else_tail (word "else")))) _) (word "if") refl

  pub arm_parts : AreParts (ArmOver Below)
  arm_parts = made_parts (pair_parts arm_pattern_parts (behind_tail (pair_tail block_tail (optional_tail empty_tail comma)) arrow)) _

  stmt_parts : AreParts (StmtOver Below)
  stmt_parts ts rest a (rows.let x) = made_parts (let_parts IsExpr expr_parts) _ ts rest a x
  stmt_parts ts rest a (rows.check x) = behind_parts (node_tail whole_tail _) (word "check") refl ts rest a x
  stmt_parts ts rest a (rows.if x) = if_parts ts rest a x
  stmt_parts ts rest a (rows.match x) = behind_parts (node_tail (pair_tail (parts_tail (expr_parts (whole true))) (behind_tail (many_tail (parts_tail arm_parts) close_brace) open_brace)) _) (word "match") refl ts rest a x
  stmt_parts ts rest a (rows.finish x) = behind_parts (node_tail finish_block_tail _) (word "finish") refl ts rest a x
  stmt_parts ts rest a (rows.map x) = behind_parts (node_tail (pair_tail pattern_tail (behind_tail (pair_tail (parts_tail name_parts) block_tail) (word "as"))) _) (word "map") refl ts rest a x
  stmt_parts ts rest a (rows.publish x) = behind_parts (node_tail whole_tail _) (word "publish") refl ts rest a x
  stmt_parts ts rest a (rows.return x) = behind_parts (node_tail whole_tail _) (word "return") refl ts rest a x

  inner_parts : (inner : Inner) → AreParts (InnerOver Below inner)
  inner_parts statement = stmt_parts
  inner_parts if_statement = if_parts

pub stmt_within_parts : (n : ℕ) (inner : Inner) → AreParts (StmtWithin n inner)
stmt_within_parts zero inner = λ ts rest a x. absurd x
stmt_within_parts (suc n) inner = inner_parts (StmtWithin n) (stmt_within_parts n) inner

pub is_stmt_parts : (inner : Inner) → AreParts (IsStmt inner)
is_stmt_parts inner ts rest a (rows.nested n x) = stmt_within_parts n inner ts rest a x

-- before which tokens a statement may end
abbrev pub EndsIf : Kinds → Type 0
EndsIf ts = (after (word "else") ts ≡ None) × Always ts

abbrev pub EndsStmt : Kinds → Type 0
EndsStmt ts = (after (word "else") ts ≡ None) × EndsWhole false ts

abbrev pub EndsInner : Inner → Kinds → Type 0
EndsInner statement ts = EndsStmt ts
EndsInner if_statement ts = EndsIf ts

module _ (Below : Inner → Nonterminal Stmt) where
  -- a statement may follow a statement
  stmt_over_follows : (ts rest : Kinds) (a : Part Stmt) → StmtOver Below ts rest a → EndsStmt ts
  stmt_over_follows ts rest a (rows.let (forms.made_of (forms.behind {ts = inner} x))) = (refl, ends_whole false (word "let" ∷ inner) refl refl refl refl refl refl refl refl refl)
  stmt_over_follows ts rest a (rows.check (forms.behind {ts = inner} x)) = (refl, ends_whole false (word "check" ∷ inner) refl refl refl refl refl refl refl refl refl)
  stmt_over_follows ts rest a (rows.if (forms.behind {ts = inner} x)) = (refl, ends_whole false (word "if" ∷ inner) refl refl refl refl refl refl refl refl refl)
  stmt_over_follows ts rest a (rows.match (forms.behind {ts = inner} x)) = (refl, ends_whole false (word "match" ∷ inner) refl refl refl refl refl refl refl refl refl)
  stmt_over_follows ts rest a (rows.finish (forms.behind {ts = inner} x)) = (refl, ends_whole false (word "finish" ∷ inner) refl refl refl refl refl refl refl refl refl)
  stmt_over_follows ts rest a (rows.map (forms.behind {ts = inner} x)) = (refl, ends_whole false (word "map" ∷ inner) refl refl refl refl refl refl refl refl refl)
  stmt_over_follows ts rest a (rows.publish (forms.behind {ts = inner} x)) = (refl, ends_whole false (word "publish" ∷ inner) refl refl refl refl refl refl refl refl refl)
  stmt_over_follows ts rest a (rows.return (forms.behind {ts = inner} x)) = (refl, ends_whole false (word "return" ∷ inner) refl refl refl refl refl refl refl refl refl)

  stmt_over_high : AreHigh (StmtOver Below)
  stmt_over_high ts rest a (rows.let (forms.made_of (forms.behind (forms.node_of x)))) = omega arith
  stmt_over_high ts rest a (rows.check x) = behind_high (node_high _) (word "check") ts rest a x
  stmt_over_high ts rest a (rows.if x) = behind_high (node_high _) (word "if") ts rest a x
  stmt_over_high ts rest a (rows.match x) = behind_high (node_high _) (word "match") ts rest a x
  stmt_over_high ts rest a (rows.finish x) = behind_high (node_high _) (word "finish") ts rest a x
  stmt_over_high ts rest a (rows.map x) = behind_high (node_high _) (word "map") ts rest a x
  stmt_over_high ts rest a (rows.publish x) = behind_high (node_high _) (word "publish") ts rest a x
  stmt_over_high ts rest a (rows.return x) = behind_high (node_high _) (word "return") ts rest a x

  pub inner_over_high : (inner : Inner) → AreHigh (InnerOver Below inner)
  inner_over_high statement = stmt_over_high
  inner_over_high if_statement = behind_high (node_high _) (word "if")

pub stmt_within_follows : (n : ℕ) (ts rest : Kinds) (a : Part Stmt) → StmtWithin n statement ts rest a → EndsStmt ts
stmt_within_follows zero ts rest a x = absurd x
stmt_within_follows (suc n) ts rest a x = stmt_over_follows (StmtWithin n) ts rest a x

pub is_stmt_follows : (ts rest : Kinds) (a : Part Stmt) → IsStmt statement ts rest a → EndsStmt ts
is_stmt_follows ts rest a (rows.nested n x) = stmt_within_follows n ts rest a x
