-- How expressions are read.
use Rattle.std.specs.Prelude.{ℕ, zero, suc, Bool, true, false, List, [], ◌∷◌, Option, Some, None, option_and_then}
use Rattle.policy_ast.specs.declared.bind.Bind.{Bind}
use Rattle.policy_ast.specs.declared.pattern.Free.{Free}
use Rattle.policy_ast.specs.declared.pattern.Pattern.{Pattern}
use Rattle.policy_ast.specs.declared.expr.Arithmetic.{Arithmetic}
use Rattle.policy_ast.specs.declared.expr.Arithmetic.TheVariants as arithmetic
use Rattle.policy_ast.specs.declared.expr.Comparison.{Comparison}
use Rattle.policy_ast.specs.declared.expr.Comparison.TheVariants as comparison
use Rattle.policy_ast.specs.declared.expr.Count.{Count}
use Rattle.policy_ast.specs.declared.expr.Count.TheVariants as count
use Rattle.policy_ast.specs.declared.expr.ElseExpr.{ElseExpr}
use Rattle.policy_ast.specs.declared.expr.ElseExpr.TheVariants as else_expr
use Rattle.policy_ast.specs.declared.expr.Expr.{Expr}
use Rattle.policy_ast.specs.declared.expr.Expr.TheVariants as expr
use Rattle.policy_ast.specs.declared.expr.ExprBlock.{ExprBlock}
use Rattle.policy_ast.specs.declared.expr.Let.{Let}
use Rattle.policy_ast.specs.declared.expr.Presence.{Presence}
use Rattle.policy_ast.specs.declared.expr.Presence.TheVariants as presence
use Rattle.policy_ast.specs.declared.expr.Unary.{Unary}
use Rattle.policy_ast.specs.declared.expr.Unary.TheVariants as unary
use Rattle.policy_ast.specs.declared.literal.Literal.TheVariants as literal
use Rattle.policy_ast.specs.declared.part.Part.{Part}
use Rattle.policy_ast.specs.grammar.Expressions.{Level, conditional, operand, whole}
use Rattle.policy_ast.specs.grammar.Fixed.{and, arithmetic_token, arrow, close_brace, close_bracket, close_paren, colon, comma, comparison_token, count_token, dot, equals, open_brace, open_bracket, open_paren, or, path, presence_token, question_mark, unary_token, word}
use Rattle.policy_ast.specs.grammar.Parts.{made_both}
use Rattle.policy_ast.proofs.grammar.Reading.{Reader, before, behind, built, chained, listed, making, many, node_added, noded, nothing, on, operated, optional, pair, paired, read_empty}
use Rattle.policy_ast.proofs.grammar.ReadingFields.{named, read_constant, read_name, read_number}

abbrev pub comparisons : List Comparison
comparisons = comparison.Equal ∷ comparison.NotEqual ∷ comparison.Less ∷ comparison.LessOrEqual ∷ comparison.Greater ∷ comparison.GreaterOrEqual ∷ []

abbrev pub presences : List Presence
presences = presence.Some ∷ presence.None ∷ []

abbrev pub signs : List Unary
signs = unary.Not ∷ unary.Unwrap ∷ unary.CheckUnwrap ∷ []

abbrev pub arithmetics : List Arithmetic
arithmetics = arithmetic.Add ∷ arithmetic.Sub ∷ arithmetic.SaturatingAdd ∷ arithmetic.SaturatingSub ∷ []

abbrev pub counts : List Count
counts = count.AtLeast ∷ count.AtMost ∷ count.Exactly ∷ count.CountUpTo ∷ []

-- over the reading of what lies inside, of parts that are at most so high
module _ (below : Level → Reader Expr) (limit : ℕ) where
  abbrev pub bind_over : Reader (Bind Expr)
  bind_over = making (λ t. record { name = t.0; value = t.1 }) (pair read_name (behind colon (below (whole false))))

  abbrev pub free_value_over : Reader (Option Expr)
  free_value_over = on question_mark (making (λ none. None) read_empty) (making Some (below (whole false)))

  abbrev pub free_over : Reader (Free Expr)
  free_over = making (λ t. record { name = t.0; value = t.1 }) (pair read_name (behind colon free_value_over))

  abbrev pub pattern_over : Reader (Pattern Expr)
  pattern_over = making (λ t. record { fact = t.0; keys = t.1.0; values = t.1.1 })
      (pair read_name (behind open_bracket (pair (listed close_bracket free_over) (optional arrow (behind open_brace (listed close_brace free_over))))))

  abbrev pub let_over : Reader (Let Expr)
  let_over = behind (word "let") (noded limit (λ t. record { name = t.0; value = t.1 }) (pair read_name (behind equals (below (whole false)))))

  -- what stands behind the opening brace
  abbrev pub body_over : Reader (ExprBlock Expr)
  body_over = making (λ t. record { lets = t.0; value = t.1 }) (pair (many colon let_over) (before close_brace (below (whole false))))

  abbrev pub else_over : Reader (ElseExpr Expr)
  else_over = on open_brace (making else_expr.Block body_over) (making else_expr.If (below conditional))

  -- what stands behind the word
  abbrev pub conditional_over : Reader Expr
  conditional_over = noded (suc limit) (λ t. expr.If (record { head = t.0; then = t.1.0; otherwise = t.1.1 }))
      (pair (below (whole true)) (pair (behind open_brace body_over) (behind (word "else") else_over)))

  -- what begins with two names
  abbrev pub two_names_over : Part (List ℕ) → Part (List ℕ) → Reader Expr
  two_names_over a b = on open_paren (noded (suc limit) (λ t. expr.ForeignCall t.0 t.1.0 t.1.1) (paired a (paired b (listed close_paren (below (whole false))))))
      (noded (suc limit) expr.Literal (making {A = List ℕ × List ℕ} (λ t. literal.Variant t.0 t.1) (λ ts. Some (made_both (λ a b. (a, b)) a b, ts))))

  -- what begins with a name. A head has no brace behind it.
  abbrev pub braced_over : Bool → Part (List ℕ) → Reader Expr
  braced_over true a = built (suc limit) (expr.Name a.tree) a.height
  braced_over false a = on open_brace (noded (suc limit) (λ t. expr.Struct t.0 t.1) (paired a (listed close_brace bind_over))) (built (suc limit) (expr.Name a.tree) a.height)

  abbrev pub name_over : Bool → Part (List ℕ) → Reader Expr
  name_over is_head a = on path (λ ts. option_and_then (λ b. two_names_over a b.0 b.1) (read_name ts))
      (on open_paren (noded (suc limit) (λ t. expr.Call t.0 t.1) (paired a (listed close_paren (below (whole false)))))
      (braced_over is_head a))

  abbrev pub arithmetic_over : Arithmetic → Reader Expr
  arithmetic_over op = noded (suc limit) (λ t. expr.Arithmetic op t.0 t.1) (behind open_paren (pair (below (whole false)) (behind comma (before close_paren (below (whole false))))))

  abbrev pub count_over : Count → Reader Expr
  count_over op = noded (suc limit) (λ t. expr.Count op t.0 t.1) (pair read_number pattern_over)

  -- what begins with no name
  abbrev pub keyword_over : Reader Expr
  keyword_over =
      on (word "None") (noded (suc limit) (λ none. expr.None) read_empty)
      (on (word "Some") (noded (suc limit) expr.Some (behind open_paren (before close_paren (below (whole false)))))
      (on (word "this") (noded (suc limit) (λ none. expr.This) read_empty)
      (on open_paren (noded (suc limit) (λ inner. inner) (before close_paren (below (whole false))))
      (on (word "query") (noded (suc limit) expr.Query pattern_over)
      (on (word "exists") (noded (suc limit) expr.Exists pattern_over)
      (on (word "if") conditional_over
      (operated arithmetic_token arithmetics arithmetic_over
      (operated count_token counts count_over
      (noded (suc limit) expr.Literal read_constant)))))))))

  abbrev pub primary_over : Bool → Reader Expr
  primary_over is_head = named (name_over is_head) keyword_over

  abbrev pub unary_over : Bool → Reader Expr
  unary_over is_head = operated unary_token signs (λ op. noded (suc limit) (expr.Unary op) (below (operand is_head)))
      (chained dot (node_added (suc limit) expr.Field) (primary_over is_head) read_name)

  -- what stands behind the first operand
  abbrev pub tested_over : Part Expr → Reader Expr
  tested_over a = on (word "is") (operated presence_token presences (λ op. built (suc limit) (expr.Is a.tree op) a.height) nothing) (λ ts. Some (a, ts))

  abbrev pub compared_over : Bool → Part Expr → Reader Expr
  compared_over is_head a = operated comparison_token comparisons (λ op. noded (suc limit) (λ t. expr.Compare t.0 op t.1) (paired a (unary_over is_head))) (tested_over a)

  abbrev pub comparison_over : Bool → Reader Expr
  comparison_over is_head ts = option_and_then (λ a. compared_over is_head a.0 a.1) (unary_over is_head ts)

  abbrev pub and_over : Bool → Reader Expr
  and_over is_head = chained and (node_added (suc limit) expr.And) (comparison_over is_head) (comparison_over is_head)

  abbrev pub or_over : Bool → Reader Expr
  or_over is_head = chained or (node_added (suc limit) expr.Or) (and_over is_head) (and_over is_head)

  abbrev pub expr_over : Level → Reader Expr
  expr_over (whole is_head) = or_over is_head
  expr_over (operand is_head) = unary_over is_head
  expr_over conditional = behind (word "if") conditional_over

-- an expression of at most this height
unfoldable pub read_expr : ℕ → Level → Reader Expr
read_expr zero level ts = None
read_expr (suc limit) level ts = expr_over (read_expr limit) limit level ts
