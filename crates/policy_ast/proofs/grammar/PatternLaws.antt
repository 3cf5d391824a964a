-- The laws of the readings of what stands in expressions: binds, patterns, arguments, blocks and `if`.
use Rattle.std.proofs.Common.{◌≡◌, ℕ, suc, ◌≤◌, true, false, List, Option, Some, None, refl}
use Rattle.policy_ast.specs.declared.expr.ElseExpr.{ElseExpr}
use Rattle.policy_ast.specs.declared.expr.ElseExpr.TheVariants as else_expr
use Rattle.policy_ast.specs.declared.expr.Expr.{Expr}
use Rattle.policy_ast.specs.declared.expr.Expr.TheVariants as expr
use Rattle.policy_ast.specs.declared.expr.ExprBlock.{ExprBlock}
use Rattle.policy_ast.specs.declared.expr.Let.{Let}
use Rattle.policy_ast.specs.declared.part.Part.{Part}
use Rattle.policy_ast.specs.grammar.Expressions as rows
use Rattle.policy_ast.specs.grammar.Expressions.{AndOver, BindOver, BodyOver, ComparisonOver, ConditionalOver, ElseExprOver, ExprOver, ExprWithin, IsExpr, LetOver, OrOver, Level, PrimaryOver, UnaryOver, conditional, operand, whole}
use Rattle.policy_ast.specs.grammar.Fixed.{arrow, close_brace, close_bracket, close_paren, colon, equals, open_brace, open_bracket, question_mark, word}
use Rattle.policy_ast.specs.grammar.Forms as forms
use Rattle.policy_ast.specs.grammar.Forms.{◌▸◌, ◌◂◌, ◌⊗◌, Chained, Empty, Listed, Made, Many, Node, Optional}
use Rattle.policy_ast.specs.grammar.Parts.{Nonterminal, Kinds}
use Rattle.policy_ast.specs.grammar.Patterns as patterns
use Rattle.policy_ast.specs.grammar.Patterns.{FreeOver, FreeValueOver, PatternOver}
use Rattle.policy_ast.proofs.grammar.Ends.{Ends, EndsPattern, EndsWhole, before_close_brace, before_close_bracket, before_close_paren, before_colon, before_comma, before_let, ends_before_brace}
use Rattle.policy_ast.proofs.grammar.ExpressionFacts.{bind_parts, free_parts, let_parts}
use Rattle.policy_ast.proofs.grammar.Facts.{AreParts, forward, not_after, unclosed}
use Rattle.policy_ast.proofs.grammar.FieldLaws.{name_is_read}
use Rattle.policy_ast.proofs.grammar.Laws.{Always, IsRead, before_is_read, behind_is_read, empty_is_read, found_by, made_is_read, node_above, node_is_read, on_finds, optional_is_read, pair_is_read, starts_with}
use Rattle.policy_ast.proofs.grammar.Loops.{listed_is_read, many_is_read}
use Rattle.policy_ast.proofs.grammar.Reading.{Reader, listed}
use Rattle.policy_ast.proofs.grammar.ReadingExpressions.{bind_over, body_over, conditional_over, else_over, free_over, free_value_over, let_over, pattern_over}

abbrev pub block_of : List (Let Expr) × Expr → ExprBlock Expr
block_of t = record { lets = t.0; value = t.1 }

abbrev pub choice_of : Expr × (ExprBlock Expr × ElseExpr Expr) → Expr
choice_of t = expr.If (record { head = t.0; then = t.1.0; otherwise = t.1.1 })

module _ (Below Below' : Level → Nonterminal Expr) (below : Level → Reader Expr) (limit : ℕ) (parts : (level : Level) → AreParts (Below level))
    (law : (level : Level) → IsRead (Below level) (Below' level) (below level) limit (Ends level)) where
  bind_is_read : IsRead (BindOver Below) (BindOver Below') (bind_over below limit) limit (EndsWhole false)
  bind_is_read = made_is_read (pair_is_read name_is_read (behind_is_read (law (whole false)) colon) (λ ts rest b y. tt)) _

  pub binds_are_read : IsRead (Listed (BindOver Below) close_brace) (Listed (BindOver Below') close_brace) (listed close_brace (bind_over below limit)) limit Always
  binds_are_read = listed_is_read close_brace bind_is_read (forward (bind_parts Below parts)) (unclosed (bind_parts Below parts) close_brace refl) before_close_brace before_comma (λ rest. refl)

  pub keys_are_read : IsRead (Listed (BindOver Below) close_bracket) (Listed (BindOver Below') close_bracket) (listed close_bracket (bind_over below limit)) limit Always
  keys_are_read = listed_is_read close_bracket bind_is_read (forward (bind_parts Below parts)) (unclosed (bind_parts Below parts) close_bracket refl) before_close_bracket before_comma (λ rest. refl)

  pub arguments_are_read : IsRead (Listed (Below (whole false)) close_paren) (Listed (Below' (whole false)) close_paren) (listed close_paren (below (whole false))) limit Always
  arguments_are_read = listed_is_read close_paren (law (whole false)) (forward (parts (whole false))) (unclosed (parts (whole false)) close_paren refl) before_close_paren before_comma (λ rest. refl)

  free_value_is_read : IsRead (FreeValueOver (Below (whole false))) (FreeValueOver (Below' (whole false))) (free_value_over below limit) limit (EndsWhole false)
  free_value_is_read = record {
    reads = reads;
    finds = on_finds question_mark ((made_is_read empty_is_read (λ none. None)).finds) (λ ts rest a x. patterns.free x)
        (λ ts p is. found_by patterns.value ((made_is_read (law (whole false)) Some).finds ts p is));
  }
    where
      reads : (ts rest : Kinds) (a : Part (Option Expr)) → FreeValueOver (Below (whole false)) ts rest a → a.height ≤ limit → EndsWhole false rest → free_value_over below limit ts ≡ Some (a, rest)
      reads ts rest a (patterns.free (forms.behind {ts = inner} x)) low ends = (made_is_read empty_is_read (λ none. None)).reads inner rest a x low tt
      reads ts rest a (patterns.value (forms.made_of {a = b} x)) low ends =
          rw (not_after question_mark refl ts ((parts (whole false) ts rest b x).opens)) ((made_is_read (law (whole false)) Some).reads ts rest a (forms.made_of x) low ends)

  free_is_read : IsRead (FreeOver (Below (whole false))) (FreeOver (Below' (whole false))) (free_over below limit) limit (EndsWhole false)
  free_is_read = made_is_read (pair_is_read name_is_read (behind_is_read free_value_is_read colon) (λ ts rest b y. tt)) _

  frees_are_read : IsRead (Listed (FreeOver (Below (whole false))) close_brace) (Listed (FreeOver (Below' (whole false))) close_brace) (listed close_brace (free_over below limit)) limit Always
  frees_are_read = listed_is_read close_brace free_is_read (forward (free_parts Below parts)) (unclosed (free_parts Below parts) close_brace refl) before_close_brace before_comma (λ rest. refl)

  free_keys_are_read : IsRead (Listed (FreeOver (Below (whole false))) close_bracket) (Listed (FreeOver (Below' (whole false))) close_bracket) (listed close_bracket (free_over below limit)) limit Always
  free_keys_are_read = listed_is_read close_bracket free_is_read (forward (free_parts Below parts)) (unclosed (free_parts Below parts) close_bracket refl) before_close_bracket before_comma (λ rest. refl)

  pub pattern_is_read : IsRead (PatternOver (Below (whole false))) (PatternOver (Below' (whole false))) (pattern_over below limit) limit EndsPattern
  pattern_is_read = made_is_read (pair_is_read name_is_read (behind_is_read (pair_is_read free_keys_are_read (optional_is_read (behind_is_read frees_are_read open_brace) arrow)
      (λ ts rest b y. tt)) open_bracket) (λ ts rest b y. tt)) _

  pub let_is_read : IsRead (LetOver Below) (LetOver Below') (let_over below limit) limit (EndsWhole false)
  let_is_read = behind_is_read (node_is_read (pair_is_read name_is_read (behind_is_read (law (whole false)) equals) (λ ts rest b y. tt)) _) (word "let")

  body_is_read : IsRead (Made block_of (Many (LetOver Below) colon ⊗ Below (whole false) ◂ close_brace)) (Made block_of (Many (LetOver Below') colon ⊗ Below' (whole false) ◂ close_brace)) (body_over below limit) limit Always
  body_is_read = made_is_read (pair_is_read (many_is_read colon let_is_read (forward (let_parts Below parts)) (unclosed (let_parts Below parts) colon refl) before_colon
      (starts_with (EndsWhole false) (word "let") before_let)) (before_is_read (law (whole false)) close_brace before_close_brace) (λ ts rest b y. tt)) _

  else_is_read : IsRead (ElseExprOver Below) (ElseExprOver Below') (else_over below limit) limit Always
  else_is_read = record {
    reads = reads;
    finds = on_finds open_brace ((made_is_read body_is_read else_expr.Block).finds) blocks (λ ts p is. found_by rows.else_if ((made_is_read (law conditional) else_expr.If).finds ts p is));
  }
    where
      blocks : (ts rest : Kinds) (a : Part (ElseExpr Expr)) → (open_brace ▸ Made else_expr.Block (Made block_of (Many (LetOver Below') colon ⊗ Below' (whole false) ◂ close_brace))) ts rest a → ElseExprOver Below' ts rest a
      blocks ts rest a (forms.behind (forms.made_of x)) = rows.body (forms.made_of (forms.behind x))

      reads : (ts rest : Kinds) (a : Part (ElseExpr Expr)) → ElseExprOver Below ts rest a → a.height ≤ limit → Always rest → else_over below limit ts ≡ Some (a, rest)
      reads ts rest a (rows.body (forms.made_of (forms.behind {ts = inner} x))) low ends = (made_is_read body_is_read else_expr.Block).reads inner rest a (forms.made_of x) low tt
      reads ts rest a (rows.else_if (forms.made_of {a = b} x)) low ends =
          rw (not_after open_brace refl ts ((parts conditional ts rest b x).opens)) ((made_is_read (law conditional) else_expr.If).reads ts rest a (forms.made_of x) low tt)

  -- behind the word
  pub choice_is_read : IsRead (Node choice_of (Below (whole true) ⊗ BodyOver Below ⊗ word "else" ▸ ElseExprOver Below)) (Node choice_of (Below' (whole true) ⊗ BodyOver Below' ⊗ word "else" ▸ ElseExprOver Below'))
      (conditional_over below limit) (suc limit) Always
  choice_is_read = node_above (pair_is_read (law (whole true)) (pair_is_read (behind_is_read body_is_read open_brace) (behind_is_read else_is_read (word "else")) (λ ts rest b y. tt))
      (λ ts rest b y. body_first ts rest b y)) choice_of
    where
      body_first : (ts rest : Kinds) (b : Part (ExprBlock Expr × ElseExpr Expr)) → (BodyOver Below ⊗ word "else" ▸ ElseExprOver Below) ts rest b → EndsWhole true ts
      body_first ts rest b (forms.pair (forms.behind {ts = inner} x) y) = ends_before_brace inner
