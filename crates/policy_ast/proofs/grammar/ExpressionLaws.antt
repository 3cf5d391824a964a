-- The laws of the readings of expressions.
use Rattle.std.proofs.Common.{◌≡◌, ℕ, zero, suc, ◌≤◌, Bool, true, ◌∷◌, Some, refl, ap, sym, subst, ◌∙◌, arith}
use Rattle.policy_ast.specs.declared.expr.Comparison.{Comparison}
use Rattle.policy_ast.specs.declared.expr.Comparison.TheVariants as comparison
use Rattle.policy_ast.specs.declared.expr.Expr.{Expr}
use Rattle.policy_ast.specs.declared.expr.Expr.TheVariants as expr
use Rattle.policy_ast.specs.declared.expr.Presence.{Presence}
use Rattle.policy_ast.specs.declared.expr.Presence.TheVariants as presence
use Rattle.policy_ast.specs.declared.expr.Unary.{Unary}
use Rattle.policy_ast.specs.declared.expr.Unary.TheVariants as unary
use Rattle.policy_ast.specs.declared.part.Part.{Part}
use Rattle.policy_ast.specs.grammar.Expressions as rows
use Rattle.policy_ast.specs.grammar.Expressions.{AndOver, BindOver, BodyOver, ComparisonOver, ConditionalOver, ElseExprOver, ExprOver, ExprWithin, IsExpr, LetOver, OrOver, Level, PrimaryOver, UnaryOver, conditional, operand, whole}
use Rattle.policy_ast.specs.grammar.Fields.{IsName}
use Rattle.policy_ast.specs.grammar.Fixed.{and, comparison_token, dot, or, presence_token, unary_token, word}
use Rattle.policy_ast.specs.grammar.Forms as forms
use Rattle.policy_ast.specs.grammar.Forms.{◌▸◌, ◌◂◌, ◌⊗◌, Chained, Empty, Listed, Made, Many, Node, Optional}
use Rattle.policy_ast.specs.grammar.Parts.{Nonterminal, Kinds, node_both}
use Rattle.policy_ast.proofs.grammar.Ends.{Ends, EndsAnd, EndsComparison, EndsPrimary, EndsUnary, EndsWhole, before_and, before_comparison, before_dot, before_is, before_or}
use Rattle.policy_ast.proofs.grammar.ExpressionFacts.{comparison_parts, and_parts, expr_over_high, expr_within_parts}
use Rattle.policy_ast.proofs.grammar.Facts.{AreParts, forward}
use Rattle.policy_ast.proofs.grammar.FieldLaws.{name_is_read, name_parts}
use Rattle.policy_ast.proofs.grammar.Laws.{Always, Finds, IsFound, IsRead, after_some, behind_found, behind_is_read, bind_then, built_then, chosen_then, fits, found_as, found_by, moved, node_above, node_found, operated_finds, operated_then, paired_found, same_some}
use Rattle.policy_ast.proofs.grammar.Loops.{chained_is_read, node_is_added}
use Rattle.policy_ast.proofs.grammar.PatternLaws.{choice_is_read, choice_of}
use Rattle.policy_ast.proofs.grammar.PrimaryLaws.{primary_is_read, primary_unsigned}
use Rattle.policy_ast.proofs.grammar.Reading.{Reader, after, built, chained, node_added, noded, nothing, operated, operator, paired}
use Rattle.policy_ast.proofs.grammar.ReadingExpressions.{and_over, compared_over, comparison_over, comparisons, conditional_over, expr_over, or_over, presences, primary_over, read_expr, signs, tested_over, unary_over}
use Rattle.policy_ast.proofs.grammar.ReadingFields.{read_name}

-- an operator is seen where it stands
comparison_here : (op : Comparison) (ts : Kinds) → operator comparison_token comparisons (comparison_token op ∷ ts) ≡ Some (op, ts)
comparison_here comparison.Equal ts = refl
comparison_here comparison.NotEqual ts = refl
comparison_here comparison.Less ts = refl
comparison_here comparison.LessOrEqual ts = refl
comparison_here comparison.Greater ts = refl
comparison_here comparison.GreaterOrEqual ts = refl

presence_here : (op : Presence) (ts : Kinds) → operator presence_token presences (presence_token op ∷ ts) ≡ Some (op, ts)
presence_here presence.Some ts = refl
presence_here presence.None ts = refl

sign_here : (op : Unary) (ts : Kinds) → operator unary_token signs (unary_token op ∷ ts) ≡ Some (op, ts)
sign_here unary.Not ts = refl
sign_here unary.Unwrap ts = refl
sign_here unary.CheckUnwrap ts = refl

module _ (Below Below' : Level → Nonterminal Expr) (below : Level → Reader Expr) (limit : ℕ) (parts : (level : Level) → AreParts (Below level))
    (law : (level : Level) → IsRead (Below level) (Below' level) (below level) limit (Ends level)) where
  primary_law : (h : Bool) → IsRead (PrimaryOver Below h) (PrimaryOver Below' h) (primary_over below limit h) (suc limit) (EndsPrimary h)
  primary_law = primary_is_read Below Below' below limit parts law

  choice : IsRead (Node choice_of (Below (whole true) ⊗ BodyOver Below ⊗ word "else" ▸ ElseExprOver Below)) (Node choice_of (Below' (whole true) ⊗ BodyOver Below' ⊗ word "else" ▸ ElseExprOver Below')) (conditional_over below limit) (suc limit) Always
  choice = choice_is_read Below Below' below limit parts law

  sign_is_read : (h : Bool) (op : Unary) → IsRead (Node (expr.Unary op) (Below (operand h))) (Node (expr.Unary op) (Below' (operand h))) (noded (suc limit) (expr.Unary op) (below (operand h))) (suc limit) (EndsUnary h)
  sign_is_read h op = node_above (law (operand h)) (expr.Unary op)

  -- an operand
  plain_is_read : (h : Bool) → IsRead (Chained dot (node_both expr.Field) (PrimaryOver Below h) IsName) (Chained dot (node_both expr.Field) (PrimaryOver Below' h) IsName)
      (chained dot (node_added (suc limit) expr.Field) (primary_over below limit h) read_name) (suc limit) (EndsUnary h)
  plain_is_read h = chained_is_read dot (primary_law h) name_is_read (node_is_added expr.Field) (forward name_parts) (λ ts. tt) (before_dot h)

  unary_reads : (h : Bool) (ts rest : Kinds) (a : Part Expr) → UnaryOver Below h ts rest a → a.height ≤ suc limit → EndsUnary h rest → unary_over below limit h ts ≡ Some (a, rest)
  unary_reads h ts rest a (rows.prefixed op (forms.behind {ts = inner} x)) low ends = rw (sign_here op inner) ((sign_is_read h op).reads inner rest a x low ends)
  unary_reads h ts rest a (rows.plain (forms.chained {mid = mid} {b = b} x xs)) low ends =
      rw (primary_unsigned Below Below' below limit parts law h ts mid b x) ((plain_is_read h).reads ts rest a (forms.chained x xs) low ends)

  unary_is_read : (h : Bool) → IsRead (UnaryOver Below h) (UnaryOver Below' h) (unary_over below limit h) (suc limit) (EndsUnary h)
  unary_is_read h = record {
    reads = unary_reads h;
    finds = operated_finds unary_token signs (λ op. (sign_is_read h op).finds) (λ op ts rest a x. rows.prefixed op x) (λ ts p is. found_by rows.plain ((plain_is_read h).finds ts p is));
  }

  -- a comparison
  comparison_reads : (h : Bool) (ts rest : Kinds) (a : Part Expr) → ComparisonOver Below h ts rest a → a.height ≤ suc limit → EndsComparison h rest → comparison_over below limit h ts ≡ Some (a, rest)
  comparison_reads h ts rest a (rows.alone x) low ends = rw (unary_reads h ts rest a x low ends.2, ends.0, ends.1) refl
  comparison_reads h ts rest a (rows.compared op (forms.node_of {a = all} (forms.pair {a = b} {b = c} x (forms.behind {ts = inner} y)))) low ends =
      rw (unary_reads h ts (comparison_token op ∷ inner) b x (omega (arith, low)) (before_comparison h op inner), comparison_here op inner, unary_reads h inner rest c y (omega (arith, low)) ends.2)
      (fits (suc limit) (expr.Compare b.tree op c.tree) all.height rest (omega (arith, low)))
  comparison_reads h ts rest a (rows.is op (forms.node_of {a = b} (forms.before (forms.before x)))) low ends =
      rw (unary_reads h ts (word "is" ∷ presence_token op ∷ rest) b x (omega (arith, low)) (before_is h (presence_token op ∷ rest)), presence_here op rest)
      (fits (suc limit) (expr.Is b.tree op) b.height rest (omega (arith, low)))

  compared_found : (h : Bool) (ts mid : Kinds) (a : Part Expr) → IsFound (UnaryOver Below' h) (suc limit) ts (a, mid) → (p : Part Expr × Kinds) → compared_over below limit h a mid ≡ Some p
      → IsFound (ComparisonOver Below' h) (suc limit) ts p
  compared_found h ts mid a first p is = operated_then comparison_token comparisons (λ op. noded (suc limit) (λ t. expr.Compare t.0 op t.1) (paired a (unary_over below limit h))) (tested_over below limit a) mid p is
      (λ op inner begins e. found_by (rows.compared op) (node_found (λ t. expr.Compare t.0 op t.1) (paired a (unary_over below limit h)) ts inner
      (paired_found a (unary_over below limit h) ts mid inner first (λ q e. moved (sym begins) (behind_found (comparison_token op) inner q ((unary_is_read h).finds inner q e)))) p e))
      (λ e. chosen_then (after (word "is") mid) (Some (a, mid)) (operated presence_token presences (λ op. built (suc limit) (expr.Is a.tree op) a.height) nothing) (Some p) e
      (λ none e. found_as (same_some (a, mid) p e) (record { spelled = rows.alone first.spelled; low = first.low }))
      (λ behind begins e. operated_then presence_token presences (λ op. built (suc limit) (expr.Is a.tree op) a.height) nothing behind p e
      (λ op inner tells e. built_then (suc limit) (expr.Is a.tree op) a.height inner p e (λ lower same. found_as same (record {
        spelled = rows.is op (forms.node_of (forms.before (forms.before (subst (λ r. UnaryOver Below' h ts r a) (after_some (word "is") mid behind begins ∙ ap (λ r. word "is" ∷ r) tells) first.spelled))));
        low = omega (arith, lower);
      })))
      (λ e. absurd (cc))))

  comparison_is_read : (h : Bool) → IsRead (ComparisonOver Below h) (ComparisonOver Below' h) (comparison_over below limit h) (suc limit) (EndsComparison h)
  comparison_is_read h = record {
    reads = comparison_reads h;
    finds = λ ts p is. bind_then (unary_over below limit h ts) (λ a. compared_over below limit h a.0 a.1) p is (λ a reads e. compared_found h ts a.1 a.0 ((unary_is_read h).finds ts a reads) p e);
  }

  -- chains
  and_is_read : (h : Bool) → IsRead (AndOver Below h) (AndOver Below' h) (and_over below limit h) (suc limit) (EndsAnd h)
  and_is_read h = chained_is_read and (comparison_is_read h) (comparison_is_read h) (node_is_added expr.And) (forward (comparison_parts Below parts h)) (before_and h) (before_and h)

  or_is_read : (h : Bool) → IsRead (OrOver Below h) (OrOver Below' h) (or_over below limit h) (suc limit) (EndsWhole h)
  or_is_read h = chained_is_read or (and_is_read h) (and_is_read h) (node_is_added expr.Or) (forward (and_parts Below parts h)) (before_or h) (before_or h)

  expr_over_is_read : (level : Level) → IsRead (ExprOver Below level) (ExprOver Below' level) (expr_over below limit level) (suc limit) (Ends level)
  expr_over_is_read (whole h) = or_is_read h
  expr_over_is_read (operand h) = unary_is_read h
  expr_over_is_read conditional = behind_is_read choice (word "if")

-- the knot
expr_within_finds : (limit : ℕ) (level : Level) → Finds (ExprWithin limit level) (read_expr limit level) limit
unfolding read_expr
expr_within_finds zero level ts p is = absurd (cc)
expr_within_finds (suc limit) level ts p is = (expr_over_is_read (ExprWithin zero) (ExprWithin limit) (read_expr limit) limit (expr_within_parts zero)
    (λ level. record { reads = λ ts rest a x low ends. absurd x; finds = expr_within_finds limit level }) level).finds ts p is

expr_within_reads : (n limit : ℕ) (level : Level) (ts rest : Kinds) (a : Part Expr) → ExprWithin n level ts rest a → a.height ≤ limit → Ends level rest → read_expr limit level ts ≡ Some (a, rest)
unfolding read_expr
expr_within_reads zero limit level ts rest a x low ends = absurd x
expr_within_reads (suc n) zero level ts rest a x low ends = let high = expr_over_high (ExprWithin n) level ts rest a x in absurd (omega (arith, high, low))
expr_within_reads (suc n) (suc limit) level ts rest a x low ends = (expr_over_is_read (ExprWithin n) (ExprWithin limit) (read_expr limit) limit (expr_within_parts n)
    (λ level. record { reads = λ ts rest a x low ends. expr_within_reads n limit level ts rest a x low ends; finds = expr_within_finds limit level }) level).reads ts rest a x low ends

expr_reads : (limit : ℕ) (level : Level) (ts rest : Kinds) (a : Part Expr) → IsExpr level ts rest a → a.height ≤ limit → Ends level rest → read_expr limit level ts ≡ Some (a, rest)
expr_reads limit level ts rest a (rows.nested n x) low ends = expr_within_reads n limit level ts rest a x low ends

pub expr_is_read : (limit : ℕ) (level : Level) → IsRead (IsExpr level) (IsExpr level) (read_expr limit level) limit (Ends level)
expr_is_read limit level = record {
  reads = expr_reads limit level;
  finds = λ ts p is. let found = expr_within_finds limit level ts p is in record { spelled = rows.nested limit found.spelled; low = found.low };
}
