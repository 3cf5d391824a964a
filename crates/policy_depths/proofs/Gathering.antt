-- What is gathered one after another, and what each form of an expression or a statement calls.
use Rattle.std.proofs.Common.{◌≡◌, ◌∙◌, ℕ, ◌+◌, ◌<◌, Bool, true, false, ◌&&◌, List, [], ◌∷◌, drop, get_or, length, map, Option, Some, None, OnOk, Result, Ok, Err, refl, ap, sym, unwrap_or}
use Rattle.std.specs.List.{list_all}
use Rattle.std.proofs.lemmas.List.{at_drop_more}
use Rattle.policy_ast.specs.declared.bind.Bind.{Bind}
use Rattle.policy_ast.specs.declared.expr.ElseExpr.{ElseExpr}
use Rattle.policy_ast.specs.declared.expr.ElseExpr.TheVariants as else_expr
use Rattle.policy_ast.specs.declared.expr.Expr.{Expr, fold-roll-Expr, map-Expr, roll-Expr}
use Rattle.policy_ast.specs.declared.expr.Expr.TheOpen.{Expr-F}
use Rattle.policy_ast.specs.declared.expr.IfExpr.{IfExpr}
use Rattle.policy_ast.specs.declared.expr.Let.{Let}
use Rattle.policy_ast.specs.declared.item.Item.{Item}
use Rattle.policy_ast.specs.declared.pattern.Free.{Free}
use Rattle.policy_ast.specs.declared.pattern.Pattern.{Pattern}
use Rattle.policy_rules.specs.Calls.{binds_hold, all_hold, else_holds, expression_calls, gaps_hold, expression_calls_layer, pattern_holds}
use Rattle.policy_rules.specs.Expressions.{value_part}
use Rattle.policy_depths.specs.working.Gathering.{Gathers, call_passes, else_passes, expression_passes, gap_passes}

abbrev Test : Type 0
Test = (ℕ → Bool) → Bool

pub and_later : (a b d : Bool) → ((a && b) && d) ≡ (a && (b && d))
and_later true b d = refl
and_later false b d = refl

pub and_true : (a : Bool) → a ≡ (a && true)
and_true true = refl
and_true false = refl

-- nothing is gathered where nothing is called
pub none_gather : (numbers : List ℕ) (all : Test) → ((test : ℕ → Bool) → all test ≡ true) → Gathers numbers numbers all
none_gather numbers all is = λ test. rw (is test) (and_true (list_all test numbers))

-- one part is gathered where it alone is called
pub same_gather : {A E : Type 0} (r : Result A E) (old new : List ℕ) (part all : Test) → ((test : ℕ → Bool) → all test ≡ part test)
    → OnOk r (Gathers old new part) → OnOk r (Gathers old new all)
same_gather (Ok x) old new part all is gathered = λ test. gathered test ∙ ap (λ b. list_all test old && b) (sym (is test))
same_gather (Err e) old new part all is gathered = tt

pub both_gather_so : (old mid new : List ℕ) (first second all : Test) → ((test : ℕ → Bool) → all test ≡ (first test && second test))
    → Gathers old mid first → Gathers mid new second → Gathers old new all
both_gather_so old mid new first second all is gathered more = λ test.
    more test ∙ ap (λ b. b && second test) (gathered test) ∙ and_later (list_all test old) (first test) (second test) ∙ ap (λ b. list_all test old && b) (sym (is test))

-- two parts are gathered one after the other
pub both_gather : {A E : Type 0} (r : Result A E) (old mid new : List ℕ) (first second all : Test) → ((test : ℕ → Bool) → all test ≡ (first test && second test))
    → Gathers old mid first → OnOk r (Gathers mid new second) → OnOk r (Gathers old new all)
both_gather (Ok x) old mid new first second all is gathered more = both_gather_so old mid new first second all is gathered more
both_gather (Err e) old mid new first second all is gathered more = tt

-- one turn of a loop over a list
pub gather_more : {A : Type 0} (P : A → Bool) (all : List A) (i : ℕ) (a : A) (old new start : Bool) → i < length all → a ≡ get_or all i a
    → new ≡ (old && P a) → (old && list_all P (drop i all)) ≡ start → (new && list_all P (drop (i + 1) all)) ≡ start
gather_more P all i a old new start lt is gathered so_far =
    ap (λ b. b && list_all P (drop (i + 1) all)) gathered
    ∙ and_later old (P a) (list_all P (drop (i + 1) all))
    ∙ ap (λ x. old && (P x && list_all P (drop (i + 1) all))) is
    ∙ ap (λ b. old && b) (sym (at_drop_more (list_all P) all i a lt))
    ∙ so_far

-- ---- maps inside one layer

abbrev first_gap : {A : Type 0} → List (Free A) → Option A
first_gap [] = None
first_gap (x ∷ more) = x.value

abbrev gap_in : {A : Type 0} → Expr-F A → Option A
gap_in (Expr-F.Query p) = first_gap p.keys
gap_in other = None

abbrev values_in : {A : Type 0} → Expr-F A → Option (List (Free A))
values_in (Expr-F.Query p) = p.values
values_in other = None

abbrev otherwise_in : {A : Type 0} → Expr-F A → A → ElseExpr A
otherwise_in (Expr-F.If x) a = x.otherwise
otherwise_in other a = else_expr.If a

module _ (f : Expr → Bool) where
  abbrev map_gap : Option Expr → Option Bool
  map_gap o = gap_in (map-Expr Expr Bool f (Expr-F.Query (record { fact = []; keys = record { name = []; value = o } ∷ []; values = None })))

  abbrev map_values : Option (List (Free Expr)) → Option (List (Free Bool))
  map_values o = values_in (map-Expr Expr Bool f (Expr-F.Query (record { fact = []; keys = []; values = o })))

  abbrev map_free : Free Expr → Free Bool
  map_free x = record { name = x.name; value = map_gap x.value }

  abbrev map_pattern : Pattern Expr → Pattern Bool
  map_pattern p = record { fact = p.fact; keys = map map_free p.keys; values = map_values p.values }

  abbrev map_else : IfExpr Expr → ElseExpr Expr → ElseExpr Bool
  map_else x e = otherwise_in (map-Expr Expr Bool f (Expr-F.If (record { head = x.head; then = x.then; otherwise = e }))) (f x.head)

  pub all_mapped : (es : List Expr) → all_hold (map f es) ≡ list_all (λ e. f e) es
  all_mapped [] = refl
  all_mapped (e ∷ es) = ap (λ b. f e && b) (all_mapped es)

  pub binds_mapped : (bs : List (Bind Expr)) → binds_hold (map (λ b. record { name = b.name; value = f b.value }) bs) ≡ list_all (λ b. f b.value) bs
  binds_mapped [] = refl
  binds_mapped (b ∷ bs) = ap (λ rest. f b.value && rest) (binds_mapped bs)

  abbrev all_lets : List (Let Bool) → Bool
  all_lets = list_all (λ l. l.value)

  pub lets_mapped : (ls : List (Let Expr)) → all_lets (map (λ l. record { name = l.name; value = f l.value }) ls) ≡ list_all (λ l. f l.value) ls
  lets_mapped [] = refl
  lets_mapped (l ∷ ls) = ap (λ rest. f l.value && rest) (lets_mapped ls)

module _ (items : List Item) (test : ℕ → Bool) where
  abbrev f : Expr → Bool
  f = expression_passes items test

  gap_mapped : (o : Option Expr) → unwrap_or (map_gap f o) true ≡ gap_passes items test o
  gap_mapped None = refl
  gap_mapped (Some e) = refl

  gaps_mapped : (xs : List (Free Expr)) → gaps_hold (map (map_free f) xs) ≡ list_all (λ x. gap_passes items test x.value) xs
  gaps_mapped [] = refl
  gaps_mapped (x ∷ xs) = rw (gap_mapped x.value, gaps_mapped xs) refl

  value_part_mapped : (o : Option (List (Free Expr))) → value_part (map_values f o) ≡ map (map_free f) (value_part o)
  value_part_mapped None = refl
  value_part_mapped (Some xs) = refl

  pub pattern_mapped : (p : Pattern Expr) → pattern_holds (map_pattern f p)
      ≡ (list_all (λ x. gap_passes items test x.value) p.keys && list_all (λ x. gap_passes items test x.value) (value_part p.values))
  pattern_mapped p = rw (value_part_mapped p.values, gaps_mapped p.keys, gaps_mapped (value_part p.values)) refl

  pub else_mapped : (x : IfExpr Expr) (e : ElseExpr Expr) → else_holds (map_else f x e) ≡ else_passes items test e
  else_mapped x (else_expr.Block b) = ap (λ rest. rest && f b.value) (lets_mapped f b.lets)
  else_mapped x (else_expr.If e) = refl

  -- ---- the forms of an expression

  pub at_layer : (e : Expr) (layer : Expr-F Expr) → e ≡ roll-Expr layer → expression_passes items test e ≡ expression_calls_layer (call_passes items test) (map-Expr Expr Bool (expression_passes items test) layer)
  unfolding expression_passes
  at_layer e layer is = ap (λ e. expression_calls (call_passes items test) e) is ∙ fold-roll-Expr Bool (expression_calls_layer (call_passes items test)) layer

  -- an `if`, with its block and what follows `else`
  pub if_mapped : (x : IfExpr Expr) → expression_calls_layer (call_passes items test) (map-Expr Expr Bool (expression_passes items test) (Expr-F.If x))
      ≡ ((expression_passes items test x.head && (list_all (λ l. expression_passes items test l.value) x.then.lets && expression_passes items test x.then.value)) && else_passes items test x.otherwise)
  if_mapped x = rw (lets_mapped f x.then.lets, else_mapped x x.otherwise) refl
