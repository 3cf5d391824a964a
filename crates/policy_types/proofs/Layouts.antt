-- Lists inside layers of trees, each by what a function makes of its expressions.
use Rattle.std.proofs.Common.{◌≡◌, Bool, true, ◌&&◌, List, [], ◌∷◌, map, Option, Some, None, option_map, unwrap_or, refl, ap, ◌∙◌}
use Rattle.std.specs.List.{list_all}
use Rattle.policy_ast.specs.declared.bind.Bind.{Bind}
use Rattle.policy_ast.specs.declared.expr.Expr.{Expr}
use Rattle.policy_ast.specs.declared.pattern.Free.{Free}
use Rattle.policy_rules.proofs.Maps.{free_values, map_bind, map_free, map_gap}
use Rattle.policy_rules.specs.Calls.{Callee, all_hold, binds_call, binds_hold, expression_calls, gap_calls, gaps_call, gaps_hold}
use Rattle.policy_rules.specs.Names.{Name}

module _ {X A : Type 0} (f : X → A) where
  gap_map : (o : Option X) → map_gap f o ≡ option_map f o
  gap_map None = refl
  gap_map (Some x) = refl

  gaps_map : (os : List (Option X)) → map (map_gap f) os ≡ map (option_map f) os
  gaps_map [] = refl
  gaps_map (o ∷ os) = rw (gap_map o, gaps_map os) refl

  pub gaps_of : (xs : List (Free X)) → map (λ x. x.value) (map (map_free f) xs) ≡ map (option_map f) (map (λ x. x.value) xs)
  gaps_of xs = free_values f xs ∙ gaps_map (map (λ x. x.value) xs)

  pub gaps_in : (xs : List (Free X)) → map (λ x. option_map f x.value) xs ≡ map (option_map f) (map (λ x. x.value) xs)
  gaps_in [] = refl
  gaps_in (x ∷ xs) = ap (λ os. option_map f x.value ∷ os) (gaps_in xs)

pub hold_all : {A : Type 0} (f : A → Bool) (xs : List A) → all_hold (map f xs) ≡ list_all f xs
hold_all f [] = refl
hold_all f (x ∷ xs) = ap (λ rest. f x && rest) (hold_all f xs)

module _ (may : Callee → Name → Bool) where
  abbrev calls : Expr → Bool
  calls = expression_calls may

  pub binds_calls : (binds : List (Bind Expr)) → binds_hold (map (map_bind calls) binds) ≡ list_all calls (map (λ b. b.value) binds)
  binds_calls [] = refl
  binds_calls (b ∷ binds) = ap (λ rest. calls b.value && rest) (binds_calls binds)

  pub bound_calls : (binds : List (Bind Expr)) → binds_call may binds ≡ list_all calls (map (λ b. b.value) binds)
  bound_calls [] = refl
  bound_calls (b ∷ binds) = ap (λ rest. calls b.value && rest) (bound_calls binds)

  gap_by : (o : Option Expr) → unwrap_or (map_gap calls o) true ≡ gap_calls may o
  gap_by None = refl
  gap_by (Some e) = refl

  pub gaps_calls : (xs : List (Free Expr)) → gaps_hold (map (map_free calls) xs) ≡ list_all (gap_calls may) (map (λ x. x.value) xs)
  gaps_calls [] = refl
  gaps_calls (x ∷ xs) = rw (gap_by x.value, gaps_calls xs) refl

  pub gaps_bound : (xs : List (Free Expr)) → gaps_call may xs ≡ list_all (gap_calls may) (map (λ x. x.value) xs)
  gaps_bound [] = refl
  gaps_bound (x ∷ xs) = ap (λ rest. gap_calls may x.value && rest) (gaps_bound xs)
