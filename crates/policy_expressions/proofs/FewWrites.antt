-- Changes of which at most one is a write: where one of them ends the block, the facts are as before.
use Rattle.std.proofs.Common.{◌≡◌, ◌≤◌, ◌⊎◌, inl, inr, ℕ, ◌+◌, Bool, true, false, cond, List, [], ◌∷◌, ◌++◌, OnErr, Result, Ok, Err, refl, sym, ap, subst, ◌∙◌, arith}
use Rattle.fact_store.specs.declared.row.Row.{Row}
use Rattle.policy_expressions.proofs.ChangeFacts.{passes_stay}
use Rattle.policy_expressions.specs.Applying.{Applies, EndsBlock, Stays, is_write, with_effects, write_count}
use Rattle.policy_expressions.specs.declared.stop.Stop.{Stop}
use Rattle.policy_expressions.specs.declared.stop.Stop.TheVariants as stop
use Rattle.policy_expressions.specs.working.FewWrites.{FewSoFar}
use Rattle.policy_meaning.specs.Applying.{Checks, Ended, Faults, Passes, Sticks, applied, with_effect}
use Rattle.policy_meaning.specs.Finish.{Change, Create, Delete, Emit, Update}
use Rattle.policy_meaning.specs.declared.effect.Effect.{Effect}

-- effects alone pass
effects_pass : (changes : List Change) (rows : List Row) → write_count changes ≡ 0 → (effects : List Effect) × (applied changes rows ≡ Passes rows effects)
effects_pass [] rows none = ([], refl)
effects_pass (Create row ∷ changes) rows none = absurd (omega (arith, none))
effects_pass (Update old values ∷ changes) rows none = absurd (omega (arith, none))
effects_pass (Delete fact keys ∷ changes) rows none = absurd (omega (arith, none))
effects_pass (Emit e ∷ changes) rows none = let more = effects_pass changes rows (omega (arith, none)) in (e ∷ more.0, ap (with_effect e) more.1)

in_front : (effects more : List Effect) (rows : List Row) → with_effects effects (Passes rows more) ≡ Passes rows (effects ++ more)
in_front [] more rows = refl
in_front (e ∷ effects) more rows = ap (with_effect e) (in_front effects more rows)

abbrev rows_of : Ended → List Row
rows_of (Passes rows effects) = rows
rows_of other = []

stays : (A : Type 0) (why : Stop) (old new : List Row) → new ≡ old → Stays {A = A} (Err why) old new
stays A stop.Check old new same = same
stays A (stop.Fault kind) old new same = same
stays A stop.Stuck old new same = same
stays A stop.NoMemory old new same = tt

passes_on : (A : Type 0) (why : Stop) (ended : Ended) (rows : List Row) (effects : List Effect) (old new : List Row) → ended ≡ Passes rows effects → EndsBlock why ended → Stays {A = A} (Err why) old new
passes_on A stop.Check ended rows effects old new is ends = absurd (cc)
passes_on A (stop.Fault kind) ended rows effects old new is ends = absurd (cc)
passes_on A stop.Stuck ended rows effects old new is ends = absurd (cc)
passes_on A stop.NoMemory ended rows effects old new is ends = tt

pub few_begin : (all : List Change) (rows : List Row) → write_count all ≤ 1 → FewSoFar all all rows rows []
few_begin all rows few = record { rest = refl; few = few; same = inl refl }

module _ {all more : List Change} {c : Change} {first now : List Row} {effects : List Effect} (so_far : FewSoFar all (c ∷ more) first now effects) where
  -- a change was made
  pub few_on : (new : List Row) (after : List Effect) → ((more : List Change) → Applies {A = Unit {0}} (Ok tt) c now new effects after more) → FewSoFar all more first new after
  few_on new after applies = record {
    rest = sym (applies more) ∙ so_far.rest;
    few = let few = so_far.few in omega (arith, few);
    same = by c so_far.few so_far.same (applies []);
  }
    where
      by : (c : Change) → write_count (c ∷ more) ≤ 1 → (now ≡ first) ⊎ (write_count (c ∷ more) ≡ 0) → with_effects effects (applied (c ∷ []) now) ≡ with_effects after (applied [] new)
          → (new ≡ first) ⊎ (write_count more ≡ 0)
      by (Create row) few same made = inr (omega (arith, few))
      by (Update old values) few same made = inr (omega (arith, few))
      by (Delete fact keys) few same made = inr (omega (arith, few))
      by (Emit e) few (inl same) made = inl (sym (ap rows_of (sym (in_front effects (e ∷ []) now) ∙ made ∙ passes_stay after new)) ∙ same)
      by (Emit e) few (inr none) made = inr (omega (arith, none))

  -- it ends the block
  pub few_stop : (A : Type 0) (why : Stop) (new : List Row) (after : List Effect) → ((more : List Change) → Applies {A = Unit {0}} (Err why) c now new effects after more) → new ≡ now → Stays {A = A} (Err why) first new
  few_stop A why new after applies same = by so_far.same
    where
      by : (now ≡ first) ⊎ (write_count (c ∷ more) ≡ 0) → Stays {A = A} (Err why) first new
      by (inl is) = stays A why first new (same ∙ is)
      by (inr none) = let passes = effects_pass (c ∷ more) now none in
          passes_on A why (with_effects effects (applied (c ∷ more) now)) now (effects ++ passes.0) first new (ap (with_effects effects) passes.1 ∙ in_front effects passes.0 now) (applies more)

  pub few_ends : (why : Stop) (new : List Row) (after : List Effect) → ((more : List Change) → Applies {A = Unit {0}} (Err why) c now new effects after more) → EndsBlock why (applied all first)
  few_ends why new after applies = subst (EndsBlock why) so_far.rest (applies more)

-- all are made
pub few_pass : {all left : List Change} {first now : List Row} {effects : List Effect} → FewSoFar all left first now effects → left ≡ [] → applied all first ≡ Passes now effects
few_pass {all} {left} {first} {now} {effects} so_far none = sym so_far.rest ∙ ap (λ left. with_effects effects (applied left now)) none ∙ passes_stay effects now

-- a call that leaves the facts wherever it isn't Ok
pub stays_where : {A : Type 0} (r : Result A Stop) (old new : List Row) → OnErr r (new ≡ old) → Stays r old new
stays_where (Ok done) old new same = tt
stays_where {A} (Err why) old new same = stays A why old new same
