-- What one change makes of the end of a block.
use Rattle.std.proofs.Common.{◌≡◌, List, [], ◌∷◌, ◌++◌, None, Result, Ok, Err, refl, sym, ap, subst, ◌∙◌}
use Rattle.fact_store.specs.Writes.{Outcome}
use Rattle.fact_store.specs.declared.row.Row.{Row}
use Rattle.policy_expressions.specs.Applying.{Applies, AppliesWrite, EndsBlock, with_effects}
use Rattle.policy_expressions.specs.declared.stop.Stop.{Stop}
use Rattle.policy_expressions.specs.declared.stop.Stop.TheVariants as stop
use Rattle.policy_meaning.specs.Applying.{Checks, Ended, Faults, Passes, Sticks, applied, with_effect, written}
use Rattle.policy_meaning.specs.Finish.{Change}
use Rattle.policy_meaning.specs.declared.effect.Effect.{Effect}
use Rattle.policy_meaning.specs.declared.ends.FaultKind.{FaultKind}

checks_stay : (effects : List Effect) → with_effects effects (Checks None) ≡ Checks None
checks_stay [] = refl
checks_stay (e ∷ effects) = ap (with_effect e) (checks_stay effects)

faults_stay : (effects : List Effect) (kind : FaultKind) → with_effects effects (Faults kind) ≡ Faults kind
faults_stay [] kind = refl
faults_stay (e ∷ effects) kind = ap (with_effect e) (faults_stay effects kind)

sticks_stay : (effects : List Effect) → with_effects effects Sticks ≡ Sticks
sticks_stay [] = refl
sticks_stay (e ∷ effects) = ap (with_effect e) (sticks_stay effects)

ends_stay : (why : Stop) (effects : List Effect) (ended : Ended) → EndsBlock why ended → EndsBlock why (with_effects effects ended)
ends_stay stop.Check effects ended is = ap (with_effects effects) is ∙ checks_stay effects
ends_stay (stop.Fault kind) effects ended is = ap (with_effects effects) is ∙ faults_stay effects kind
ends_stay stop.Stuck effects ended is = ap (with_effects effects) is ∙ sticks_stay effects
ends_stay stop.NoMemory effects ended is = tt

-- a write, by what it made of the rows
pub write_applies : {A : Type 0} (r : Result A Stop) (outcome : Outcome) (change : Change) (old new : List Row) (effects : List Effect)
    → ((more : List Change) → applied (change ∷ more) old ≡ written outcome (applied more)) → AppliesWrite r outcome old new → (more : List Change) → Applies r change old new effects effects more
write_applies (Ok done) outcome change old new effects is made more = ap (with_effects effects) (is more ∙ ap (λ o. written o (applied more)) made)
write_applies (Err why) outcome change old new effects is made more =
    ends_stay why effects (applied (change ∷ more) old) (subst (EndsBlock why) (sym (is more)) (made.1 (applied more)))

-- an effect stands behind those before it
pub effect_applies : (effects : List Effect) (e : Effect) (ended : Ended) → with_effects effects (with_effect e ended) ≡ with_effects (effects ++ e ∷ []) ended
effect_applies [] e ended = refl
effect_applies (x ∷ effects) e ended = ap (with_effect x) (effect_applies effects e ended)

-- where no change is left, the effects are those so far
pub passes_stay : (effects : List Effect) (rows : List Row) → with_effects effects (Passes rows []) ≡ Passes rows effects
passes_stay [] rows = refl
passes_stay (e ∷ effects) rows = ap (with_effect e) (passes_stay effects rows)
