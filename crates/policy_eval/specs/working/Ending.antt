-- How a block came to its end, as a call tells it.
use Rattle.std.specs.Prelude.{◌≡◌, List, Result, Ok, Err, None}
use Rattle.fact_store.specs.declared.row.Row.{Row}
use Rattle.policy_expressions.specs.declared.stop.Stop.{Stop}
use Rattle.policy_expressions.specs.declared.stop.Stop.TheVariants as stop
use Rattle.policy_meaning.specs.Applying.{Checks, Ended, Faults, Passes, Sticks}
use Rattle.policy_meaning.specs.declared.effect.Effect.{Effect}

-- The block passed with these effects, and the facts are those behind its writes; or it ended for this reason, and the facts are as before. Where it is
-- stuck, or out of memory, nothing is said of the facts.
abbrev pub EndsSo : Result (List Effect) Stop → Ended → List Row → List Row → Type 0
EndsSo (Ok effects) ended old new = ended ≡ Passes new effects
EndsSo (Err stop.Check) ended old new = (ended ≡ Checks None) × (new ≡ old)
EndsSo (Err (stop.Fault kind)) ended old new = (ended ≡ Faults kind) × (new ≡ old)
EndsSo (Err stop.Stuck) ended old new = ended ≡ Sticks
EndsSo (Err stop.NoMemory) ended old new = Unit {0}
