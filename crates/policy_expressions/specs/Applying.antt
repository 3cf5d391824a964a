-- What the changes of a block make of the facts, one after another.
use Rattle.std.specs.Prelude.{ℕ, ◌+◌, Bool, true, false, if◌then◌else◌, ◌≡◌, List, [], ◌∷◌, Result, Ok, Err, None, ⊤}
use Rattle.fact_store.specs.Writes.{Outcome}
use Rattle.fact_store.specs.declared.row.Row.{Row}
use Rattle.policy_meaning.specs.Applying.{Checks, Ended, Faults, Passes, Sticks, applied, with_effect, written}
use Rattle.policy_meaning.specs.Finish.{Change, Create, Delete, Emit, Update}
use Rattle.policy_meaning.specs.declared.effect.Effect.{Effect}
use Rattle.policy_expressions.specs.declared.stop.Stop.{Stop}
use Rattle.policy_expressions.specs.declared.stop.Stop.TheVariants as stop

-- A block ends for this reason. Out of memory says nothing.
abbrev pub EndsBlock : Stop → Ended → Type 0
EndsBlock stop.Check ended = ended ≡ Checks None
EndsBlock (stop.Fault kind) ended = ended ≡ Faults kind
EndsBlock stop.Stuck ended = ended ≡ Sticks
EndsBlock stop.NoMemory ended = ⊤

-- How a block ends with these effects in front of those that follow.
abbrev pub with_effects : List Effect → Ended → Ended
with_effects [] ended = ended
with_effects (e ∷ effects) ended = with_effect e (with_effects effects ended)

-- One change was made, so that what follows ends the block as before; or the block ends with it.
abbrev pub Applies : {A : Type 0} → Result A Stop → Change → List Row → List Row → List Effect → List Effect → List Change → Type 0
Applies (Ok done) change old new before after more = with_effects before (applied (change ∷ more) old) ≡ with_effects after (applied more new)
Applies (Err why) change old new before after more = EndsBlock why (with_effects before (applied (change ∷ more) old))

-- All changes were made, and these are the effects; or the block ends with one of them.
abbrev pub AppliesAll : Result (List Effect) Stop → List Change → List Row → List Row → Type 0
AppliesAll (Ok effects) changes old new = applied changes old ≡ Passes new effects
AppliesAll (Err why) changes old new = EndsBlock why (applied changes old)

-- A write was made, or the rows are as they were and the block ends with it, whatever would follow.
abbrev pub AppliesWrite : {A : Type 0} → Result A Stop → Outcome → List Row → List Row → Type 0
AppliesWrite (Ok done) outcome old new = outcome ≡ Ok new
AppliesWrite (Err why) outcome old new = (new ≡ old) × ((next : List Row → Ended) → EndsBlock why (written outcome next))

-- A change of the facts.
abbrev pub is_write : Change → Bool
is_write (Create row) = true
is_write (Update old values) = true
is_write (Delete fact keys) = true
is_write (Emit e) = false

abbrev pub write_count : List Change → ℕ
write_count [] = 0
write_count (c ∷ changes) = (if is_write c then 1 else 0) + write_count changes

-- The facts are as before where a block ends with a change. Out of memory says nothing.
abbrev pub Stays : {A : Type 0} → Result A Stop → List Row → List Row → Type 0
Stays (Ok done) old new = ⊤
Stays (Err stop.Check) old new = new ≡ old
Stays (Err (stop.Fault kind)) old new = new ≡ old
Stays (Err stop.Stuck) old new = new ≡ old
Stays (Err stop.NoMemory) old new = ⊤
