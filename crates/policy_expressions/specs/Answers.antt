-- What a call of an evaluator answers, held against how the evaluation ends.
use Rattle.std.specs.Prelude.{◌≡◌, ℕ, ◌+◌, List, length, take, Result, Ok, Err, None, ⊤}
use Rattle.policy_meaning.specs.Outcomes.{Check, Ends, Fault, Done, Out, Stuck}
use Rattle.policy_meaning.specs.declared.ends.FaultKind.TheVariants as fault
use Rattle.policy_expressions.specs.declared.stop.Stop.{Stop}
use Rattle.policy_expressions.specs.declared.stop.Stop.TheVariants as stop

-- An evaluation ends early, for this reason. Out of memory says nothing.
abbrev pub Stops : {A : Type 0} → Stop → Out A → Type 0
Stops stop.Check out = out ≡ Ends (Check None)
Stops (stop.Fault kind) out = out ≡ Ends (Fault kind)
Stops stop.Stuck out = out ≡ Ends Stuck
Stops stop.NoMemory out = ⊤

-- A call answered what an evaluation gives, with so many turns left, or why it gives nothing.
abbrev pub Gives : {A : Type 0} → Result A Stop → ℕ → Out A → Type 0
Gives (Ok x) turns out = out ≡ Done x turns
Gives (Err why) turns out = Stops why out

-- The same of a call that left in place what the evaluation gives.
abbrev pub Leaves : {A B : Type 0} → Result B Stop → A → ℕ → Out A → Type 0
Leaves (Ok done) left turns out = out ≡ Done left turns
Leaves (Err why) left turns out = Stops why out

-- One turn was taken, or none was left.
abbrev pub TakesTurn : {A : Type 0} → Result A Stop → ℕ → ℕ → Type 0
TakesTurn (Ok done) before after = before ≡ after + 1
TakesTurn (Err why) before after = (before ≡ 0) × (why ≡ stop.Fault fault.Turns)

-- A list begins with another, as it was lent.
abbrev pub Keeps : {A : Type 0} → List A → List A → Type 0
Keeps before after = take (length before) after ≡ before
