-- How a block ends, and what its writes make of the facts.
use Rattle.std.specs.Prelude.{List, [], ◌∷◌, Option, Ok, Err}
use Rattle.fact_store.specs.Writes.{Outcome, created, deleted, updated}
use Rattle.fact_store.specs.declared.row.Row.{Row}
use Rattle.fact_store.specs.declared.write_fault.WriteFault.{WriteFault}
use Rattle.fact_store.specs.declared.write_fault.WriteFault.TheVariants as write_fault
use Rattle.policy_meaning.specs.Finish.{Change, Create, Update, Delete, Emit}
use Rattle.policy_meaning.specs.Outcomes.{Halt, Check, Fault, Stuck, Out, Done, Ends}
use Rattle.policy_meaning.specs.Statements.{Flow, Goes, Returns, Finishes, Ran}
use Rattle.policy_meaning.specs.declared.effect.Effect.{Effect}
use Rattle.policy_meaning.specs.declared.ends.FaultKind.{FaultKind}
use Rattle.policy_meaning.specs.declared.ends.FaultKind.TheVariants as fault
use Rattle.policy_rules.specs.Names.{Name}

-- How a policy block or a recall block ends: it passes with the facts behind its writes and with its effects; a check fails, with the name of the
-- recall that it asks for, where it names one; a fault; or stuck, as no block of a well-typed policy is.
pub data Ended : Type 0 where
  Passes : (rows : List Row) → (effects : List Effect) → Ended
  Checks : (recall : Option Name) → Ended
  Faults : (kind : FaultKind) → Ended
  Sticks : Ended

-- The fault of a write that isn't possible. None of the outcomes of a write is a want of memory.
abbrev pub write_ended : WriteFault → Ended
write_ended write_fault.Exists = Faults fault.Exists
write_ended write_fault.Missing = Faults fault.Missing
write_ended write_fault.Differs = Faults fault.Differs
write_ended write_fault.NoMemory = Sticks

-- A write and what follows it.
abbrev pub written : Outcome → (List Row → Ended) → Ended
written (Ok rows) next = next rows
written (Err why) next = write_ended why

-- One more effect, in front of those that follow.
abbrev pub with_effect : Effect → Ended → Ended
with_effect e (Passes rows effects) = Passes rows (e ∷ effects)
with_effect e other = other

-- Writes and effects in order: each write meets the facts that those before it left, and the first that isn't possible ends the block, with all its
-- writes and effects dropped.
abbrev pub applied : List Change → List Row → Ended
applied [] rows = Passes rows []
applied (Create row ∷ more) rows = written (created row rows) (applied more)
applied (Update old values ∷ more) rows = written (updated old values rows) (applied more)
applied (Delete fact keys ∷ more) rows = written (deleted fact keys rows) (applied more)
applied (Emit e ∷ more) rows = with_effect e (applied more rows)

-- A block that ends without `finish` passes with no writes.
abbrev pub flow_ended : List Row → Flow → Ended
flow_ended rows Goes = Passes rows []
flow_ended rows (Finishes changes) = applied changes rows
flow_ended rows (Returns v) = Sticks

abbrev pub halt_ended : Halt → Ended
halt_ended (Check recall) = Checks recall
halt_ended (Fault kind) = Faults kind
halt_ended Stuck = Sticks

-- How a block ends that began with these facts.
abbrev pub block_ended : List Row → Out Ran → Ended
block_ended rows (Done r turns) = flow_ended rows r.flow
block_ended rows (Ends halt) = halt_ended halt
