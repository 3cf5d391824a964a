-- What the reply to an action tells: its counts, or its fault.
use Rattle.std.specs.Prelude.{◌≡◌, ℕ, List, ◌++◌, length, Err}
use Rattle.command.specs.declared.command.Command.{Command}
use Rattle.fact_store.specs.declared.row.Row.{Row}
use Rattle.policy_ast.specs.declared.policy.PlacedItem.{PlacedItem}
use Rattle.replica.specs.Takes.{HasBatch}
use Rattle.replica.specs.declared.counts.Published.{Published}
use Rattle.replica.specs.declared.refusal.Refusal.{Refusal}
use Rattle.replica.specs.declared.refusal.Refusal.TheVariants as refusal
use Rattle.transaction.specs.Acting.{Acts, Made, Request as Action}
use Rattle.transaction.specs.Drafts.{Basis}
use Rattle.transaction.specs.declared.fault.ActFault.{ActFault}
use Rattle.transaction.specs.declared.fault.ActFault.TheVariants as act_fault

-- The published commands, each of which has an entry, and the merges before them; and the batch.
pub record IsCounted (policy : List PlacedItem) (old : List Command) (made : Made) (counts : Published) : Type 0 where
  pub commands : counts.commands ≡ length made.entries
  pub merges : counts.merges ≡ made.merges
  pub batch : HasBatch policy old (old ++ made.commands) counts.cut counts.entries

-- The first fault of an action, as a refusal.
abbrev pub IsFault : Basis → List Row → Action → ℕ → ℕ → Refusal → Type 0
IsFault basis rows action before now why = (fault : ActFault) × Acts basis rows action (Err fault) before now × (why ≡ refusal.Act fault) × (fault ≡ act_fault.NoMemory → ⊥)
