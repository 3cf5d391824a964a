-- What one seal tells, what seals make of the count of faults, and what a publish behind a seal leaves.
use Rattle.std.specs.Prelude.{◌≡◌, ℕ, ◌+◌, ◌≤◌, ◌⊎◌, IsTrue, Bool, List, [], Option, Some, None, IfSome, Result}
use Rattle.command.specs.Wire.{body}
use Rattle.command.specs.declared.command.Command.{Command}
use Rattle.fact_store.specs.declared.row.Row.{Row}
use Rattle.outside.specs.Causes.{Rose}
use Rattle.policy_ast.specs.declared.policy.PlacedItem.{PlacedItem}
use Rattle.policy_meaning.specs.Actions.{Brought}
use Rattle.policy_meaning.specs.declared.ends.Posted.{Posted}
use Rattle.transaction.specs.Drafts.{Draft, Basis}
use Rattle.transaction.specs.Publishing.{Publication, behind_opening}
use Rattle.transaction.specs.Seals.{IsSealOf, Leaves}
use Rattle.transaction.specs.declared.fault.ActFault.{ActFault}
use Rattle.transaction.specs.declared.fault.ActFault.TheVariants as fault

-- The command with a good tag, the told one where one is told, and the count of faults as it was; or none, and then the count rose.
abbrev pub IsSealed : (List ℕ → List ℕ → List ℕ → Bool) → Option (List ℕ → List ℕ → List ℕ) → List ℕ → (List ℕ → Command) → Option Command → ℕ → ℕ → Type 0
IsSealed good told author command_with None before now = Rose before now
IsSealed good told author command_with (Some c) before now =
    (tag : List ℕ) × (c ≡ command_with tag) × IsTrue (good author (body (command_with [])) tag) × IfSome told (λ made. tag ≡ made author (body (command_with []))) × (now ≡ before)

-- A draft is refused for a failed seal only where it was so already, or the count of faults rose.
abbrev pub SealRose : Option ActFault → Option ActFault → ℕ → ℕ → Type 0
SealRose old (Some fault.SealFault) before now = (old ≡ Some fault.SealFault) ⊎ Rose before now
SealRose old other before now = Unit {0}

-- The count doesn't fall, and a failed seal is its rise. Where nothing is refused it stays.
pub record HasSealCause (old new : Option ActFault) (before now : ℕ) : Type 0 where
  pub later : before ≤ now
  pub failed : SealRose old new before now
  pub same : new ≡ None → (old ≡ None) × (now ≡ before)

-- An outcome with the blocks that were run for it.
pub record Ends (publication : Publication) (old : Draft) (rows : List Row) (answer : Posted) (after : List Row) (before now : ℕ) (new : Draft) : Type 0 where
  pub ticks : ℕ
  pub counted : now ≡ before + ticks
  pub leaves : Leaves publication old rows answer after ticks new

-- The same behind an opening, for some tag or none.
pub record EndsSealed (basis : Basis) (opened : Result Draft ActFault) (b : Brought) (old : Draft) (rows : List Row) (answer : Posted) (after : List Row) (before now : ℕ) (new : Draft) : Type 0 where
  pub tag : Option (List ℕ)
  pub seal : IsSealOf basis opened b tag
  pub ends : Ends (behind_opening basis opened rows b tag) old rows answer after before now new
