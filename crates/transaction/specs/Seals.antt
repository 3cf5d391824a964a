-- What an envelope may answer to the seals of an action: some supply of tags, one a publish.
use Rattle.std.specs.Prelude.{◌≡◌, ℕ, IsTrue, List, [], Option, Some, None, IfSome, Result, Ok, Err}
use Rattle.command.specs.Wire.{body}
use Rattle.fact_store.specs.declared.row.Row.{Row}
use Rattle.outside.specs.Causes.{Rose}
use Rattle.policy_meaning.specs.Actions.{Brought}
use Rattle.policy_meaning.specs.Desks.{Posting, brought}
use Rattle.policy_meaning.specs.Typed.{IsCommandOf}
use Rattle.policy_meaning.specs.declared.ends.Posted.{Posted}
use Rattle.policy_meaning.specs.declared.ends.Posted.TheVariants as posted
use Rattle.transaction.specs.Drafts.{Draft, Basis}
use Rattle.transaction.specs.Publishing.{Publication, IsTooLong, Refuses, Takes, command_of, declared_at, opened, published}
use Rattle.transaction.specs.declared.fault.ActFault.{ActFault}
use Rattle.transaction.specs.declared.fault.ActFault.TheVariants as fault

-- A tag is good for the author and the body, and the told one where one is told. There may be none.
abbrev pub IsSeal : Basis → List ℕ → Option (List ℕ) → Type 0
IsSeal basis sealed None = Unit {0}
IsSeal basis sealed (Some tag) = IsTrue (basis.good basis.author sealed tag) × IfSome basis.told (λ made. tag ≡ made basis.author sealed)

-- The seal of what was brought, where it comes to one. What is sealed doesn't hold the tag.
abbrev pub IsSealOf : Basis → Result Draft ActFault → Brought → Option (List ℕ) → Type 0
IsSealOf basis (Err why) b tag = Unit {0}
IsSealOf basis (Ok draft) b tag = IsSeal basis (body (command_of basis draft.heads b [])) tag

-- What a publication leaves: the answer, the facts, the blocks that were run, and the draft. A refusal leaves the facts, and its cause in the draft;
-- what was made doesn't count then.
abbrev pub Leaves : Publication → Draft → List Row → Posted → List Row → ℕ → Draft → Type 0
Leaves (Takes draft rows) old before answer after ticks new = (answer ≡ posted.Taken) × (after ≡ rows) × (ticks ≡ 1) × (new ≡ draft)
Leaves IsTooLong old before answer after ticks new = (answer ≡ posted.TooLong) × (after ≡ before) × (ticks ≡ 0) × (new ≡ old)
Leaves (Refuses why run) old before answer after ticks new = (answer ≡ posted.Refused) × (after ≡ before) × (ticks ≡ run) × (new.refusal ≡ Some why)

-- What an action's seals make of the envelope's count of faults: it stays where the action is prepared, and a failed seal is its rise.
abbrev pub SealCount : {T : Type 0} → Result T ActFault → ℕ → ℕ → Type 0
SealCount (Ok made) before now = now ≡ before
SealCount (Err fault.SealFault) before now = Rose before now
SealCount (Err other) before now = Unit {0}

-- One publish of a command that the policy declares, from one draft and its facts to another, for some tag or none.
pub record IsPublish (basis : Basis) (old : Draft) (rows : List Row) (posting : Posting) (new : Draft) : Type 0 where
  pub declared : IsCommandOf basis.policy posting.command posting.fields
  pub tag : Option (List ℕ)
  pub seal : IsSealOf basis (opened basis.held old (declared_at basis.policy posting.command)) (brought posting) tag
  pub leaves : Leaves (published basis old rows (brought posting) tag) old rows posting.posted posting.rows posting.ticks new
