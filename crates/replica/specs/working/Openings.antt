-- Commands and commits that are admitted one after another, up to the first that isn't added.
use Rattle.std.specs.Prelude.{◌≡◌, ◌⊎◌, ℕ, Bool, true, false, List, ◌++◌, Option}
use Rattle.accept.specs.Takes.{IsTake}
use Rattle.accept.specs.declared.answer.Admit.{Admit}
use Rattle.accept.specs.declared.answer.Admit.TheVariants.{Added}
use Rattle.braid_run.specs.Soundness.{Criteria, IsSound}
use Rattle.braid_run.specs.States.{Held, IsStanding}
use Rattle.command.specs.declared.command.Command.{Command}
use Rattle.journal.specs.declared.commit.Commit.{Commit}
use Rattle.journal.specs.declared.fault.OpenFault.{OpenFault}
use Rattle.journal.specs.declared.fault.OpenFault.TheVariants as fault
use Rattle.replica.specs.Fronts.{Admits, AreAdmitted, Front, IsDamaged, Opens, all_added, behind_commit, front_of, no_front}
use Rattle.replica.specs.Kept.{IsReplica}

-- Whether a command is added.
abbrev pub is_added : Admit → Bool
is_added Added = true
is_added other = false

-- All commands of a list are added behind what is held.
pub record Adds (criteria : Criteria) (graph_id : Option (List ℕ)) (held list new : List Command) : Type 0 where
  pub take : IsTake criteria graph_id held list (all_added list)
  pub same_commands : new ≡ held ++ list
  pub standing : IsStanding graph_id new

-- All are added, or a take of them doesn't add all.
abbrev pub AddsOrNot : Criteria → Option (List ℕ) → List Command → List Command → List Command → Bool → Type 0
AddsOrNot criteria graph_id held list new true = Adds criteria graph_id held list new
AddsOrNot criteria graph_id held list new false = IsTake criteria graph_id held list (all_added list) → ⊥

-- A commit is admitted behind a front.
pub record Goes (criteria : Criteria) (front : Front) (commit : Commit) (new : Front) : Type 0 where
  pub admitted : AreAdmitted criteria front commit
  pub same_front : new ≡ behind_commit front commit
  pub standing : IsStanding new.graph_id new.commands

-- It is admitted, or it isn't.
abbrev pub GoesOrNot : Criteria → Front → Commit → Front → Bool → Type 0
GoesOrNot criteria front commit new true = Goes criteria front commit new
GoesOrNot criteria front commit new false = AreAdmitted criteria front commit → ⊥

-- Behind a front these commits, each with the place of its gate, aren't all admitted, and the first that isn't is damaged; or memory lacks.
abbrev pub IsRefusedBehind : Criteria → Front → List (ℕ × Commit) → OpenFault → Type 0
IsRefusedBehind criteria front items why = (why ≡ fault.NoMemory) ⊎ ((offset : ℕ) × (why ≡ fault.Damaged offset) × Admits criteria front items (IsDamaged offset))

abbrev pub IsRefusedAt : Criteria → List (ℕ × Commit) → OpenFault → Type 0
IsRefusedAt criteria items why = IsRefusedBehind criteria no_front items why

-- Commits lead to this: all are admitted, and it is the front with the facts and entries of its run.
pub record IsLedTo (criteria : Criteria) (items : List (ℕ × Commit)) (held : Held) : Type 0 where
  pub opens : Admits criteria no_front items (Opens (front_of held))
  pub sound : IsSound criteria held
  pub replica : IsReplica criteria.policy criteria.digest held
