-- What the laws say.
use Rattle.std.specs.Prelude.{◌≡◌, ℕ, ◌≤◌, true, List, length, Option}
use Rattle.std.specs.List.{Contains}
use Rattle.accept.specs.Admission.{IsAdmission}
use Rattle.accept.specs.Takes.{IsTake, Tally}
use Rattle.accept.specs.declared.answer.Admit.{Admit}
use Rattle.accept.specs.declared.answer.Admit.TheVariants.{Added, Repeat, Refused}
use Rattle.accept.specs.declared.answer.Reason.{Reason}
use Rattle.accept.specs.declared.answer.Reason.TheVariants as reason
use Rattle.braid_run.specs.Places.{IsBehind}
use Rattle.braid_run.specs.Soundness.{Criteria}
use Rattle.command.specs.Closed.{IsHeld, max_commands}
use Rattle.command.specs.Kinds.{is_finalize, parents_of}
use Rattle.command.specs.Wire.{command_id}
use Rattle.command.specs.declared.command.Command.{Command}

-- One thing, and no other, becomes of a command.
pub record HasOneAnswer (criteria : Criteria) (graph_id : Option (List ℕ)) (cs : List Command) (c : Command) : Type 0 where
  pub some : (answer : Admit) × IsAdmission criteria graph_id cs c answer
  pub one : (a b : Admit) → IsAdmission criteria graph_id cs c a → IsAdmission criteria graph_id cs c b → a ≡ b

-- The take of a list comes to one tally, and to no other.
pub record HasOneTally (criteria : Criteria) (graph_id : Option (List ℕ)) (cs list : List Command) : Type 0 where
  pub some : (tally : Tally) × IsTake criteria graph_id cs list tally
  pub one : (a b : Tally) → IsTake criteria graph_id cs list a → IsTake criteria graph_id cs list b → a ≡ b

-- The reasons that speak of what is held, and not of the command: a parent isn't held, a held finalize doesn't stand behind this one, or there is no room.
abbrev pub IsHindered : List Command → Command → Reason → Type 0
IsHindered cs c (reason.MissingParent id) = Contains (parents_of c) id × (IsHeld cs id → ⊥)
IsHindered cs c (reason.ParallelFinalize id) = (is_finalize c ≡ true) × ((f : Command) × Contains cs f × (is_finalize f ≡ true) × (command_id f ≡ id) × (IsBehind cs c f → ⊥))
IsHindered cs c reason.Full = max_commands ≤ length cs
IsHindered cs c other = ⊥

-- A command is added, is held already, or is new and hindered.
abbrev pub IsWelcome : List Command → Command → Admit → Type 0
IsWelcome cs c Added = Unit {0}
IsWelcome cs c Repeat = Contains cs c
IsWelcome cs c (Refused why) = (IsHeld cs (command_id c) → ⊥) × IsHindered cs c why
