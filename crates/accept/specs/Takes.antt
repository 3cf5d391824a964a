-- A take: commands are admitted one after another, each over what is held by then.
use Rattle.std.specs.Prelude.{◌≡◌, ℕ, ◌+◌, List, [], ◌∷◌, ◌++◌, Option}
use Rattle.accept.specs.Admission.{IsAdmission}
use Rattle.accept.specs.declared.answer.Admit.{Admit}
use Rattle.accept.specs.declared.answer.Admit.TheVariants.{Added, Repeat, Refused}
use Rattle.accept.specs.declared.answer.Reason.{Reason}
use Rattle.braid_run.specs.Soundness.{Criteria}
use Rattle.command.specs.Wire.{command_id}
use Rattle.command.specs.declared.command.Command.{Command}

-- A refused command, by its id, and the reason.
pub record Refusal : Type 0 where
  pub id : List ℕ
  pub why : Reason

-- What a take has come to: the commands that were added, how many were repeats, and those that were refused, each in the order of the list.
pub record Tally : Type 0 where
  pub added : List Command
  pub repeats : ℕ
  pub refused : List Refusal

abbrev pub no_tally : Tally
no_tally = record { added = []; repeats = 0; refused = [] }

-- The tally with one command more, of which this became.
abbrev pub counted : Tally → Command → Admit → Tally
counted tally c Added = record { added = tally.added ++ c ∷ []; repeats = tally.repeats; refused = tally.refused }
counted tally c Repeat = record { added = tally.added; repeats = tally.repeats + 1; refused = tally.refused }
counted tally c (Refused why) = record { added = tally.added; repeats = tally.repeats; refused = tally.refused ++ record { id = command_id c; why = why } ∷ [] }

-- A take goes on from one tally to another by these commands.
abbrev pub IsTakenOn : Criteria → Option (List ℕ) → List Command → Tally → List Command → Tally → Type 0
IsTakenOn criteria graph_id cs before [] behind = behind ≡ before
IsTakenOn criteria graph_id cs before (c ∷ more) behind =
    (answer : Admit) × IsAdmission criteria graph_id (cs ++ before.added) c answer × IsTakenOn criteria graph_id cs (counted before c answer) more behind

-- The take of a list of commands, in a graph of this id that holds `cs`, comes to this. What is held then is `cs`, and behind it what was added.
abbrev pub IsTake : Criteria → Option (List ℕ) → List Command → List Command → Tally → Type 0
IsTake criteria graph_id cs list tally = IsTakenOn criteria graph_id cs no_tally list tally
