-- What a journal is of, commit by commit; and what an image of a disk opens to.
use Rattle.std.specs.Prelude.{◌≡◌, ◌⊎◌, ℕ, List, [], ◌∷◌, ◌++◌, Option, Some, None, Result, Ok, Err, ⊤}
use Rattle.accept.specs.Takes.{IsTake, Tally}
use Rattle.braid_run.specs.Soundness.{Criteria}
use Rattle.braid_run.specs.States.{Held}
use Rattle.command.specs.declared.command.Command.{Command}
use Rattle.journal.specs.Images.{ReadsAs, Reading, Holds, Damaged, OtherPolicy}
use Rattle.journal.specs.declared.commit.Commit.{Commit}
use Rattle.journal.specs.declared.commit.Commit.TheVariants.{Graph, Commands}
use Rattle.journal.specs.declared.fault.OpenFault.{OpenFault}
use Rattle.journal.specs.declared.fault.OpenFault.TheVariants as fault
use Rattle.transaction.specs.Applying.{graph_named}

-- ---- what commits leave

-- The graph's id, where it is known, and the commands in stored order.
pub record Front : Type 0 where
  pub graph_id : Option (List ℕ)
  pub commands : List Command

abbrev pub no_front : Front
no_front = record { graph_id = None; commands = [] }

abbrev pub front_of : Held → Front
front_of held = record { graph_id = held.graph_id; commands = held.commands }

-- Behind a commit: it names the graph; or its commands stand behind the others, and the first of all names a graph that has no id yet.
abbrev pub behind_commit : Front → Commit → Front
behind_commit front (Graph id) = record { graph_id = Some id; commands = front.commands }
behind_commit front (Commands commands) = record { graph_id = graph_named front.graph_id commands; commands = front.commands ++ commands }

abbrev pub behind_commits : Front → List Commit → Front
behind_commits front [] = front
behind_commits front (commit ∷ commits) = behind_commits (behind_commit front commit) commits

-- ---- opening

abbrev pub commands_of : Commit → List Command
commands_of (Graph id) = []
commands_of (Commands commands) = commands

-- What a take comes to that adds all.
abbrev pub all_added : List Command → Tally
all_added commands = record { added = commands; repeats = 0; refused = [] }

-- A commit names a graph only where it has no id yet.
abbrev pub MayName : Front → Commit → Type 0
MayName front (Graph id) = front.graph_id ≡ None
MayName front (Commands commands) = ⊤

-- The commands of a commit are admitted in order, each over what the ones before left, and all are added. The graph has the id that it has behind the
-- commit.
abbrev pub AreAdmitted : Criteria → Front → Commit → Type 0
AreAdmitted criteria front commit =
    MayName front commit × IsTake criteria (behind_commit front commit).graph_id front.commands (commands_of commit) (all_added (commands_of commit))

-- A replica's front; or a record with its gate at this place is damaged; or the journal is of the policy with this digest.
pub data Opening : Type 0 where
  Opens : Front → Opening
  IsDamaged : ℕ → Opening
  IsOfPolicy : List ℕ → Opening

-- Commits behind a front are admitted one after another. The first with a command that isn't added is damaged.
abbrev pub Admits : Criteria → Front → List (ℕ × Commit) → Opening → Type 0
Admits criteria front [] opening = opening ≡ Opens front
Admits criteria front (one ∷ more) opening =
    (AreAdmitted criteria front one.1 × Admits criteria (behind_commit front one.1) more opening) ⊎ ((AreAdmitted criteria front one.1 → ⊥) × (opening ≡ IsDamaged one.0))

-- The commits that were read are admitted, from nothing on. An image whose form is refused isn't looked at further.
abbrev pub OpensReading : Criteria → Reading → Opening → Type 0
OpensReading criteria (Holds held) opening = Admits criteria no_front held opening
OpensReading criteria (Damaged offset) opening = opening ≡ IsDamaged offset
OpensReading criteria (OtherPolicy digest) opening = opening ≡ IsOfPolicy digest

-- What an image of a disk opens to.
pub record OpensAs (criteria : Criteria) (image : List ℕ) (opening : Opening) : Type 0 where
  pub reading : Reading
  pub reads : ReadsAs criteria.digest image reading
  pub opens : OpensReading criteria reading opening

-- What opening answers is what the image opens to, but where the disk failed or memory ran out.
abbrev pub AnswersOpening : Criteria → List ℕ → Result Front OpenFault → Type 0
AnswersOpening criteria image (Ok front) = OpensAs criteria image (Opens front)
AnswersOpening criteria image (Err (fault.Damaged offset)) = OpensAs criteria image (IsDamaged offset)
AnswersOpening criteria image (Err (fault.OtherPolicy digest)) = OpensAs criteria image (IsOfPolicy digest)
AnswersOpening criteria image (Err (fault.DiskFault step)) = ⊤
AnswersOpening criteria image (Err fault.NoMemory) = ⊤
