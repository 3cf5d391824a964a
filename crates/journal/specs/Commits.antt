-- The commits of a journal, and their form as bytes. All numbers are big-endian.
use Rattle.std.specs.Prelude.{◌≡◌, ℕ, ◌+◌, ◌<◌, ◌^◌, All, Bool, true, false, IsTrue, List, [], ◌∷◌, ◌++◌, length, map}
use Rattle.std.specs.Int.{w32}
use Rattle.std.specs.List.{concat}
use Rattle.base_bytes.specs.Pieces.{counted, listed}
use Rattle.command.specs.Each.{Each}
use Rattle.command.specs.Kinds.{is_init}
use Rattle.command.specs.Wire.{IsFormed, wire}
use Rattle.command.specs.declared.command.Command.{Command}
use Rattle.journal.specs.declared.commit.Commit.{Commit}
use Rattle.journal.specs.declared.commit.Commit.TheVariants.{Graph, Commands}

-- a command with its length in four bytes
abbrev pub counted_command : Command → List ℕ
counted_command command = counted w32 (wire command)

-- the body of a commit: byte 0 and the graph's id, or byte 1 and the commands, with their number in four bytes
abbrev pub commit_body : Commit → List ℕ
commit_body (Graph id) = 0 ∷ id
commit_body (Commands commands) = 1 ∷ listed w32 counted_command commands

-- the body of the first record: byte 1 and the digest of the policy
abbrev pub policy_body : List ℕ → List ℕ
policy_body digest = 1 ∷ digest

-- a record whose gate is open: its gate, which is 1, and the body with its length in four bytes; the next gate stands behind it
abbrev pub open_record : List ℕ → List ℕ
open_record body = 1 ∷ counted w32 body

-- the records of commits, one behind the other
abbrev pub records : List Commit → List ℕ
records commits = concat (map (λ commit. open_record (commit_body commit)) commits)

-- the first record, and those of the commits behind it
abbrev pub journal_front : List ℕ → List Commit → List ℕ
journal_front digest commits = open_record (policy_body digest) ++ records commits

-- the place behind the first record
abbrev pub first_gate : ℕ
first_gate = 38

-- the place behind the record of a commit whose gate is at a place
abbrev pub next_gate : ℕ → Commit → ℕ
next_gate gate commit = gate + 5 + length (commit_body commit)

-- commits with the places of their gates, where the first stands at this place
abbrev pub gated_from : ℕ → List Commit → List (ℕ × Commit)
gated_from gate [] = []
gated_from gate (commit ∷ commits) = (gate, commit) ∷ gated_from (next_gate gate commit) commits

-- the commits of a journal with the places of their gates
abbrev pub gated : List Commit → List (ℕ × Commit)
gated commits = gated_from first_gate commits

-- how many commands a commit has
abbrev pub count_of : Commit → ℕ
count_of (Graph id) = 0
count_of (Commands commands) = length commands

-- how many commands the commits have
abbrev pub command_count : List Commit → ℕ
command_count [] = 0
command_count (commit ∷ commits) = count_of commit + command_count commits

-- whether a list begins with an init
abbrev pub begins_with_init : List Command → Bool
begins_with_init [] = false
begins_with_init (command ∷ commands) = is_init command

-- a graph's id has 32 bytes, a list of commands isn't empty, and each of them has its form
abbrev pub IsCommitForm : Commit → Type 0
IsCommitForm (Graph id) = length id ≡ 32
IsCommitForm (Commands commands) = (0 < length commands) × All IsFormed commands

-- the commit may stand where there is no commit yet, or where there is one: a graph's id stands first, and without one the first
-- of all commands is an init
abbrev pub MayStand : Bool → Commit → Type 0
MayStand is_fresh (Graph id) = IsTrue is_fresh
MayStand is_fresh (Commands commands) = IsTrue is_fresh → IsTrue (begins_with_init commands)

-- whether there is no commit
abbrev pub has_none : List Commit → Bool
has_none [] = true
has_none (commit ∷ commits) = false

-- the commit may stand behind these; the length of its body fits into four bytes
pub record IsNext (before : List Commit) (commit : Commit) : Type 0 where
  pub form : IsCommitForm commit
  pub short : length (commit_body commit) < 2 ^ 32
  pub place : MayStand (has_none before) commit

-- the commits of a journal
abbrev pub AreCommits : List Commit → Type 0
AreCommits commits = Each IsNext commits
