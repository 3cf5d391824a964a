-- Where a journal ends, and what stands in it so far.
use Rattle.std.specs.Prelude.{ℕ, ◌+◌, Bool, false, List, length}
use Rattle.journal.specs.Commits.{command_count, count_of, first_gate, has_none, next_gate, records}
use Rattle.journal.specs.declared.commit.Commit.{Commit}

-- the place of the closed gate behind the last commit, how many commands the commits have, and whether there is no commit yet
pub record Outline : Type 0 where
  pub gate : ℕ
  pub commands : ℕ
  pub is_fresh : Bool

-- the outline of a journal with these commits
abbrev pub outline_of : List Commit → Outline
outline_of commits = record { gate = first_gate + length (records commits); commands = command_count commits; is_fresh = has_none commits }

-- the outline behind one commit more
abbrev pub outline_behind : Outline → Commit → Outline
outline_behind outline commit = record { gate = next_gate outline.gate commit; commands = outline.commands + count_of commit; is_fresh = false }
