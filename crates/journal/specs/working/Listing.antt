-- What a loop over the gates of a journal keeps.
use Rattle.std.specs.Prelude.{◌≡◌, ℕ, List, ◌++◌}
use Rattle.journal.specs.Commits.{AreCommits, gated, records}
use Rattle.journal.specs.Outline.{outline_of}
use Rattle.journal.specs.Ends.{outline_at}
use Rattle.journal.specs.declared.commit.Commit.{Commit}
use Rattle.journal.specs.declared.end.End.{End}

-- these commits were listed with their gates up to this end, and the rest of the bytes is left
pub record Lists (commits : List Commit) (items : List (ℕ × Commit)) (end : End) (rest bytes : List ℕ) : Type 0 where
  pub follow : AreCommits commits
  pub parts : bytes ≡ records commits ++ rest
  pub gates : items ≡ gated commits
  pub outline : outline_at end ≡ outline_of commits
