-- How many bytes a commit takes, by its number of commands.
use Rattle.std.specs.Prelude.{◌≡◌, ◌≤◌, ◌<◌, ◌+◌, ◌*◌, ℕ, length}
use Rattle.journal.specs.declared.commit.Commit.{Commit}
use Rattle.journal.specs.declared.commit.Commit.TheVariants.{Graph, Commands}

-- the body of the commit stands between the two places
abbrev pub Takes : Commit → ℕ → ℕ → Type 0
Takes (Graph id) from to = to ≡ from + 33
Takes (Commands commands) from to = (0 < length commands) × (from + 5 + 4 * length commands ≤ to) × (to ≤ from + 5 + 4309 * length commands)
