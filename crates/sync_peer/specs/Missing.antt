-- Which commands are missing where a sample is known.
use Rattle.std.specs.Prelude.{◌≡◌, ℕ, ◌↔◌, Bool, IsTrue, List, filter, not}
use Rattle.std.specs.List.{Contains}
use Rattle.command.specs.Ancestors.{IsUpTo}
use Rattle.command.specs.Closed.{has_id}
use Rattle.command.specs.Wire.{command_id}
use Rattle.command.specs.declared.command.Command.{Command}

-- Those ids of the sample that are held, in its order.
abbrev pub held_ids : List Command → List (List ℕ) → List (List ℕ)
held_ids cs sample = filter (has_id cs) sample

-- The command is one of the sample, or an ancestor of one.
abbrev pub IsKnown : List Command → List (List ℕ) → Command → Type 0
IsKnown cs sample c = (y : Command) × Contains cs y × Contains sample (command_id y) × IsUpTo cs y c

-- The missing commands: those of the list that aren't known, in stored order.
pub record AreMissing (cs : List Command) (sample : List (List ℕ)) (missing : List Command) : Type 0 where
  pub is_known : Command → Bool
  pub exact : (c : Command) → Contains cs c → IsTrue (is_known c) ↔ IsKnown cs sample c
  pub same_missing : missing ≡ filter (λ c. not (is_known c)) cs
