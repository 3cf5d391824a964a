-- Laws over the definitions alone.
use Rattle.std.specs.Prelude.{ℕ, ◌<◌, ◌↔◌, List, ◌++◌}
use Rattle.std.specs.List.{Contains}
use Rattle.command.specs.declared.command.Command.{Command}
use Rattle.command.specs.Ancestors.{Ancestor, IsAt, IsUnder}
use Rattle.command.specs.Closed.{IsClosed}

-- An ancestor stands before its descendant. No command is its own ancestor, and an ancestor of an ancestor is one. An append
-- changes no ancestor of the commands before it. A closure has with each command its ancestors.
pub record AncestorsAreOlder (cs : List Command) : Type 0 where
  pub older : (i j : ℕ) (x y : Command) → IsAt cs i x → IsAt cs j y → Ancestor cs x y → i < j
  pub not_itself : (x : Command) → ¬ Ancestor cs x x
  pub transitive : (x y z : Command) → Ancestor cs x y → Ancestor cs y z → Ancestor cs x z
  pub kept : (more : List Command) → IsClosed (cs ++ more) → (x y : Command) → Contains cs y → Ancestor (cs ++ more) x y ↔ Ancestor cs x y
  pub closure : (tips : List ℕ) (x y : Command) → Ancestor cs x y → IsUnder cs tips y → IsUnder cs tips x
