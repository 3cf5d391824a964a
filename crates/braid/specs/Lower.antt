-- Which of two commands, of which neither is a merge, is lower in the braid.
use Rattle.std.specs.Prelude.{◌≡◌, ◌<◌, true, false}
use Rattle.std.specs.Cmp.Lexicographic.{slice_cmp}
use Rattle.std.specs.Ordering.{nat_cmp}
use Rattle.std.specs.declared.cmp.Ordering.TheVariants.{Less}
use Rattle.command.specs.declared.command.Command.{Command}
use Rattle.command.specs.Kinds.{is_finalize, priority_of}
use Rattle.command.specs.Wire.{command_id}

-- x isn't a finalize and y is; or both or neither are, and x has the smaller priority; or these are equal too, and x has the greater
-- id, compared byte by byte
pub data IsLower (x y : Command) : Type 0 where
  under_finalize : is_finalize x ≡ false → is_finalize y ≡ true → IsLower x y
  smaller_priority : is_finalize x ≡ is_finalize y → priority_of x < priority_of y → IsLower x y
  greater_id : is_finalize x ≡ is_finalize y → priority_of x ≡ priority_of y → slice_cmp nat_cmp (command_id y) (command_id x) ≡ Less → IsLower x y
