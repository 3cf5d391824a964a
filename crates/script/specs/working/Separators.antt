-- What stands behind a member of a list.
use Rattle.std.specs.Prelude.{◌≡◌, codes, Some, None, Result, Ok, Err, ⊤}
use Rattle.base_bytes.specs.declared.unread.Unread.{Unread}
use Rattle.base_bytes.specs.declared.unread.Unread.TheVariants as unread
use Rattle.script.specs.Pieces.{Bytes}
use Rattle.script.specs.working.Readers.{mark_at}
use Rattle.script.specs.declared.lists.Separator.{Separator}
use Rattle.script.specs.declared.lists.Separator.TheVariants as separator

-- the mark that closes the list, or a comma, or neither
abbrev pub StandsBehind : Bytes → Bytes → Result Separator Unread → Type 0
StandsBehind close bytes (Ok (separator.Close rest)) = mark_at close bytes ≡ Some rest.now
StandsBehind close bytes (Ok (separator.Comma rest)) = (mark_at close bytes ≡ None) × (mark_at (codes ",") bytes ≡ Some rest.now)
StandsBehind close bytes (Err unread.Malformed) = (mark_at close bytes ≡ None) × (mark_at (codes ",") bytes ≡ None)
StandsBehind close bytes (Err unread.NoMemory) = ⊤
