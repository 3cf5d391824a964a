-- How scripts are read.
use Rattle.std.specs.Prelude.{ℕ, ◌+◌, ◌&&◌, nat_lt, if◌then◌else◌, List, [], ◌∷◌, ◌++◌, length, Option, Some, None, Result, Ok, Err}
use Rattle.std.specs.Option.{option_map_or}
use Rattle.script.specs.declared.line.Line.{Line}
use Rattle.script.specs.declared.seen.Seen.{Seen}
use Rattle.script.specs.Pieces.{Bytes}
use Rattle.script.specs.Scripts.{Declared, has_place, most_lines, with_line}
use Rattle.script.specs.working.ReadingLines.{line_of}

-- what was seen, as definitions have it
abbrev pub declared : Seen → Declared
declared seen = record { names = seen.names; messages = seen.messages }

-- a line that has its place
abbrev pub placed : Declared → ℕ → Option Line → Option Line
placed so_far before None = None
placed so_far before (Some line) = if nat_lt before most_lines && has_place so_far line then Some line else None

-- the lines behind those that were found, or the number of the first that may not stand there
unfoldable pub script_from : Declared → List Line → List Bytes → Result (List Line) ℕ
script_from so_far found [] = Ok found
script_from so_far found (text ∷ texts) =
    option_map_or (λ line. script_from (with_line so_far line) (found ++ line ∷ []) texts) (placed so_far (length found) (line_of text)) (Err (length found + 1))
