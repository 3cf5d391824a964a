-- What the reader of scripts answers, as contracts of private functions see it.
use Rattle.std.specs.Prelude.{◌≡◌, ℕ, ◌+◌, List, Option, Some, None, Result, Ok, Err, ⊤}
use Rattle.std.specs.Global.{Vec}
use Rattle.script.specs.declared.fault.ScriptFault.{ScriptFault}
use Rattle.script.specs.declared.fault.ScriptFault.TheVariants as fault
use Rattle.script.specs.declared.line.Line.{Line}
use Rattle.script.specs.Scripts.{Declared}
use Rattle.script.specs.working.ReadingScripts.{placed}

-- a line that has its place behind so many others, or the number of the line
abbrev pub IsPlacing : Declared → ℕ → Option Line → Result Line ScriptFault → Type 0
IsPlacing so_far before text (Ok line) = placed so_far before text ≡ Some line
IsPlacing so_far before text (Err (fault.Refused number)) = (placed so_far before text ≡ None) × (number ≡ before + 1)
IsPlacing so_far before text (Err fault.NoMemory) = ⊤

-- the lines of a script, or the number of the first that may not stand there
abbrev pub ReadsAll : Result (Vec Line) ScriptFault → Result (List Line) ℕ → Type 0
ReadsAll (Ok found) script = script ≡ Ok found.items
ReadsAll (Err (fault.Refused number)) script = script ≡ Err number
ReadsAll (Err fault.NoMemory) script = ⊤
