-- What the answers of the reader say.
use Rattle.std.specs.Prelude.{⊤}
use Rattle.script.specs.declared.fault.ScriptFault.{ScriptFault}
use Rattle.script.specs.declared.fault.ScriptFault.TheVariants as fault
use Rattle.script.specs.Pieces.{Bytes}
use Rattle.script.specs.Scripts.{IsRefusedAt}

-- the cause of a refusal; want of memory has none
abbrev pub HasCause : Bytes → ScriptFault → Type 0
HasCause script (fault.Refused line) = IsRefusedAt script line
HasCause script fault.NoMemory = ⊤
