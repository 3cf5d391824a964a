-- Why something was refused, in words.
use Rattle.std.specs.Prelude.{[], ◌∷◌, codes}
use Rattle.std.specs.List.{concat}
use Rattle.hex.specs.Hex.{encode_lower}
use Rattle.script_texts.specs.declared.words.FaultWord.{FaultWord}
use Rattle.script_texts.specs.declared.words.FaultWord.TheVariants as fault
use Rattle.script_texts.specs.declared.refusal.CommandRefusal.{CommandRefusal}
use Rattle.script_texts.specs.declared.refusal.CommandRefusal.TheVariants as command
use Rattle.script_texts.specs.declared.refusal.LineRefusal.{LineRefusal}
use Rattle.script_texts.specs.declared.refusal.LineRefusal.TheVariants as line
use Rattle.script_texts.specs.Bytes.{Bytes}

-- the word of a fault
abbrev pub fault_word : FaultWord → Bytes
fault_word fault.Unwrap = codes "unwrap"
fault_word fault.Exists = codes "exists"
fault_word fault.Missing = codes "missing"
fault_word fault.Differs = codes "differs"
fault_word fault.Turns = codes "turns"
fault_word fault.TooLong = codes "too long"

-- why a command was refused
abbrev pub command_reason : CommandRefusal → Bytes
command_reason command.Collision = codes "collision"
command_reason command.OtherInit = codes "other init"
command_reason (command.MissingParent id) = concat (codes "missing parent " ∷ encode_lower id ∷ [])
command_reason command.WrongCut = codes "wrong cut"
command_reason command.BadEnvelope = codes "bad envelope"
command_reason command.UnknownCommand = codes "unknown command"
command_reason command.WrongKind = codes "wrong kind"
command_reason command.Payload = codes "payload"
command_reason command.Check = codes "check"
command_reason (command.Fault word) = concat (codes "fault " ∷ fault_word word ∷ [])
command_reason (command.ParallelFinalize id) = concat (codes "parallel finalize " ∷ encode_lower id ∷ [])
command_reason command.Full = codes "full"

-- why a line was refused
abbrev pub line_reason : LineRefusal → Bytes
line_reason line.NoGraph = codes "no graph"
line_reason line.HasGraph = codes "has graph"
line_reason line.UnknownAction = codes "unknown action"
line_reason line.Arguments = codes "arguments"
line_reason line.Check = codes "check"
line_reason (line.Fault word) = concat (codes "fault " ∷ fault_word word ∷ [])
line_reason (line.Command name why) = concat (codes "command " ∷ name ∷ codes ": " ∷ command_reason why ∷ [])
line_reason (line.Collision id) = concat (codes "collision " ∷ encode_lower id ∷ [])
line_reason line.Full = codes "full"
line_reason line.Malformed = codes "malformed"
line_reason (line.OtherGraph id) = concat (codes "other graph " ∷ encode_lower id ∷ [])
