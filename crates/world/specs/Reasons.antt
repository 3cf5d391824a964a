-- Why a line or a command was refused, as texts name it.
use Rattle.std.specs.Prelude.{List, map, Option, Some, None}
use Rattle.accept.specs.Takes as takes
use Rattle.accept.specs.declared.answer.Reason.{Reason}
use Rattle.accept.specs.declared.answer.Reason.TheVariants as reason
use Rattle.policy_meaning.specs.declared.ends.FaultKind.{FaultKind}
use Rattle.policy_meaning.specs.declared.ends.FaultKind.TheVariants as kind
use Rattle.policy_meaning.specs.declared.ends.Why.{Why}
use Rattle.policy_meaning.specs.declared.ends.Why.TheVariants as why
use Rattle.replica.specs.declared.refusal.Refusal.{Refusal}
use Rattle.replica.specs.declared.refusal.Refusal.TheVariants as refusal
use Rattle.script_texts.specs.Bytes.{Bytes}
use Rattle.script_texts.specs.declared.refusal.CommandRefusal.{CommandRefusal}
use Rattle.script_texts.specs.declared.refusal.CommandRefusal.TheVariants as command
use Rattle.script_texts.specs.declared.refusal.LineRefusal.{LineRefusal}
use Rattle.script_texts.specs.declared.refusal.LineRefusal.TheVariants as line
use Rattle.script_texts.specs.declared.words.FaultWord.{FaultWord}
use Rattle.script_texts.specs.declared.words.FaultWord.TheVariants as word
use Rattle.transaction.specs.declared.fault.ActFault.{ActFault}
use Rattle.transaction.specs.declared.fault.ActFault.TheVariants as fault

-- The word of a fault.
abbrev pub word_of : FaultKind → FaultWord
word_of kind.Unwrap = word.Unwrap
word_of kind.Exists = word.Exists
word_of kind.Missing = word.Missing
word_of kind.Differs = word.Differs
word_of kind.Turns = word.Turns
word_of kind.TooLong = word.TooLong

-- Why the policy doesn't accept a command.
abbrev pub policy_refusal : Why → CommandRefusal
policy_refusal why.UnknownCommand = command.UnknownCommand
policy_refusal why.WrongKind = command.WrongKind
policy_refusal why.Payload = command.Payload
policy_refusal why.Check = command.Check
policy_refusal (why.Fault k) = command.Fault (word_of k)

-- Why a command isn't taken.
abbrev pub command_refusal : Reason → CommandRefusal
command_refusal (reason.Collision id held) = command.Collision
command_refusal reason.OtherInit = command.OtherInit
command_refusal (reason.MissingParent id) = command.MissingParent id
command_refusal (reason.WrongCut stated real) = command.WrongCut
command_refusal reason.BadEnvelope = command.BadEnvelope
command_refusal (reason.Policy cause) = policy_refusal cause
command_refusal (reason.ParallelFinalize id) = command.ParallelFinalize id
command_refusal reason.Full = command.Full

-- Refused commands, by their ids.
abbrev pub shown_refusal : takes.Refusal → Bytes × CommandRefusal
shown_refusal refused = (refused.id, command_refusal refused.why)

abbrev pub shown_refusals : List takes.Refusal → List (Bytes × CommandRefusal)
shown_refusals refused = map shown_refusal refused

-- Why an action is refused. A failed seal and want of memory refuse nothing: they stop the run.
abbrev pub action_refusal : ActFault → Option LineRefusal
action_refusal fault.NoGraph = Some line.NoGraph
action_refusal fault.UnknownAction = Some line.UnknownAction
action_refusal fault.Arguments = Some line.Arguments
action_refusal fault.Check = Some line.Check
action_refusal (fault.Fault k) = Some (line.Fault (word_of k))
action_refusal (fault.CommandPolicy name cause) = Some (line.Command name (policy_refusal cause))
action_refusal fault.SealFault = None
action_refusal (fault.Collision id) = Some (line.Collision id)
action_refusal fault.Full = Some line.Full
action_refusal fault.NoMemory = None

-- Why a line is refused; None where the run stops.
abbrev pub line_refusal : Refusal → Option LineRefusal
line_refusal refusal.NoGraph = Some line.NoGraph
line_refusal refusal.HasGraph = Some line.HasGraph
line_refusal (refusal.Act cause) = action_refusal cause
line_refusal refusal.Malformed = Some line.Malformed
line_refusal (refusal.OtherGraph id) = Some (line.OtherGraph id)
line_refusal (refusal.DiskFault step) = None
line_refusal (refusal.Down step) = None
line_refusal (refusal.Journal cause) = None
line_refusal refusal.NoMemory = None
