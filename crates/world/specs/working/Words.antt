-- What the functions that put replies into words say.
use Rattle.std.specs.Prelude.{◌≡◌, ◌⊎◌, ℕ, Option, Some, None, Result, Ok, Err}
use Rattle.replica.specs.declared.refusal.Refusal.{Refusal}
use Rattle.script_texts.specs.Bytes.{Bytes}
use Rattle.world.specs.Replies.{IsAnswerLine}
use Rattle.world.specs.working.Stopping.{IsStopBy}
use Rattle.world.specs.declared.said.Said.{Said}
use Rattle.world.specs.declared.stop.RunStop.{RunStop}
use Rattle.world.specs.declared.stop.RunStop.TheVariants as stop

-- The refusal of a reply.
abbrev pub refusal_of : {T : Type 0} → Result T Refusal → Option Refusal
refusal_of (Ok reply) = None
refusal_of (Err why) = Some why

-- A refusal stops the run; a reply doesn't.
abbrev pub StopsBy : Option Refusal → RunStop → Type 0
StopsBy None why = ⊥
StopsBy (Some refused) why = IsStopBy refused why

-- A line is stopped by its refusal, or for want of memory.
abbrev pub IsStoppedBy : Option Refusal → RunStop → Type 0
IsStoppedBy refused why = (why ≡ stop.NoMemory) ⊎ StopsBy refused why

abbrev pub IsStopped : {T : Type 0} → Result T Refusal → RunStop → Type 0
IsStopped reply why = IsStoppedBy (refusal_of reply) why

-- A reply is put into these words, or stops the run.
abbrev pub WordsBy : Option Refusal → Option Bytes → Result Bytes RunStop → Type 0
WordsBy refused line (Ok text) = line ≡ Some text
WordsBy refused line (Err why) = IsStoppedBy refused why

abbrev pub Words : {T : Type 0} → Result T Refusal → Option Bytes → Result Bytes RunStop → Type 0
Words reply line result = WordsBy (refusal_of reply) line result

-- The same, with the message that the line makes or none.
abbrev pub WordsAndMessage : {T : Type 0} → Result T Refusal → Option Bytes → Option Bytes → Result Said RunStop → Type 0
WordsAndMessage reply line message (Ok said) = (line ≡ Some said.text) × (said.message ≡ message)
WordsAndMessage reply line message (Err why) = IsStopped reply why

-- The same of an answer, whose words tell what the response says.
abbrev pub AnswerWords : Bytes → ℕ → Result Bytes Refusal → Option Bytes → Result Said RunStop → Type 0
AnswerWords name number reply message (Ok said) = IsAnswerLine name number reply said.text × (said.message ≡ message)
AnswerWords name number reply message (Err why) = IsStopped reply why
