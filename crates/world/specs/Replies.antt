-- The text of a line, by what its replica replies.
use Rattle.std.specs.Prelude.{◌≡◌, ℕ, List, [], ◌∷◌, ◌++◌, length, codes, Option, Some, None, option_map, Result, Ok, Err}
use Rattle.replica.specs.declared.counts.Published.{Published}
use Rattle.replica.specs.declared.counts.Taken.{Taken}
use Rattle.replica.specs.declared.refusal.Refusal.{Refusal}
use Rattle.script_texts.specs.Bytes.{Bytes}
use Rattle.script_texts.specs.Replies.{answered_text, done_text, held_text, joined_text, message_text, published_text, refused_commands_text, refused_text, taken_text}
use Rattle.script_texts.specs.declared.words.MessageName.TheVariants.{Number}
use Rattle.sync_codec.specs.Messages.{IsResponse}
use Rattle.sync_codec.specs.declared.response.Response.{Response}
use Rattle.world.specs.Reasons.{line_refusal, shown_refusals}

-- `verb A: refused WHY`; None where the run stops.
abbrev pub refused_line : Bytes → List Bytes → Refusal → Option Bytes
refused_line verb names why = option_map (refused_text verb names) (line_refusal why)

-- The text of a reply, or of a refusal.
abbrev pub reply_text : {T : Type 0} → Bytes → List Bytes → (T → Bytes) → Result T Refusal → Option Bytes
reply_text verb names text (Ok reply) = Some (text reply)
reply_text verb names text (Err why) = refused_line verb names why

-- What `init` and `act` print.
abbrev pub published_line : Bytes → Bytes → Result Published Refusal → Option Bytes
published_line verb name result = reply_text verb (name ∷ []) (λ p. published_text verb (name ∷ []) p.commands p.merges p.cut p.entries) result

-- What `join` prints.
abbrev pub joined_line : {T : Type 0} → Bytes → Result T Refusal → Option Bytes
joined_line name result = reply_text (codes "join") (name ∷ []) (λ reply. joined_text (codes "join") (name ∷ [])) result

-- What `ask` prints, as the line of this number.
abbrev pub asked_line : Bytes → ℕ → Result Bytes Refusal → Option Bytes
asked_line name number result = reply_text (codes "ask") (name ∷ []) (λ bytes. message_text (codes "ask") (name ∷ []) (Number number)) result

-- What `next` prints, as the line of this number.
abbrev pub next_text : Bytes → ℕ → Option Bytes → Bytes
next_text name number (Some bytes) = message_text (codes "next") (name ∷ []) (Number number)
next_text name number None = done_text (codes "next") (name ∷ [])

abbrev pub next_line : Bytes → ℕ → Result (Option Bytes) Refusal → Option Bytes
next_line name number result = reply_text (codes "next") (name ∷ []) (next_text name number) result

-- What `answer` prints, as the line of this number: it tells what the response says.
abbrev pub IsAnswerLine : Bytes → ℕ → Result Bytes Refusal → Bytes → Type 0
IsAnswerLine name number (Ok bytes) text =
    (response : Response) × IsResponse response bytes × (text ≡ answered_text (codes "answer") (name ∷ []) (Number number) (length response.commands) response.more)
IsAnswerLine name number (Err why) text = refused_line (codes "answer") (name ∷ []) why ≡ Some text

-- What `take` prints.
abbrev pub taken_lines : Bytes → Taken → Bytes
taken_lines name taken =
    taken_text (codes "take") (name ∷ []) taken.added taken.repeats (length taken.refused) taken.cut taken.entries ++ refused_commands_text (shown_refusals taken.refused)

abbrev pub taken_line : Bytes → Result Taken Refusal → Option Bytes
taken_line name result = reply_text (codes "take") (name ∷ []) (taken_lines name) result

-- What `restart` prints.
abbrev pub restarted_line : Bytes → Result ℕ Refusal → Option Bytes
restarted_line name result = reply_text (codes "restart") (name ∷ []) (λ held. held_text (codes "restart") (name ∷ []) held) result

-- The message that a reply is.
abbrev pub message_of : Result Bytes Refusal → Option Bytes
message_of (Ok bytes) = Some bytes
message_of (Err why) = None

abbrev pub next_message_of : Result (Option Bytes) Refusal → Option Bytes
next_message_of (Ok next) = next
next_message_of (Err why) = None
