-- What a line of a script prints: its opening up to the colon, and what it led to. The opening is the line's verb and the names
-- behind it, as `act a`, `sync a b`, or `take a HEX` where a message is named by the SHA-256 of its bytes.
use Rattle.std.specs.Prelude.{ℕ, Bool, true, false, List, [], ◌∷◌, ◌++◌, codes}
use Rattle.std.specs.Fmt.{decimal}
use Rattle.std.specs.List.{concat, flat_map}
use Rattle.hex.specs.Hex.{encode_lower}
use Rattle.script_texts.specs.declared.refusal.CommandRefusal.{CommandRefusal}
use Rattle.script_texts.specs.declared.refusal.LineRefusal.{LineRefusal}
use Rattle.script_texts.specs.declared.words.MessageName.{MessageName}
use Rattle.script_texts.specs.declared.words.MessageName.TheVariants.{Digest, Number}
use Rattle.script_texts.specs.Bytes.{Bytes}
use Rattle.script_texts.specs.Refusals.{command_reason, line_reason}

-- `verb name name`
abbrev pub opening : Bytes → List Bytes → Bytes
opening verb names = verb ++ flat_map (λ name. concat (codes " " ∷ name ∷ [])) names

-- `verb name: reply`
abbrev pub reply_line : Bytes → List Bytes → Bytes → Bytes
reply_line verb names reply = opening verb names ++ codes ": " ++ reply ++ codes "\n"

-- a message by its number, or by the SHA-256 of its bytes
abbrev pub message_name : MessageName → Bytes
message_name (Number n) = decimal n
message_name (Digest id) = encode_lower id

-- `replica A holds N`
abbrev pub replica_text : Bytes → ℕ → Bytes
replica_text name held = concat (codes "replica " ∷ name ∷ codes " holds " ∷ decimal held ∷ codes "\n" ∷ [])

-- `act A: published P, merges M, cut K, entries E`
abbrev pub published_text : Bytes → List Bytes → ℕ → ℕ → ℕ → ℕ → Bytes
published_text verb names commands merges cut entries =
    reply_line verb names (concat (codes "published " ∷ decimal commands ∷ codes ", merges " ∷ decimal merges ∷ codes ", cut " ∷ decimal cut ∷ codes ", entries " ∷ decimal entries ∷ []))

-- `join A: ok`
abbrev pub joined_text : Bytes → List Bytes → Bytes
joined_text verb names = reply_line verb names (concat (codes "ok" ∷ []))

-- `ask A: message n`
abbrev pub message_text : Bytes → List Bytes → MessageName → Bytes
message_text verb names message = reply_line verb names (concat (codes "message " ∷ message_name message ∷ []))

-- `next A: done`
abbrev pub done_text : Bytes → List Bytes → Bytes
done_text verb names = reply_line verb names (concat (codes "done" ∷ []))

-- `next A: no message`, where the message that a line names wasn't made
abbrev pub no_message_text : Bytes → List Bytes → Bytes
no_message_text verb names = reply_line verb names (concat (codes "no message" ∷ []))

abbrev pub more_word : Bool → Bytes
more_word true = codes "yes"
more_word false = codes "no"

-- `answer A: message n, commands C, more yes`
abbrev pub answered_text : Bytes → List Bytes → MessageName → ℕ → Bool → Bytes
answered_text verb names message commands more =
    reply_line verb names (concat (codes "message " ∷ message_name message ∷ codes ", commands " ∷ decimal commands ∷ codes ", more " ∷ more_word more ∷ []))

abbrev pub taken_counts : ℕ → ℕ → ℕ → Bytes
taken_counts added repeats refused = concat (codes "added " ∷ decimal added ∷ codes ", repeat " ∷ decimal repeats ∷ codes ", refused " ∷ decimal refused ∷ [])

-- `take A: added X, repeat Y, refused Z, cut K, entries E`; the refused follow
abbrev pub taken_text : Bytes → List Bytes → ℕ → ℕ → ℕ → ℕ → ℕ → Bytes
taken_text verb names added repeats refused cut entries =
    reply_line verb names (concat (taken_counts added repeats refused ∷ codes ", cut " ∷ decimal cut ∷ codes ", entries " ∷ decimal entries ∷ []))

-- `sync A B: answers N, added X, repeat Y, refused Z`; the refused follow
abbrev pub synced_text : Bytes → List Bytes → ℕ → ℕ → ℕ → ℕ → Bytes
synced_text verb names answers added repeats refused =
    reply_line verb names (concat (codes "answers " ∷ decimal answers ∷ codes ", " ∷ taken_counts added repeats refused ∷ []))

-- `  refused ID: WHY`, for one command
abbrev pub refused_command_text : Bytes → CommandRefusal → Bytes
refused_command_text id why = concat (codes "  refused " ∷ encode_lower id ∷ codes ": " ∷ command_reason why ∷ codes "\n" ∷ [])

-- the refused commands, one behind the other
abbrev pub refused_commands_text : List (Bytes × CommandRefusal) → Bytes
refused_commands_text refused = flat_map (λ one. refused_command_text one.0 one.1) refused

-- `restart A: holds N`
abbrev pub held_text : Bytes → List Bytes → ℕ → Bytes
held_text verb names held = reply_line verb names (concat (codes "holds " ∷ decimal held ∷ []))

-- `act A: refused WHY`
abbrev pub refused_text : Bytes → List Bytes → LineRefusal → Bytes
refused_text verb names why = reply_line verb names (concat (codes "refused " ∷ line_reason why ∷ []))
