-- What `facts`, `effects` and `graph` print: a line with a count, and a line for each row, effect or command.
use Rattle.std.specs.Prelude.{ℕ, Bool, true, false, List, [], ◌∷◌, ◌++◌, codes}
use Rattle.std.specs.Fmt.{decimal}
use Rattle.std.specs.List.{concat}
use Rattle.hex.specs.Hex.{encode_lower}
use Rattle.base_bytes.specs.declared.arg.Arg.{Arg}
use Rattle.script_texts.specs.declared.shown_command.ShownCommand.{ShownCommand}
use Rattle.script_texts.specs.declared.shown_command.ShownCommand.TheVariants.{Basic, Finalize, Init, Merge}
use Rattle.script_texts.specs.Bytes.{Bytes}
use Rattle.script_texts.specs.Replies.{reply_line}
use Rattle.script_texts.specs.Values.{field_texts, names_and_values, value_text}

-- `facts A: N`, `effects A: N`, `graph A: N`; so many lines follow
abbrev pub count_text : Bytes → List Bytes → ℕ → Bytes
count_text verb names count = reply_line verb names (concat (decimal count ∷ []))

-- `  Name[k: v, ..]=>{f: v, ..}`
abbrev pub row_text : Bytes → List (Bytes × Arg) → List (Bytes × Arg) → Bytes
row_text name keys values =
    concat (codes "  " ∷ name ∷ codes "[" ∷ []) ++ names_and_values (field_texts keys) ++ codes "]=>{" ++ names_and_values (field_texts values) ++ codes "}\n"

abbrev pub recalled_word : Bool → Bytes
recalled_word true = codes " recalled"
recalled_word false = []

-- `  Name { f: v }`, and ` recalled` where its entry was
abbrev pub effect_text : Arg → Bool → Bytes
effect_text effect is_recalled = codes "  " ++ value_text effect ++ concat (recalled_word is_recalled ∷ codes "\n" ∷ [])

-- what stands behind the id of a command
abbrev pub command_words : ShownCommand → Bytes
command_words (Init name) = concat (codes "init " ∷ name ∷ [])
command_words (Basic name priority parent) = concat (codes "basic " ∷ name ∷ codes " priority " ∷ decimal priority ∷ codes " parent " ∷ encode_lower parent ∷ [])
command_words (Finalize name parent) = concat (codes "finalize " ∷ name ∷ codes " parent " ∷ encode_lower parent ∷ [])
command_words (Merge left right) = concat (codes "merge " ∷ encode_lower left ∷ codes " " ∷ encode_lower right ∷ [])

-- `  ID init NAME`, `  ID basic NAME priority P parent ID`, `  ID finalize NAME parent ID` or `  ID merge ID ID`
abbrev pub command_text : Bytes → ShownCommand → Bytes
command_text id command = concat (codes "  " ∷ encode_lower id ∷ codes " " ∷ command_words command ∷ codes "\n" ∷ [])
