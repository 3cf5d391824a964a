-- The texts of the lines `facts`, `effects` and `graph`.
use Rattle.std.specs.Prelude.{Bool, true, false, List, [], ◌∷◌, ◌++◌, flat_map, length, slice_get, codes}
use Rattle.base_bytes.specs.declared.value.Value.TheVariants as value
use Rattle.braid_run.specs.declared.entry.Entry.{Entry}
use Rattle.braid_run.specs.declared.entry.Outcome.{Outcome}
use Rattle.braid_run.specs.declared.entry.Outcome.TheVariants as outcome
use Rattle.command.specs.Wire.{command_id}
use Rattle.command.specs.declared.command.Command.{Command}
use Rattle.command.specs.declared.command.Command.TheVariants as command
use Rattle.fact_store.specs.declared.row.Row.{Row}
use Rattle.policy_ast.specs.declared.item.Item.{Item}
use Rattle.policy_meaning.specs.declared.effect.Effect.{Effect}
use Rattle.policy_rules.specs.Names.{Name}
use Rattle.script_texts.specs.Bytes.{Bytes}
use Rattle.script_texts.specs.Shown.{command_text, count_text, effect_text, row_text}
use Rattle.script_texts.specs.declared.shown_command.ShownCommand.{ShownCommand}
use Rattle.script_texts.specs.declared.shown_command.ShownCommand.TheVariants as shown
use Rattle.state_texts.specs.Naming.{item_name, key_names, named, named_values, value_names}

-- The line of a row.
abbrev pub row_line : List Item → Row → Bytes
row_line items row =
    row_text (item_name items row.fact) (named_values items (key_names (slice_get items row.fact)) row.keys) (named_values items (value_names (slice_get items row.fact)) row.values)

-- `facts A: N`, and a line for each row, in fact order.
abbrev pub facts_text : List Item → Name → List Row → Bytes
facts_text items name rows = count_text (codes "facts") (name ∷ []) (length rows) ++ flat_map (row_line items) rows

abbrev pub is_recalled : Outcome → Bool
is_recalled outcome.Recalled = true
is_recalled other = false

-- The line of an effect, by what its command came to.
abbrev pub effect_line : List Item → Outcome → Effect → Bytes
effect_line items came_to e = effect_text (named items (value.Struct e.effect e.fields)) (is_recalled came_to)

-- The lines of the effects of a command.
abbrev pub entry_lines : List Item → Entry → Bytes
entry_lines items entry = flat_map (effect_line items entry.outcome) entry.effects

-- The effects of all entries.
abbrev pub all_effects : List Entry → List Effect
all_effects entries = flat_map (λ entry. entry.effects) entries

-- `effects A: N`, and a line for each effect, in the order of the braid.
abbrev pub effects_text : List Item → Name → List Entry → Bytes
effects_text items name entries = count_text (codes "effects") (name ∷ []) (length (all_effects entries)) ++ flat_map (entry_lines items) entries

-- What is printed of a command behind its id.
abbrev pub shown_command : Command → ShownCommand
shown_command (command.Init cut digest author name payload tag) = shown.Init name
shown_command (command.Basic cut priority parent author name payload tag) = shown.Basic name priority parent
shown_command (command.Finalize cut parent author name payload tag) = shown.Finalize name parent
shown_command (command.Merge cut left right) = shown.Merge left right

abbrev pub command_line : Command → Bytes
command_line c = command_text (command_id c) (shown_command c)

-- `graph A: N`, and a line for each command, in stored order.
abbrev pub graph_text : Name → List Command → Bytes
graph_text name commands = count_text (codes "graph") (name ∷ []) (length commands) ++ flat_map command_line commands
