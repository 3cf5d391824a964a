-- The rows of the facts before an item, and those of one fact.
use Rattle.std.specs.Prelude.{ℕ, nat_lt, List, []}
use Rattle.std.specs.List.{filter}
use Rattle.fact_store.specs.Matching.{selected}
use Rattle.fact_store.specs.declared.row.Row.{Row}
use Rattle.policy_ast.specs.declared.item.Item.{Item}
use Rattle.policy_rules.specs.Names.{Name}
use Rattle.script_texts.specs.Bytes.{Bytes}
use Rattle.script_texts.specs.Shown.{row_text}
use Rattle.state_texts.specs.Naming.{item_name, named_values}

abbrev pub rows_below : ℕ → List Row → List Row
rows_below n rows = filter (λ row. nat_lt row.fact n) rows

-- All rows of the fact of this number.
abbrev pub rows_of : ℕ → List Row → List Row
rows_of n rows = selected (record { fact = n; keys = []; values = [] }) rows

-- The line of a row whose fields have these names.
abbrev pub row_line_of : List Item → List Name → List Name → Row → Bytes
row_line_of items keys values row = row_text (item_name items row.fact) (named_values items keys row.keys) (named_values items values row.values)
