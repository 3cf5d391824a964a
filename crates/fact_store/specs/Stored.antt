-- The rows that a map holds: a row's place is the key, as a query that names no value.
use Rattle.std.specs.Prelude.{List, map}
use Rattle.base_bytes.specs.declared.value.Value.{Value}
use Rattle.fact_store.specs.declared.row.Row.{Row}
use Rattle.fact_store.specs.declared.wanted.Wanted.{Wanted}

abbrev pub row_of : Wanted × List Value → Row
row_of entry = record { fact = entry.0.fact; keys = entry.0.keys; values = entry.1 }

abbrev pub rows_of : List (Wanted × List Value) → List Row
rows_of entries = map row_of entries
