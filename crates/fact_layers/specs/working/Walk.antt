-- The rows behind a bound, and the next of them that a query finds.
use Rattle.std.specs.Prelude.{◌≡◌, true, List, [], ◌∷◌, Option, Some, None, if◌then◌else◌}
use Rattle.std.specs.Borrow.{Bor}
use Rattle.std.specs.List.{filter}
use Rattle.std.specs.Ordering.{is_le}
use Rattle.std.specs.declared.ops.Bound.{Bound}
use Rattle.std.specs.declared.ops.Bound.TheVariants.{Excluded}
use Rattle.base_bytes.specs.declared.value.Value.{Value}
use Rattle.fact_store.specs.declared.row.Row.{Row}
use Rattle.fact_store.specs.declared.wanted.Wanted.{Wanted}
use Rattle.fact_store.specs.Matching.{has_named, selected}
use Rattle.fact_store.specs.Rows.{place_order}
use Rattle.fact_store.specs.Stored.{row_of}
use Rattle.fact_layers.specs.working.Nearest.{is_behind}

-- Where the row stands.
abbrev pub place_of : Row → Wanted
place_of row = record { fact = row.fact; keys = row.keys; values = [] }

-- The rows that stand behind the bound.
abbrev pub rows_behind : Bound Wanted → List Row → List Row
rows_behind from rows = filter (λ row. is_behind from (place_of row)) rows

-- What stands behind the bound doesn't stand before the query's place.
abbrev pub IsBehindQuery : Wanted → Bound Wanted → Type 0
IsBehindQuery wanted from = (row : Row) → is_behind from (place_of row) ≡ true → is_le (place_order wanted.fact wanted.keys row.fact row.keys) ≡ true

-- A found row, and all that the query finds behind it.
abbrev pub found_next : Wanted → List Row → Option (Wanted × List Value) → List Row
found_next wanted rows None = []
found_next wanted rows (Some found) = row_of found ∷ selected wanted (rows_behind (Excluded found.0) rows)

-- What stands at a place, if it has the named values.
abbrev pub named : Wanted → Option (List Value) → Option (List Value)
named wanted None = None
named wanted (Some values) = if has_named wanted.values values then Some values else None

-- A place and values, as they are seen through references.
abbrev pub seen : Bor Wanted × Bor (List Value) → Wanted × List Value
seen found = (found.0.now, found.1.now)
