-- What changes make of rows, and the rows after a list of commits.
use Rattle.std.specs.Prelude.{ℕ, Bool, if◌then◌else◌, not, List, [], map, fold}
use Rattle.std.specs.List.{filter}
use Rattle.base_bytes.specs.declared.value.Value.{Value}
use Rattle.fact_store.specs.declared.row.Row.{Row}
use Rattle.fact_store.specs.Matching.{is_at}
use Rattle.fact_store.specs.Rows.{are_keys}
use Rattle.fact_store.specs.Writes.{is_there, revalued, with_row}
use Rattle.fact_readers.specs.declared.change.RowChange.{RowChange}
use Rattle.fact_readers.specs.declared.change.RowChange.TheVariants as change

-- The rows with this one, which is added or replaces the one of its keys.
abbrev pub put_row : Row → List Row → List Row
put_row row rows = if is_there row.fact row.keys rows then map (revalued row.fact row.keys row.values) rows else with_row row rows

-- The rows without the one of these keys, where it is there.
abbrev pub removed : ℕ → List Value → List Row → List Row
removed fact keys rows = if is_there fact keys rows then filter (λ row. not (is_at fact keys row)) rows else rows

-- The rows after one change.
abbrev pub changed : List Row → RowChange → List Row
changed rows (change.Put row) = put_row row rows
changed rows (change.Remove fact keys) = removed fact keys rows

-- The rows after the changes of a commit, in order.
abbrev pub committed : List Row → List RowChange → List Row
committed rows changes = fold changed rows changes

-- The rows after these commits, from no rows.
abbrev pub version : List (List RowChange) → List Row
version commits = fold committed [] commits

-- The change's keys are key values.
abbrev pub is_keyed : RowChange → Bool
is_keyed (change.Put row) = are_keys row.keys
is_keyed (change.Remove fact keys) = are_keys keys
