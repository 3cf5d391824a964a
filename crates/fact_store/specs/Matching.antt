-- Which rows a query finds, and what is told of them.
use Rattle.std.specs.Prelude.{ℕ, Bool, true, false, ◌&&◌, ◌==◌, List, [], ◌∷◌, Option, Some, None, length, slice_get}
use Rattle.std.specs.List.{filter}
use Rattle.base_bytes.specs.declared.value.Value.{Value}
use Rattle.fact_store.specs.declared.row.Row.{Row}
use Rattle.fact_store.specs.declared.wanted.Wanted.{Wanted}
use Rattle.fact_store.specs.Sameness.{same_value, same_values}

-- The list begins with these values.
abbrev pub begins_with : List Value → List Value → Bool
begins_with [] keys = true
begins_with (value ∷ values) [] = false
begins_with (value ∷ values) (key ∷ keys) = same_value value key && begins_with values keys

-- Each named value is there at its place and equal. A place that isn't named may hold any value, or none.
abbrev pub has_named : List (Option Value) → List Value → Bool
has_named [] values = true
has_named (None ∷ named) [] = has_named named []
has_named (None ∷ named) (value ∷ values) = has_named named values
has_named (Some wanted ∷ named) [] = false
has_named (Some wanted ∷ named) (value ∷ values) = same_value wanted value && has_named named values

-- A row of this fact whose keys begin with the wanted ones.
abbrev pub is_within : Wanted → Row → Bool
is_within wanted row = (wanted.fact == row.fact) && begins_with wanted.keys row.keys

-- A row that a query finds.
abbrev pub matches : Wanted → Row → Bool
matches wanted row = is_within wanted row && has_named wanted.values row.values

-- The row of this fact and just these keys.
abbrev pub is_at : ℕ → List Value → Row → Bool
is_at fact keys row = (fact == row.fact) && same_values keys row.keys

-- All rows that a query finds, in fact order.
abbrev pub selected : Wanted → List Row → List Row
selected wanted rows = filter (matches wanted) rows

-- The first of them.
abbrev pub first_row : Wanted → List Row → Option Row
first_row wanted rows = slice_get (selected wanted rows) 0

-- Their number.
abbrev pub row_count : Wanted → List Row → ℕ
row_count wanted rows = length (selected wanted rows)
