-- Rows of facts: their order, and what a list of rows must be to be a base.
use Rattle.std.specs.Prelude.{ℕ, Bool, true, ◌&&◌, List, [], ◌∷◌}
use Rattle.std.specs.declared.cmp.Ordering.{Ordering}
use Rattle.std.specs.Ordering.{nat_cmp, ordering_then, is_lt}
use Rattle.std.specs.List.{list_all}
use Rattle.base_bytes.specs.KeyOrder.{is_key, keys_order}
use Rattle.base_bytes.specs.declared.value.Value.{Value}
use Rattle.fact_store.specs.declared.row.Row.{Row}

-- Each of them may be a key.
abbrev pub are_keys : List Value → Bool
are_keys keys = list_all is_key keys

-- Fact order of places: by the fact's item number, then by the keys from left to right, a prefix first.
abbrev pub place_order : ℕ → List Value → ℕ → List Value → Ordering
place_order fact keys other others = ordering_then (nat_cmp fact other) (keys_order keys others)

-- The first row stands before the second in fact order.
abbrev pub is_before : Row → Row → Bool
is_before row other = is_lt (place_order row.fact row.keys other.fact other.keys)

-- Each row stands before all that follow it, so no two are of the same fact and keys.
abbrev pub is_ascending : List Row → Bool
is_ascending [] = true
is_ascending (row ∷ rows) = list_all (is_before row) rows && is_ascending rows

-- The rows of a base: they ascend, and their keys are key values.
abbrev pub is_base : List Row → Bool
is_base rows = is_ascending rows && list_all (λ row. are_keys row.keys) rows
