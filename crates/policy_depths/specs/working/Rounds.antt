-- How many steps may follow one another, where each place leads to others.
use Rattle.std.specs.Prelude.{ℕ, zero, suc, Bool, true, false, List, map, slice_get, unwrap_or}
use Rattle.std.specs.List.{list_all}

-- The place passes in a table; one that isn't in it does.
abbrev pub passes_in : List Bool → ℕ → Bool
passes_in table place = unwrap_or (slice_get table place) true

-- The places from which at most n steps follow one another: from none where n is 0, and else from those that lead to places from which fewer follow.
abbrev pub round : List (List ℕ) → ℕ → List Bool
round steps zero = map (λ places. false) steps
round steps (suc n) = map (λ places. list_all (passes_in (round steps n)) places) steps
