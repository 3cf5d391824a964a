-- The least place behind a bound of which a layer speaks.
use Rattle.std.specs.Prelude.{◌≡◌, Bool, true, false, List, Option, Some, None, is_some, if◌then◌else◌}
use Rattle.std.specs.BTreeMap.Range.{is_from_start}
use Rattle.std.specs.List.{list_any}
use Rattle.std.specs.Ordering.{is_lt}
use Rattle.std.specs.declared.ops.Bound.{Bound}
use Rattle.fact_store.specs.declared.wanted.Wanted.{Wanted}
use Rattle.fact_store.specs.working.Orders.{wanted_order}
use Rattle.fact_layers.specs.Layers.{Entries}
use Rattle.fact_layers.specs.working.Said.{said}

-- The place stands behind the bound.
abbrev pub is_behind : Bound Wanted → Wanted → Bool
is_behind from place = is_from_start wanted_order from place

-- A layer speaks of the place.
abbrev pub is_spoken : Wanted → List Entries → Bool
is_spoken place layers = list_any (λ layer. is_some (said place layer)) layers

abbrev pub is_less : Wanted → Wanted → Bool
is_less place other = is_lt (wanted_order place other)

pub record IsLeast (from : Bound Wanted) (layers : List Entries) (place : Wanted) : Type 0 where
  pub behind : is_behind from place ≡ true
  pub spoken : is_spoken place layers ≡ true
  pub first : (q : Wanted) → is_behind from q ≡ true → is_less q place ≡ true → is_spoken q layers ≡ false

-- This is the least place behind the bound of which a layer speaks, or there is none.
abbrev pub IsNearest : Bound Wanted → List Entries → Option Wanted → Type 0
IsNearest from layers None = (q : Wanted) → is_behind from q ≡ true → is_spoken q layers ≡ false
IsNearest from layers (Some place) = IsLeast from layers place

-- The lesser of two places, if there is one.
abbrev pub lesser : Option Wanted → Option Wanted → Option Wanted
lesser (Some place) (Some other) = if is_less other place then Some other else Some place
lesser (Some place) None = Some place
lesser None other = other
