-- The rows of layers are a base.
use Rattle.std.specs.Prelude.{◌≡◌, true, List, [], ◌∷◌, Some, None, refl}
use Rattle.std.proofs.lemmas.Bool.{and_parts}
use Rattle.fact_store.specs.declared.row.Row.{Row}
use Rattle.fact_store.specs.declared.wanted.Wanted.{Wanted}
use Rattle.fact_store.specs.Rows.{are_keys, is_base}
use Rattle.fact_store.specs.Stored.{row_of}
use Rattle.fact_store.proofs.Bases.{base-filter, base-with_row}
use Rattle.fact_store.specs.Matching.{is_at}
use Rattle.std.specs.Prelude.{not}
use Rattle.fact_layers.specs.Layers.{Entries, Said, layered, over, put, without}
use Rattle.fact_layers.specs.working.Said.{are_all_keyed, are_keyed}

pub without_base : (place : Wanted) (rows : List Row) → is_base rows ≡ true → is_base (without place rows) ≡ true
without_base place rows base = base-filter (λ row. not (is_at place.fact place.keys row)) rows base

pub put_base : (place : Wanted) (says : Said) (rows : List Row) → are_keys place.keys ≡ true → is_base rows ≡ true → is_base (put place says rows) ≡ true
put_base place None rows keys base = without_base place rows base
put_base place (Some values) rows keys base = base-with_row (row_of (place, values)) (without place rows) keys (without_base place rows base)

pub over_base : (layer : Entries) (rows : List Row) → are_keyed layer ≡ true → is_base rows ≡ true → is_base (over layer rows) ≡ true
over_base [] rows keyed base = base
over_base (e ∷ es) rows keyed base = let parts = and_parts (are_keys e.0.keys) (are_keyed es) keyed in put_base e.0 e.1 (over es rows) parts.0 (over_base es rows parts.1 base)

pub layered_base : (layers : List Entries) → are_all_keyed layers ≡ true → is_base (layered layers) ≡ true
layered_base [] keyed = refl
layered_base (layer ∷ layers) keyed = let parts = and_parts (are_keyed layer) (are_all_keyed layers) keyed in over_base layer (layered layers) parts.0 (layered_base layers parts.1)
