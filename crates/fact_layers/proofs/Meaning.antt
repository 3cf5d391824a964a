-- What stands at each place tells the rows of layers.
use Rattle.std.proofs.Common.{◌≡◌, Bool, true, false, not, cond, List, [], ◌∷◌, filter, Option, Some, None, refl, sym, ap, ◌∙◌}
use Rattle.std.proofs.lemmas.Bool.{and_parts, not_from_false}
use Rattle.fact_store.specs.declared.row.Row.{Row}
use Rattle.fact_store.specs.declared.wanted.Wanted.{Wanted}
use Rattle.fact_store.specs.Rows.{are_keys, is_base}
use Rattle.fact_store.specs.Writes.{with_row}
use Rattle.fact_store.specs.Stored.{row_of}
use Rattle.fact_store.proofs.Lists.{filter-filter}
use Rattle.fact_store.proofs.RowLaws.{leaves, stands}
use Rattle.fact_store.proofs.Telling.{told_by_places}
use Rattle.fact_layers.specs.Layers.{Entries, Said, layered, over, put, without}
use Rattle.fact_layers.specs.working.Bases.{layered_base, over_base, without_base}
use Rattle.fact_layers.specs.working.Said.{above, are_all_keyed, are_keyed, at, held, said}
use Rattle.fact_layers.proofs.Alike.{alike, at_row, at_tied, elsewhere, gone, none_gone, same_row, same_test}

-- the rows at a place where this stands
abbrev pub row_at : Wanted → Said → List Row
row_at place None = []
row_at place (Some values) = row_of (place, values) ∷ []

module _ (q : Wanted) (are : are_keys q.keys ≡ true) where
  at_without : (key : Wanted) (rows : List Row) → at q key ≡ false → filter (at_row q) (without key rows) ≡ filter (at_row q) rows
  at_without key rows apart = filter-filter (at_row q) (λ row. not (at_row key row)) (λ row is. not_from_false (at_row key row) (elsewhere q key are apart row is)) rows

  at-put : (key : Wanted) (says : Said) (rows : List Row) → are_keys key.keys ≡ true → is_base rows ≡ true → filter (at_row q) (put key says rows) ≡ cond (at q key) (row_at q says) (filter (at_row q) rows)
  at-put key says rows keys base = by (at q key) refl says
    where
      by : (b : Bool) → at q key ≡ b → (says : Said) → filter (at_row q) (put key says rows) ≡ cond b (row_at q says) (filter (at_row q) rows)
      by true is None = ap (λ (test : Row → Bool). filter test (without key rows)) (same_test q key (alike q key are is)) ∙ gone (at_row key) rows
      by true is (Some values) =
          ap (λ (test : Row → Bool). filter test (with_row (row_of (key, values)) (without key rows))) (same_test q key (alike q key are is))
          ∙ stands (row_of (key, values)) keys (without key rows) (without_base key rows base) (none_gone (at_row key) rows)
          ∙ ap (λ row. row ∷ []) (sym (same_row q key values (alike q key are is)))
      by false is None = at_without key rows is
      by false is (Some values) =
          leaves (row_of (key, values)) keys (at_row q) (without key rows) (without_base key rows base) (none_gone (at_row key) rows) (sym (at_tied q key values are) ∙ is)
          ∙ at_without key rows is

  -- what is said of the place, and else the rows there
  abbrev told : Option Said → List Row → List Row
  told None below = below
  told (Some says) below = row_at q says

  at-over : (es : Entries) (rows : List Row) → are_keyed es ≡ true → is_base rows ≡ true → filter (at_row q) (over es rows) ≡ told (said q es) (filter (at_row q) rows)
  at-over [] rows keyed base = refl
  at-over (e ∷ es) rows keyed base =
      let parts = and_parts (are_keys e.0.keys) (are_keyed es) keyed in
      at-put e.0 e.1 (over es rows) parts.0 (over_base es rows parts.1 base) ∙ by (at q e.0) (at-over es rows parts.1 base)
    where
      by : (b : Bool) → filter (at_row q) (over es rows) ≡ told (said q es) (filter (at_row q) rows) → cond b (row_at q e.1) (filter (at_row q) (over es rows)) ≡ told (cond b (Some e.1) (said q es)) (filter (at_row q) rows)
      by true more = refl
      by false more = more

  pub at-layered : (layers : List Entries) → are_all_keyed layers ≡ true → filter (at_row q) (layered layers) ≡ row_at q (held q layers)
  at-layered [] keyed = refl
  at-layered (layer ∷ layers) keyed =
      let parts = and_parts (are_keyed layer) (are_all_keyed layers) keyed in
      at-over layer (layered layers) parts.0 (layered_base layers parts.1) ∙ by (said q layer) (at-layered layers parts.1)
    where
      by : (s : Option Said) → filter (at_row q) (layered layers) ≡ row_at q (held q layers) → told s (filter (at_row q) (layered layers)) ≡ row_at q (above s (held q layers))
      by None more = more
      by (Some says) more = refl

-- rows of a base that hold at each place what stands there in the layers
pub told-layered : (layers : List Entries) (rows : List Row) → are_all_keyed layers ≡ true → is_base rows ≡ true → ((q : Wanted) → are_keys q.keys ≡ true → filter (at_row q) rows ≡ row_at q (held q layers)) → layered layers ≡ rows
told-layered layers rows keyed base same =
    told_by_places (layered layers) rows (layered_base layers keyed) base (λ fact keys are.
    let q : Wanted = record { fact = fact; keys = keys; values = [] } in
    at-layered q are layers keyed ∙ sym (same q are))
