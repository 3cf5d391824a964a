-- What the map's calls make of its entries is what the writes make of its rows.
use Rattle.std.proofs.Common.{◌≡◌, Bool, true, false, ◌&&◌, ◌||◌, not, cond, List, [], ◌∷◌, map, filter, Some, is_some, Ordering, Less, Equal, Greater, is_eq, is_lt, refl, sym, ap, ◌∙◌}
use Rattle.std.proofs.lemmas.Bool.{false≢true, or_parts}
use Rattle.std.specs.BTreeMap.{insert_entry}
use Rattle.std.specs.List.{list_all, list_any}
use Rattle.std.specs.Map.{lookup, remove_entry, set_value}
use Rattle.std.specs.Ordering.{match_ordering}
use Rattle.base_bytes.specs.declared.value.Value.{Value}
use Rattle.fact_store.specs.declared.row.Row.{Row}
use Rattle.fact_store.specs.declared.wanted.Wanted.{Wanted}
use Rattle.fact_store.specs.Matching.{has_named, is_at}
use Rattle.fact_store.specs.working.Orders.{wanted_order}
use Rattle.fact_store.specs.Rows.{are_keys, is_base, is_before}
use Rattle.fact_store.specs.Stored.{row_of, rows_of}
use Rattle.fact_store.specs.Writes.{is_other, is_there, revalued, with_row}
use Rattle.fact_store.proofs.Bases.{base_parts, with_row-behind, with_row-front}
use Rattle.fact_store.proofs.Lists.{all_weaker, filter_all}
use Rattle.fact_store.proofs.Places.{before_from_Greater, behind_tied, not_at, row_order, row_ties}

abbrev pub Entry : Type 0
Entry = Wanted × List Value

-- the map's key stands at the place
abbrev pub at_key : Wanted → Wanted → Bool
at_key key other = is_eq (wanted_order key other)

module _ (key : Wanted) (are : are_keys key.keys ≡ true) where
  -- the place as a row without values
  abbrev place : Row
  place = row_of (key, [])

  abbrev at : Row → Bool
  at = is_at key.fact key.keys

  ties : (e : Entry) → at_key key e.0 ≡ at (row_of e)
  ties e = row_ties place (row_of e) are

  pub there-stored : (es : List Entry) → is_some (lookup (at_key key) es) ≡ is_there key.fact key.keys (rows_of es)
  there-stored [] = refl
  there-stored (e ∷ es) = rw (ties e) (by (at (row_of e)) (there-stored es))
    where
      by : (b : Bool) → is_some (lookup (at_key key) es) ≡ is_there key.fact key.keys (rows_of es) → is_some (cond b (Some e.1) (lookup (at_key key) es)) ≡ (b || is_there key.fact key.keys (rows_of es))
      by true more = refl
      by false more = more

  -- behind a row at the place none is there
  none_behind : (e : Entry) (es : List Entry) → at_key key e.0 ≡ true → list_all (is_before (row_of e)) (rows_of es) ≡ true → list_all (λ other. not (at other)) (rows_of es) ≡ true
  none_behind e es here first =
      all_weaker (is_before (row_of e)) (λ other. not (at other)) (λ other is. ap not (not_at place other are (behind_tied place (row_of e) other (tied (row_order place (row_of e)) here) is))) (rows_of es) first
    where
      tied : (o : Ordering) → is_eq o ≡ true → o ≡ Equal
      tied Less is = absurd (false≢true is)
      tied Equal is = refl
      tied Greater is = absurd (false≢true is)

  -- ---- insert

  module _ (values : List Value) where
    abbrev row : Row
    row = row_of (key, values)

    pub insert-stored : (es : List Entry) → is_base (rows_of es) ≡ true → is_there key.fact key.keys (rows_of es) ≡ false → rows_of (insert_entry wanted_order es key values) ≡ with_row row (rows_of es)
    insert-stored [] base none = refl
    insert-stored (e ∷ es) base none =
        let parts = base_parts (row_of e) (rows_of es) base in
        let apart = or_parts (at (row_of e)) (is_there key.fact key.keys (rows_of es)) none in
        by (wanted_order key e.0) refl apart.0 (insert-stored es parts.rest apart.1)
      where
        by : (o : Ordering) → wanted_order key e.0 ≡ o → at (row_of e) ≡ false → rows_of (insert_entry wanted_order es key values) ≡ with_row row (rows_of es)
            → rows_of (match_ordering o ((key, values) ∷ e ∷ es) ((e.0, values) ∷ es) (e ∷ insert_entry wanted_order es key values)) ≡ with_row row (row_of e ∷ rows_of es)
        by Less is apart more = sym (with_row-front row (row_of e) (rows_of es) base (ap is_lt is))
        by Equal is apart more = absurd (false≢true (sym apart ∙ sym (ties e) ∙ ap is_eq is))
        by Greater is apart more = ap (λ rest. row_of e ∷ rest) more ∙ sym (with_row-behind row (row_of e) (rows_of es) (before_from_Greater row (row_of e) is))

  -- ---- new values

  module _ (values : List Value) where
    revalued_none : (rows : List Row) → list_all (λ other. not (at other)) rows ≡ true → map (revalued key.fact key.keys values) rows ≡ rows
    revalued_none [] none = refl
    revalued_none (first ∷ rows) none =
        let parts = and_both none in
        rw parts.0 (ap (λ rest. first ∷ rest) (revalued_none rows parts.1))
      where
        and_both : (not (at first) && list_all (λ other. not (at other)) rows) ≡ true → (at first ≡ false) × (list_all (λ other. not (at other)) rows ≡ true)
        and_both both = by (at first) both
          where
            by : (b : Bool) → (not b && list_all (λ other. not (at other)) rows) ≡ true → (b ≡ false) × (list_all (λ other. not (at other)) rows ≡ true)
            by true is = absurd (false≢true is)
            by false is = (refl, is)

    pub set-stored : (es : List Entry) → is_base (rows_of es) ≡ true → rows_of (set_value (at_key key) es values) ≡ map (revalued key.fact key.keys values) (rows_of es)
    set-stored [] base = refl
    set-stored (e ∷ es) base =
        let parts = base_parts (row_of e) (rows_of es) base in
        by (at_key key e.0) refl parts.first (set-stored es parts.rest)
      where
        by : (b : Bool) → at_key key e.0 ≡ b → list_all (is_before (row_of e)) (rows_of es) ≡ true → rows_of (set_value (at_key key) es values) ≡ map (revalued key.fact key.keys values) (rows_of es)
            → rows_of (cond b ((e.0, values) ∷ es) (e ∷ set_value (at_key key) es values)) ≡ map (revalued key.fact key.keys values) (row_of e ∷ rows_of es)
        by true is first more =
            let here : at (row_of e) ≡ true = sym (ties e) ∙ is in
            rw here (ap (λ rest. row_of (e.0, values) ∷ rest) (sym (revalued_none (rows_of es) (none_behind e es is first))))
        by false is first more = let here : at (row_of e) ≡ false = sym (ties e) ∙ is in rw here (ap (λ rest. row_of e ∷ rest) more)

  -- ---- remove

  pub remove-stored : (es : List Entry) → is_base (rows_of es) ≡ true → rows_of (remove_entry (at_key key) es) ≡ filter (λ other. not (at other)) (rows_of es)
  remove-stored [] base = refl
  remove-stored (e ∷ es) base =
      let parts = base_parts (row_of e) (rows_of es) base in
      by (at_key key e.0) refl parts.first (remove-stored es parts.rest)
    where
      by : (b : Bool) → at_key key e.0 ≡ b → list_all (is_before (row_of e)) (rows_of es) ≡ true → rows_of (remove_entry (at_key key) es) ≡ filter (λ other. not (at other)) (rows_of es)
          → rows_of (cond b es (e ∷ remove_entry (at_key key) es)) ≡ filter (λ other. not (at other)) (row_of e ∷ rows_of es)
      by true is first more = let here : at (row_of e) ≡ true = sym (ties e) ∙ is in rw here (sym (filter_all (λ other. not (at other)) (rows_of es) (none_behind e es is first)))
      by false is first more = let here : at (row_of e) ≡ false = sym (ties e) ∙ is in rw here (ap (λ rest. row_of e ∷ rest) more)

-- ---- named old values

module _ (old : Wanted) (are : are_keys old.keys ≡ true) where
  none_other : (rows : List Row) → list_all (λ other. not (is_at old.fact old.keys other)) rows ≡ true → list_any (is_other old) rows ≡ false
  none_other [] none = refl
  none_other (first ∷ rows) none = by (is_at old.fact old.keys first) (none_other rows) none
    where
      by : (b : Bool) → (list_all (λ other. not (is_at old.fact old.keys other)) rows ≡ true → list_any (is_other old) rows ≡ false) → (not b && list_all (λ other. not (is_at old.fact old.keys other)) rows) ≡ true → ((b && not (has_named old.values first.values)) || list_any (is_other old) rows) ≡ false
      by true more is = absurd (false≢true is)
      by false more is = more is

  or_none : (b : Bool) → (b || false) ≡ b
  or_none true = refl
  or_none false = refl

  pub other-stored : (es : List Entry) (values : List Value) → is_base (rows_of es) ≡ true → lookup (at_key old) es ≡ Some values → list_any (is_other old) (rows_of es) ≡ not (has_named old.values values)
  other-stored [] values base found = absurd (cc)
  other-stored (e ∷ es) values base found =
      let parts = base_parts (row_of e) (rows_of es) base in
      by (at_key old e.0) refl found parts.first (other-stored es values parts.rest)
    where
      by : (b : Bool) → at_key old e.0 ≡ b → cond b (Some e.1) (lookup (at_key old) es) ≡ Some values → list_all (is_before (row_of e)) (rows_of es) ≡ true
          → (lookup (at_key old) es ≡ Some values → list_any (is_other old) (rows_of es) ≡ not (has_named old.values values))
          → list_any (is_other old) (row_of e ∷ rows_of es) ≡ not (has_named old.values values)
      by true is found first more =
          let here : is_at old.fact old.keys (row_of e) ≡ true = sym (ties old are e) ∙ is in
          let same : e.1 ≡ values = cc in
          rw (here, none_other (rows_of es) (none_behind old are e es is first)) (or_none (not (has_named old.values e.1)) ∙ ap (λ vs. not (has_named old.values vs)) same)
      by false is found first more = let here : is_at old.fact old.keys (row_of e) ≡ false = sym (ties old are e) ∙ is in rw here (more found)
