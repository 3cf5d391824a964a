-- What the layers' writes make of the rows is what the trait says.
use Rattle.std.proofs.Common.{◌≡◌, Bool, true, false, ◌&&◌, ◌||◌, not, cond, List, [], ◌∷◌, map, filter, Some, None, is_eq, is_some, Option, option_copied, Bor, BTreeMap, Ok, Err, refl, sym, ap, ◌∙◌}
use Rattle.std.proofs.lemmas.Bool.{false_from_ne_true, false≢true, not_from_false}
use Rattle.std.specs.List.{list_any}
use Rattle.std.specs.declared.sync.Arc.{Arc}
use Rattle.base_bytes.specs.declared.value.Value.{Value}
use Rattle.fact_store.specs.declared.row.Row.{Row}
use Rattle.fact_store.specs.declared.wanted.Wanted.{Wanted}
use Rattle.fact_store.specs.declared.write_fault.WriteFault.TheVariants as fault
use Rattle.fact_store.specs.Laws.{IsElsewhere}
use Rattle.fact_store.specs.Matching.{has_named}
use Rattle.fact_store.specs.Rows.{are_keys, is_base, place_order}
use Rattle.fact_store.specs.Writes.{created, deleted, is_other, is_there, revalued, updated, with_row}
use Rattle.fact_store.specs.Stored.{row_of}
use Rattle.fact_store.proofs.Bases.{base-revalued, base-with_row}
use Rattle.fact_store.proofs.Lists.{filter-filter}
use Rattle.fact_store.proofs.RowLaws.{at-map-revalued, at_itself, leaves, stands, taken-revalued}
use Rattle.fact_layers.specs.Layers.{Entries, Said, layered, shared, without}
use Rattle.fact_layers.specs.working.Bases.{layered_base, without_base}
use Rattle.fact_layers.specs.working.Said.{Replaces, are_all_keyed, at, held}
use Rattle.fact_layers.proofs.Alike.{alike, at_row, elsewhere, gone, same_row, same_test}
use Rattle.fact_layers.proofs.Meaning.{at-layered, row_at, told-layered}

-- ---- what is found at a place

abbrev some_in : {X : Type 0} → List X → Bool
some_in [] = false
some_in (x ∷ xs) = true

any-filter : {X : Type 0} (p : X → Bool) (xs : List X) → list_any p xs ≡ some_in (filter p xs)
any-filter p [] = refl
any-filter p (x ∷ xs) = by (p x) (any-filter p xs)
  where
    by : (b : Bool) → list_any p xs ≡ some_in (filter p xs) → (b || list_any p xs) ≡ some_in (cond b (x ∷ filter p xs) (filter p xs))
    by true more = refl
    by false more = more

any-both : {X : Type 0} (p r : X → Bool) (xs : List X) → list_any (λ x. p x && r x) xs ≡ list_any r (filter p xs)
any-both p r [] = refl
any-both p r (x ∷ xs) = by (p x) (any-both p r xs)
  where
    by : (b : Bool) → list_any (λ y. p y && r y) xs ≡ list_any r (filter p xs) → ((b && r x) || list_any (λ y. p y && r y) xs) ≡ list_any r (cond b (x ∷ filter p xs) (filter p xs))
    by true more = ap (λ rest. r x || rest) more
    by false more = more

or_none : (b : Bool) → (b || false) ≡ b
or_none true = refl
or_none false = refl

-- ---- a write at a place

module _ (key : Wanted) (are : are_keys key.keys ≡ true) (layers : List Entries) (keyed : are_all_keyed layers ≡ true) where
  base : is_base (layered layers) ≡ true
  base = layered_base layers keyed

  there : is_there key.fact key.keys (layered layers) ≡ is_some (held key layers)
  there = any-filter (at_row key) (layered layers) ∙ ap some_in (at-layered key are layers keyed) ∙ by (held key layers)
    where
      by : (says : Said) → some_in (row_at key says) ≡ is_some says
      by None = refl
      by (Some values) = refl

  module _ (new : List Entries) (says : Said) (replaces : Replaces key says layers new) where
    replaced : (after : List Row) → is_base after ≡ true → filter (at_row key) after ≡ row_at key says → ((test : Row → Bool) → IsElsewhere test key.fact key.keys → filter test after ≡ filter test (layered layers)) → layered new ≡ after
    replaced after based stand leave =
        told-layered new after replaces.keyed based (λ q keys. by q keys (at key q) refl)
      where
        by : (q : Wanted) → are_keys q.keys ≡ true → (b : Bool) → at key q ≡ b → filter (at_row q) after ≡ row_at q (held q new)
        by q keys true is =
            let same = alike key q are is in
            ap (λ (test : Row → Bool). filter test after) (sym (same_test key q same)) ∙ stand ∙ moved says ∙ ap (row_at q) (ap (λ b. cond b says (held q layers)) (sym is) ∙ sym (replaces.stands q))
          where
            moved : (says : Said) → row_at key says ≡ row_at q says
            moved None = refl
            moved (Some values) = ap (λ row. row ∷ []) (same_row key q values (alike key q are is))
        by q keys false is =
            leave (at_row q) (λ row here. elsewhere key q are is row here) ∙ at-layered q keys layers keyed ∙ ap (row_at q) (ap (λ b. cond b says (held q layers)) (sym is) ∙ sym (replaces.stands q))

  pub create-exists : (values : List Value) → is_some (held key layers) ≡ true → created (row_of (key, values)) (layered layers) ≡ Err fault.Exists
  create-exists values found = rw (there ∙ found) refl

  pub create-done : (values : List Value) (new : List Entries) → is_some (held key layers) ≡ false → Replaces key (Some values) layers new → created (row_of (key, values)) (layered layers) ≡ Ok (layered new)
  create-done values new none replaces =
      let absent = there ∙ none in
      let row = row_of (key, values) in
      rw absent (ap Ok (sym (replaced new (Some values) replaces (with_row row (layered layers)) (base-with_row row (layered layers) are base)
      (stands row are (layered layers) base absent) (λ test lacks. leaves row are test (layered layers) base absent (lacks row (at_itself row))))))

  pub update-missing : (values : List Value) → held key layers ≡ None → updated key values (layered layers) ≡ Err fault.Missing
  update-missing values none = rw (there ∙ ap is_some none) refl

  other : (found : List Value) → held key layers ≡ Some found → list_any (is_other key) (layered layers) ≡ not (has_named key.values found)
  other found is =
      any-both (at_row key) (λ row. not (has_named key.values row.values)) (layered layers)
      ∙ ap (list_any (λ (row : Row). not (has_named key.values row.values))) (at-layered key are layers keyed ∙ ap (row_at key) is)
      ∙ or_none (not (has_named key.values found))

  pub update-differs : (values found : List Value) → held key layers ≡ Some found → has_named key.values found ≡ false → updated key values (layered layers) ≡ Err fault.Differs
  update-differs values found is lacks = rw (there ∙ ap is_some is, other found is ∙ ap not lacks) refl

  pub update-done : (values found : List Value) (new : List Entries) → held key layers ≡ Some found → has_named key.values found ≡ true → Replaces key (Some values) layers new → updated key values (layered layers) ≡ Ok (layered new)
  update-done values found new is has replaces =
      rw (there ∙ ap is_some is, other found is ∙ ap not has) (ap Ok (sym (replaced new (Some values) replaces (map (revalued key.fact key.keys values) (layered layers)) (base-revalued key.fact key.keys values (layered layers) base)
      (at-map-revalued key.fact key.keys values (layered layers) ∙ ap (map (revalued key.fact key.keys values)) (at-layered key are layers keyed ∙ ap (row_at key) is) ∙ one)
      (λ test lacks. taken-revalued key.fact key.keys values test lacks (layered layers)))))
    where
      one : map (revalued key.fact key.keys values) (row_of (key, found) ∷ []) ≡ row_of (key, values) ∷ []
      one = rw (at_itself (row_of (key, found))) refl

  pub delete-missing : held key layers ≡ None → deleted key.fact key.keys (layered layers) ≡ Err fault.Missing
  delete-missing none = rw (there ∙ ap is_some none) refl

  pub delete-done : (new : List Entries) → is_some (held key layers) ≡ true → Replaces key None layers new → deleted key.fact key.keys (layered layers) ≡ Ok (layered new)
  delete-done new found replaces =
      rw (there ∙ found) (ap Ok (sym (replaced new None replaces (without key (layered layers)) (without_base key (layered layers) base) (gone (at_row key) (layered layers))
      (λ test lacks. filter-filter test (λ row. not (at_row key row)) (λ row holds. other_row test row lacks holds) (layered layers)))))
    where
      other_row : (test : Row → Bool) (row : Row) → IsElsewhere test key.fact key.keys → test row ≡ true → not (at_row key row) ≡ true
      other_row test row lacks holds = not_from_false (at_row key row) (false_from_ne_true (at_row key row) (λ here. false≢true (sym (lacks row here) ∙ holds)))

-- a place with the same keys does as well
pub replaces-alike : (a b : Wanted) (says : Said) (old new : List Entries) → a.fact ≡ b.fact → a.keys ≡ b.keys → Replaces a says old new → Replaces b says old new
replaces-alike a b says old new fact keys replaces =
    record { keyed = replaces.keyed; stands = λ q. replaces.stands q ∙ (λ i. cond (is_eq (place_order (fact i) (keys i) q.fact q.keys)) says (held q old)) }

-- ---- what the code finds at a place

module _ {A : Type 0} (found : Option (Bor (List Value))) (place : Wanted) (layers seen : List (Arc (BTreeMap Wanted Said) A)) (is : option_copied found ≡ held place (shared seen)) (same : seen ≡ layers) where
  copied : option_copied found ≡ held place (shared layers)
  copied = is ∙ ap (λ ls. held place (shared ls)) same

  pub if-some : (b t : Bool) → b ≡ is_some found → b ≡ t → is_some (held place (shared layers)) ≡ t
  if-some b t tells then = ap is_some (sym copied) ∙ by found ∙ sym tells ∙ then
    where
      by : (o : Option (Bor (List Value))) → is_some (option_copied o) ≡ is_some o
      by None = refl
      by (Some values) = refl

  pub if-none : (b : Bool) → is_some found ≡ not b → b ≡ true → held place (shared layers) ≡ None
  if-none b tells then = sym copied ∙ by found (tells ∙ ap not then)
    where
      by : (o : Option (Bor (List Value))) → is_some o ≡ false → option_copied o ≡ None
      by None none = refl
      by (Some values) none = absurd (false≢true (sym none))

  pub if-not-none : (b : Bool) → is_some found ≡ not b → b ≡ false → is_some (held place (shared layers)) ≡ true
  if-not-none b tells then = if-some (is_some found) true refl (tells ∙ ap not then)
