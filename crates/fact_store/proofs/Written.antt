-- What each write of the map answers, and that its rows stay a base.
use Rattle.std.proofs.Common.{◌≡◌, Bool, true, false, not, List, Some, None, is_some, Result, Ok, Err, OnOk, OnErr, refl, sym, ap, ◌∙◌}
use Rattle.std.proofs.lemmas.Map.Steps.{set_value_same}
use Rattle.std.specs.BTreeMap.{insert_entry}
use Rattle.std.specs.Map.{lookup, remove_entry, set_value}
use Rattle.base_bytes.specs.declared.value.Value.{Value}
use Rattle.fact_store.specs.declared.wanted.Wanted.{Wanted}
use Rattle.fact_store.specs.declared.write_fault.WriteFault.TheVariants as fault
use Rattle.fact_store.specs.Matching.{has_named, is_at}
use Rattle.fact_store.specs.working.Orders.{wanted_order}
use Rattle.fact_store.specs.Rows.{are_keys, is_base}
use Rattle.fact_store.specs.Stored.{row_of, rows_of}
use Rattle.fact_store.specs.Writes.{created, deleted, is_there, updated}
use Rattle.fact_store.proofs.Bases.{base-filter, base-revalued, base-with_row}
use Rattle.fact_store.proofs.Writing.{Entry, at_key, insert-stored, other-stored, remove-stored, set-stored, there-stored}

module _ (key : Wanted) (are : are_keys key.keys ≡ true) (es : List Entry) (base : is_base (rows_of es) ≡ true) where
  there : (b : Bool) → is_some (lookup (at_key key) es) ≡ b → is_there key.fact key.keys (rows_of es) ≡ b
  there b is = sym (there-stored key are es) ∙ is

  -- ---- create

  module _ (values : List Value) where
    pub create-exists : is_some (lookup (at_key key) es) ≡ true → created (row_of (key, values)) (rows_of es) ≡ Err fault.Exists
    create-exists found = rw (there true found) refl

    module _ (new : List Entry) (none : is_some (lookup (at_key key) es) ≡ false) where
      pub create-done : new ≡ insert_entry wanted_order es key values → created (row_of (key, values)) (rows_of es) ≡ Ok (rows_of new)
      create-done is = let absent = there false none in rw absent (ap Ok (sym (ap rows_of is ∙ insert-stored key are values es base absent)))

      create-base : new ≡ insert_entry wanted_order es key values → is_base (rows_of new) ≡ true
      create-base is = ap is_base (ap rows_of is ∙ insert-stored key are values es base (there false none)) ∙ base-with_row (row_of (key, values)) (rows_of es) are base

      pub insert-base : {A B : Type 0} (r : Result A B) → OnOk r (new ≡ insert_entry wanted_order es key values) → OnErr r (new ≡ es) → is_base (rows_of new) ≡ true
      insert-base (Ok a) done kept = create-base done
      insert-base (Err b) done kept = ap (λ (all : List Entry). is_base (rows_of all)) kept ∙ base

  -- ---- update

  module _ (values : List Value) where
    pub update-missing : lookup (at_key key) es ≡ None → updated key values (rows_of es) ≡ Err fault.Missing
    update-missing none = rw (there false (ap is_some none)) refl

    module _ (held : List Value) (found : lookup (at_key key) es ≡ Some held) where
      pub update-differs : has_named key.values held ≡ false → updated key values (rows_of es) ≡ Err fault.Differs
      update-differs lacks = rw (there true (ap is_some found), other-stored key are es held base found ∙ ap not lacks) refl

      pub update-done : (new : List Entry) → has_named key.values held ≡ true → new ≡ set_value (at_key key) es values → updated key values (rows_of es) ≡ Ok (rows_of new)
      update-done new has is =
          rw (there true (ap is_some found), other-stored key are es held base found ∙ ap not has) (ap Ok (sym (ap rows_of is ∙ set-stored key are values es base)))

      pub update-kept : (new : List Entry) → new ≡ set_value (at_key key) es held → rows_of new ≡ rows_of es
      update-kept new is = ap rows_of (is ∙ set_value_same (at_key key) es held found)

    pub update-base : (new : List Entry) → new ≡ set_value (at_key key) es values → is_base (rows_of new) ≡ true
    update-base new is = ap is_base (ap rows_of is ∙ set-stored key are values es base) ∙ base-revalued key.fact key.keys values (rows_of es) base

  -- ---- delete

  pub delete-missing : None ≡ lookup (at_key key) es → deleted key.fact key.keys (rows_of es) ≡ Err fault.Missing
  delete-missing none = rw (there false (sym (ap is_some none))) refl

  pub delete-done : (held : List Value) (new : List Entry) → Some held ≡ lookup (at_key key) es → new ≡ remove_entry (at_key key) es → deleted key.fact key.keys (rows_of es) ≡ Ok (rows_of new)
  delete-done held new found is = rw (there true (sym (ap is_some found))) (ap Ok (sym (ap rows_of is ∙ remove-stored key are es base)))

  pub delete-base : (new : List Entry) → new ≡ remove_entry (at_key key) es → is_base (rows_of new) ≡ true
  delete-base new is = ap is_base (ap rows_of is ∙ remove-stored key are es base) ∙ base-filter (λ other. not (is_at key.fact key.keys other)) (rows_of es) base
