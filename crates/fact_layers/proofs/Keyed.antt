-- The places of a layer stay of key values, whatever is written.
use Rattle.std.proofs.Common.{◌≡◌, Bool, true, false, cond, [], ◌∷◌, Ordering, Less, Equal, Greater, refl, ap, ◌∙◌}
use Rattle.std.proofs.lemmas.Bool.{and_from, and_parts}
use Rattle.std.specs.BTreeMap.{insert_entry}
use Rattle.std.specs.Map.{remove_entry}
use Rattle.std.specs.Ordering.{match_ordering}
use Rattle.fact_store.specs.declared.wanted.Wanted.{Wanted}
use Rattle.fact_store.specs.Rows.{are_keys}
use Rattle.fact_store.specs.working.Orders.{wanted_order}
use Rattle.fact_layers.specs.Layers.{Entries, Said}
use Rattle.fact_layers.specs.working.Said.{are_keyed}

keyed-insert : (place : Wanted) (says : Said) (es : Entries) → are_keys place.keys ≡ true → are_keyed es ≡ true → are_keyed (insert_entry wanted_order es place says) ≡ true
keyed-insert place says [] keys keyed = and_from _ _ keys refl
keyed-insert place says (e ∷ es) keys keyed = let parts = and_parts (are_keys e.0.keys) (are_keyed es) keyed in by (wanted_order place e.0) parts.0 parts.1 (keyed-insert place says es keys parts.1)
  where
    by : (o : Ordering) → are_keys e.0.keys ≡ true → are_keyed es ≡ true → are_keyed (insert_entry wanted_order es place says) ≡ true
        → are_keyed (match_ordering o ((place, says) ∷ e ∷ es) ((e.0, says) ∷ es) (e ∷ insert_entry wanted_order es place says)) ≡ true
    by Less here rest more = and_from _ _ keys (and_from _ _ here rest)
    by Equal here rest more = and_from _ _ here rest
    by Greater here rest more = and_from _ _ here more

keyed-remove : (test : Wanted → Bool) (es : Entries) → are_keyed es ≡ true → are_keyed (remove_entry test es) ≡ true
keyed-remove test [] keyed = refl
keyed-remove test (e ∷ es) keyed = let parts = and_parts (are_keys e.0.keys) (are_keyed es) keyed in by (test e.0) parts.0 parts.1 (keyed-remove test es parts.1)
  where
    by : (b : Bool) → are_keys e.0.keys ≡ true → are_keyed es ≡ true → are_keyed (remove_entry test es) ≡ true → are_keyed (cond b es (e ∷ remove_entry test es)) ≡ true
    by true here rest more = rest
    by false here rest more = and_from _ _ here more

pub keyed-inserted : (place : Wanted) (says : Said) (es new : Entries) → new ≡ insert_entry wanted_order es place says → are_keys place.keys ≡ true → are_keyed es ≡ true → are_keyed new ≡ true
keyed-inserted place says es new is keys keyed = ap are_keyed is ∙ keyed-insert place says es keys keyed

pub keyed-removed : (test : Wanted → Bool) (es new : Entries) → new ≡ remove_entry test es → are_keyed es ≡ true → are_keyed new ≡ true
keyed-removed test es new is keyed = ap are_keyed is ∙ keyed-remove test es keyed
