-- A map that is made of the entries of another has the same rows.
use Rattle.std.proofs.Common.{◌≡◌, ℕ, Bool, true, false, if◌then◌else◌, List, [], ◌∷◌, ◌++◌, append-nil, Option, Some, None, Equal, is_eq, BTreeMap, refl, sym, ap, subst, ◌∙◌}
use Rattle.std.proofs.lemmas.Bool.{and_parts}
use Rattle.std.proofs.lemmas.Option.{same_Some}
use Rattle.std.proofs.lemmas.Map.Keys.{IsDistinct-from_sorted}
use Rattle.std.proofs.lemmas.Map.Lookups.{btree_map_read_from_get, map_keys}
use Rattle.std.proofs.lemmas.Map.Made.{update_all_none}
use Rattle.std.specs.BTreeMap.{IsFromIterResult, IsOrdered, keys}
use Rattle.std.specs.Cmp.{eq_by_cmp_equiv, tied_back, unsigned_Decides}
use Rattle.std.specs.Ordering.{eq_by_cmp}
use Rattle.base_bytes.specs.declared.value.Value.{Value}
use Rattle.fact_store.specs.declared.wanted.Wanted.{Wanted}
use Rattle.fact_store.specs.working.Orders.{wanted_order, wanted_order_total}
use Rattle.fact_store.specs.Rows.{are_keys, is_base}
use Rattle.fact_store.specs.Sameness.{same_values}
use Rattle.fact_store.specs.Stored.{row_of, rows_of}
use Rattle.fact_store.proofs.Bases.{base_parts}
use Rattle.fact_store.proofs.Places.{row_ties}
use Rattle.fact_store.proofs.Sameness.{same_values_decide}
use Rattle.fact_store.proofs.Writing.{Entry}

-- what the order tells of a key: all of its place, where it is one of key values
abbrev seen_at : ℕ → List Value → Option (ℕ × List Value)
seen_at fact keys = if are_keys keys then Some (fact, keys) else None

abbrev seen : Wanted → Option (ℕ × List Value)
seen key = seen_at key.fact key.keys

seen_keys : (a b : Wanted) → are_keys a.keys ≡ true → wanted_order a b ≡ Equal → seen a ≡ seen b
seen_keys a b are tied =
    let at = and_parts _ (same_values a.keys b.keys) (sym (row_ties (row_of (a, [])) (row_of (b, [])) are) ∙ ap is_eq tied) in
    let fact : a.fact ≡ b.fact = (unsigned_Decides a.fact b.fact).0 at.0 in
    let same : a.keys ≡ b.keys = (same_values_decide a.keys b.keys).0 at.1 in
    λ i. seen_at (fact i) (same i)

seen_tied : (a b : Wanted) → wanted_order a b ≡ Equal → seen a ≡ seen b
seen_tied a b tied = by (are_keys a.keys) (are_keys b.keys) refl refl
  where
    by : (s t : Bool) → are_keys a.keys ≡ s → are_keys b.keys ≡ t → seen a ≡ seen b
    by true t is is_too = seen_keys a b is tied
    by false true is is_too = sym (seen_keys b a is_too (tied_back wanted_order_total a b tied))
    by false false is is_too = rw (is, is_too) refl

cons_parts : {A : Type 0} (a b : A) (rest others : List A) → a ∷ rest ≡ b ∷ others → (a ≡ b) × (rest ≡ others)
cons_parts a b rest others is = (cc, cc)

some_none : {A P : Type 0} (a : A) → Some a ≡ None → P
some_none a is = absurd (cc)

-- entries of which the same is seen have the same rows
rows_seen : (es fs : List Entry) → is_base (rows_of es) ≡ true → map_keys seen es ≡ map_keys seen fs → rows_of fs ≡ rows_of es
rows_seen [] [] base is = refl
rows_seen [] (f ∷ fs) base is = absurd (cc)
rows_seen (e ∷ es) [] base is = absurd (cc)
rows_seen (e ∷ es) (f ∷ fs) base is =
    let parts = base_parts (row_of e) (rows_of es) base in
    let split = cons_parts _ _ (map_keys seen es) (map_keys seen fs) is in
    let key : seen e.0 ≡ seen f.0 = ap (λ p. p.0) split.0 in
    by (are_keys f.0.keys) refl parts.keys (rw parts.keys at key) (ap (λ p. p.1) split.0) (rows_seen es fs parts.rest split.1)
  where
    by : (b : Bool) → are_keys f.0.keys ≡ b → are_keys e.0.keys ≡ true → Some (e.0.fact, e.0.keys) ≡ seen f.0 → e.1 ≡ f.1 → rows_of fs ≡ rows_of es → row_of f ∷ rows_of fs ≡ row_of e ∷ rows_of es
    by true is are key value more =
        let pair = same_Some (e.0.fact, e.0.keys) (f.0.fact, f.0.keys) (rw is at key) in
        sym (λ i. record { fact = (pair i).0; keys = (pair i).1; values = value i } ∷ sym more i)
    by false is are key value more = some_none _ (rw is at key)

pub rows-copied : (m n : BTreeMap Wanted (List Value)) (es rest : List Entry) → IsOrdered wanted_order m → is_base (rows_of m.entries) ≡ true → es ++ rest ≡ m.entries → rest ≡ [] → IsFromIterResult wanted_order es n → rows_of n.entries ≡ rows_of m.entries
rows-copied m n es rest ordered base whole over made_of =
    let same : es ≡ m.entries = sym (append-nil es) ∙ ap (λ more. es ++ more) (sym over) ∙ whole in
    let made : IsFromIterResult wanted_order m.entries n = subst (λ all. IsFromIterResult wanted_order all n) same made_of in
    let distinct = IsDistinct-from_sorted wanted_order (keys m) ordered in
    rows_seen m.entries n.entries base (btree_map_read_from_get wanted_order_total m n ordered made.1
    (λ q. sym (made.0 q ∙ update_all_none (eq_by_cmp_equiv wanted_order_total) (eq_by_cmp wanted_order) (λ x y. refl) m.entries q distinct)) seen seen_tied)
