-- Places that are tied, and rows at them.
use Rattle.std.proofs.Common.{◌≡◌, Bool, true, false, ◌==◌, not, cond, List, [], ◌∷◌, filter, refl, sym, ◌∙◌}
use Rattle.std.proofs.lemmas.Bool.{and_from, and_parts, false_from_ne_true, false≢true}
use Rattle.std.specs.Cmp.{unsigned_Decides}
use Rattle.std.specs.List.{list_any}
use Rattle.base_bytes.specs.declared.value.Value.{Value}
use Rattle.fact_store.specs.declared.row.Row.{Row}
use Rattle.fact_store.specs.declared.wanted.Wanted.{Wanted}
use Rattle.fact_store.specs.Matching.{is_at}
use Rattle.fact_store.specs.Rows.{are_keys}
use Rattle.fact_store.specs.Sameness.{same_values}
use Rattle.fact_store.specs.Stored.{row_of}
use Rattle.fact_store.proofs.Places.{row_ties}
use Rattle.fact_store.proofs.Sameness.{same_values_decide}
use Rattle.fact_layers.specs.working.Said.{at}

-- ---- lists

pub gone : {X : Type 0} (p : X → Bool) (xs : List X) → filter p (filter (λ x. not (p x)) xs) ≡ []
gone p [] = refl
gone p (x ∷ xs) = by (p x) refl (gone p xs)
  where
    by : (b : Bool) → p x ≡ b → filter p (filter (λ y. not (p y)) xs) ≡ [] → filter p (cond (not b) (x ∷ filter (λ y. not (p y)) xs) (filter (λ y. not (p y)) xs)) ≡ []
    by true is more = more
    by false is more = rw is more

pub none_gone : {X : Type 0} (p : X → Bool) (xs : List X) → list_any p (filter (λ x. not (p x)) xs) ≡ false
none_gone p [] = refl
none_gone p (x ∷ xs) = by (p x) refl (none_gone p xs)
  where
    by : (b : Bool) → p x ≡ b → list_any p (filter (λ y. not (p y)) xs) ≡ false → list_any p (cond (not b) (x ∷ filter (λ y. not (p y)) xs) (filter (λ y. not (p y)) xs)) ≡ false
    by true is more = more
    by false is more = rw is more

-- ---- places

-- the places have the same fact and keys
pub record IsAlike (a b : Wanted) : Type 0 where
  pub fact : a.fact ≡ b.fact
  pub keys : a.keys ≡ b.keys

abbrev pub at_row : Wanted → Row → Bool
at_row place row = is_at place.fact place.keys row

pub alike_from_row : (a : Wanted) (row : Row) → at_row a row ≡ true → (a.fact ≡ row.fact) × (a.keys ≡ row.keys)
alike_from_row a row is =
    let parts = and_parts (a.fact == row.fact) (same_values a.keys row.keys) is in
    ((unsigned_Decides a.fact row.fact).0 parts.0, (same_values_decide a.keys row.keys).0 parts.1)

pub row_at_from : (a : Wanted) (row : Row) → a.fact ≡ row.fact → a.keys ≡ row.keys → at_row a row ≡ true
row_at_from a row fact keys = and_from _ _ ((unsigned_Decides a.fact row.fact).1 fact) ((same_values_decide a.keys row.keys).1 keys)

-- a place of key values is tied with another where it has its row
pub at_tied : (a b : Wanted) (values : List Value) → are_keys a.keys ≡ true → at a b ≡ at_row a (row_of (b, values))
at_tied a b values are = row_ties (row_of (a, [])) (row_of (b, values)) are

pub alike : (a b : Wanted) → are_keys a.keys ≡ true → at a b ≡ true → IsAlike a b
alike a b are is = let parts = alike_from_row a (row_of (b, [])) (sym (at_tied a b [] are) ∙ is) in record { fact = parts.0; keys = parts.1 }

pub at_alike : (a b : Wanted) → are_keys a.keys ≡ true → IsAlike a b → at a b ≡ true
at_alike a b are same = at_tied a b [] are ∙ row_at_from a (row_of (b, [])) same.fact same.keys

pub same_test : (a b : Wanted) → IsAlike a b → at_row a ≡ at_row b
same_test a b same = λ i. is_at (same.fact i) (same.keys i)

pub same_row : (a b : Wanted) (values : List Value) → IsAlike a b → row_of (a, values) ≡ row_of (b, values)
same_row a b values same = λ i. record { fact = same.fact i; keys = same.keys i; values = values }

-- a row at a place isn't at one that isn't tied with it
pub elsewhere : (a b : Wanted) → are_keys a.keys ≡ true → at a b ≡ false → (row : Row) → at_row a row ≡ true → at_row b row ≡ false
elsewhere a b are apart row is =
    let here = alike_from_row a row is in
    false_from_ne_true (at_row b row) (λ then.
    let there = alike_from_row b row then in
    false≢true (sym apart ∙ at_alike a b are (record { fact = here.0 ∙ sym there.0; keys = here.1 ∙ sym there.1 })))

pub elsewhere-back : (a b : Wanted) → are_keys a.keys ≡ true → at a b ≡ false → (row : Row) → at_row b row ≡ true → at_row a row ≡ false
elsewhere-back a b are apart row is = false_from_ne_true (at_row a row) (λ then. false≢true (sym (elsewhere a b are apart row then) ∙ is))
