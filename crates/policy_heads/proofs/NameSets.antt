-- Names in a sorted set, as a list of names.
use Rattle.std.proofs.Common.{◌≡◌, ℕ, ◌+◌, ◌<◌, Bool, true, false, ◌||◌, List, [], ◌∷◌, length, map, take, get_or, Equal, Greater, Less, refl, ap, sym, ◌∙◌, Ordering}
use Rattle.std.specs.Borrow.{Bor}
use Rattle.std.specs.BTreeSet.{insert_key}
use Rattle.std.specs.Cmp.Lexicographic.{slice_cmp}
use Rattle.std.specs.List.{list_any}
use Rattle.std.specs.Ordering.{is_eq, match_ordering, nat_cmp}
use Rattle.std.specs.Str.{bytes_eq}
use Rattle.std.proofs.lemmas.List.{take_more}
use Rattle.std.proofs.lemmas.List.Folds.{list_any-append}
use Rattle.std.proofs.lemmas.Map.Text.{is_eq-slice_cmp}
use Rattle.std.proofs.lemmas.Slice.Eq.{bytes_eq-Decides}
use Rattle.policy_rules.specs.Names.{Name, is_among}

abbrev pub of_keys : List (Bor Name) → List Name
of_keys = map (λ k. k.now)

-- a key of the set is among its names
pub contained : (q : Name) (keys : List (Bor Name)) → list_any (λ k. is_eq (slice_cmp nat_cmp q k.now)) keys ≡ is_among q (of_keys keys)
contained q [] = refl
contained q (k ∷ keys) = rw (is_eq-slice_cmp q (k.now), contained q keys) refl

or_false : (a : Bool) → (a || false) ≡ a
or_false true = refl
or_false false = refl

or_last : (a b d : Bool) → (a || (b || d)) ≡ ((b || d) || a)
or_last true true d = refl
or_last true false true = refl
or_last true false false = refl
or_last false b d = sym (or_false (b || d))

or_same : (a b : Bool) → (a || b) ≡ ((a || b) || a)
or_same true b = refl
or_same false b = sym (or_false b)

or_later : (a b d : Bool) → (a || (b || d)) ≡ ((a || b) || d)
or_later true b d = refl
or_later false b d = refl

-- the names of a set with one more
pub among_inserted : (key : Bor Name) (q : Name) (keys : List (Bor Name))
    → is_among q (of_keys (insert_key (λ x y. slice_cmp nat_cmp x.now y.now) keys key)) ≡ (is_among q (of_keys keys) || bytes_eq q key.now)
among_inserted key q [] = or_false (bytes_eq q (key.now))
among_inserted key q (x ∷ xs) = by (slice_cmp nat_cmp (key.now) (x.now)) refl (among_inserted key q xs)
  where
    by : (o : Ordering) → slice_cmp nat_cmp (key.now) (x.now) ≡ o
        → is_among q (of_keys (insert_key (λ x y. slice_cmp nat_cmp x.now y.now) xs key)) ≡ (is_among q (of_keys xs) || bytes_eq q key.now)
        → is_among q (of_keys (match_ordering o (key ∷ x ∷ xs) (x ∷ xs) (x ∷ insert_key (λ x y. slice_cmp nat_cmp x.now y.now) xs key)))
        ≡ ((bytes_eq q (x.now) || is_among q (of_keys xs)) || bytes_eq q key.now)
    by Less is later = or_last (bytes_eq q (key.now)) (bytes_eq q (x.now)) (is_among q (of_keys xs))
    by Equal is later =
        let same : key.now ≡ x.now = (bytes_eq-Decides (key.now) (x.now)).0 (sym (is_eq-slice_cmp (key.now) (x.now)) ∙ ap is_eq is) in
        or_same (bytes_eq q (x.now)) (is_among q (of_keys xs)) ∙ ap (λ k. (bytes_eq q (x.now) || is_among q (of_keys xs)) || bytes_eq q k) (sym same)
    by Greater is later = ap (λ b. bytes_eq q (x.now) || b) later ∙ or_later (bytes_eq q (x.now)) (is_among q (of_keys xs)) (bytes_eq q (key.now))

-- ---- what is so of each front of a list of names

-- one name more
pub among_more : (q : Name) (names : List Name) (i : ℕ) (name : Name) → i < length names → name ≡ get_or names i name
    → is_among q (take (i + 1) names) ≡ (is_among q (take i names) || bytes_eq q name)
among_more q names i name lt is =
    rw (take_more names i name lt, list_any-append (bytes_eq q) (take i names) (get_or names i name ∷ []), ← is) (ap (λ b. is_among q (take i names) || b) (or_false (bytes_eq q name)))
