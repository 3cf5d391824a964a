-- Names of which no two are the same, one after another.
use Rattle.std.proofs.Common.{◌≡◌, ℕ, zero, suc, ◌+◌, ◌<◌, Bool, true, false, not, ◌&&◌, ◌||◌, List, [], ◌∷◌, ◌++◌, length, take, get_or, refl, ap, sym, ◌∙◌, arith, true≢false}
use Rattle.std.specs.Str.{bytes_eq}
use Rattle.std.proofs.lemmas.List.{take_more}
use Rattle.std.proofs.lemmas.List.Folds.{list_any-append}
use Rattle.std.proofs.lemmas.Slice.Eq.{bytes_eq-Decides}
use Rattle.policy_rules.specs.FieldLists.{are_distinct}
use Rattle.policy_rules.specs.Names.{Name, is_among}

by_test : {P : Type 0} (b : Bool) → (b ≡ true → P) → (b ≡ false → P) → P
by_test true holds fails = holds refl
by_test false holds fails = fails refl

turned : (a b : Name) → bytes_eq a b ≡ bytes_eq b a
turned a b =
    by_test (bytes_eq a b)
    (λ same. same ∙ sym ((bytes_eq-Decides b a).1 (sym ((bytes_eq-Decides a b).0 same))))
    (λ other. by_test (bytes_eq b a)
    (λ same. let same_too : bytes_eq a b ≡ true = (bytes_eq-Decides a b).1 (sym ((bytes_eq-Decides b a).0 same)) in absurd (true≢false (sym same_too ∙ other)))
    (λ other_too. other ∙ sym other_too))

or_true : (b : Bool) → (b || true) ≡ true
or_true true = refl
or_true false = refl

and_false : (b : Bool) → (b && false) ≡ false
and_false true = refl
and_false false = refl

regroup : (a b d m : Bool) → (not (a || (b || false)) && (d && not m)) ≡ ((not a && d) && not (b || m))
regroup true b d m = refl
regroup false true true m = refl
regroup false true false m = refl
regroup false false d m = refl

distinct_push : (names : List Name) (name : Name) → are_distinct (names ++ name ∷ []) ≡ (are_distinct names && not (is_among name names))
distinct_push [] name = refl
distinct_push (first ∷ names) name =
    rw (list_any-append (bytes_eq first) names (name ∷ []), distinct_push names name, turned first name)
    (regroup (is_among first names) (bytes_eq name first) (are_distinct names) (is_among name names))

among_at : (names : List Name) (i : ℕ) (d q : Name) → i < length names → bytes_eq q (get_or names i d) ≡ true → is_among q names ≡ true
among_at [] i d q within is = absurd (omega arith)
among_at (x ∷ names) zero d q within is = rw is refl
among_at (x ∷ names) (suc i) d q within is = rw (among_at names i d q (omega arith) is) (or_true (bytes_eq q x))

-- a name that stood before
repeated_at : (names : List Name) (i : ℕ) (d : Name) → i < length names → is_among (get_or names i d) (take i names) ≡ true → are_distinct names ≡ false
repeated_at [] i d within is = absurd (omega arith)
repeated_at (x ∷ names) zero d within is = absurd (true≢false (sym is))
repeated_at (x ∷ names) (suc i) d within is =
    by_test (bytes_eq (get_or names i d) x)
    (λ same. rw (among_at names i d x (omega arith) (turned x (get_or names i d) ∙ same)) refl)
    (λ other. rw (repeated_at names i d (omega arith) (rw other at is)) (and_false (not (is_among x names))))

pub repeated : (names : List Name) (i : ℕ) (name : Name) → i < length names → name ≡ get_or names i name → is_among name (take i names) ≡ true → false ≡ are_distinct names
repeated names i name within at is = sym (repeated_at names i name within (ap (λ n. is_among n (take i names)) (sym at) ∙ is))

-- one name more, that is new
pub distinct_more : (names : List Name) (i : ℕ) (name : Name) → i < length names → name ≡ get_or names i name → is_among name (take i names) ≡ false
    → are_distinct (take i names) ≡ true → are_distinct (take (i + 1) names) ≡ true
distinct_more names i name within at is so_far =
    ap are_distinct (take_more names i name within ∙ ap (λ n. take i names ++ n ∷ []) (sym at)) ∙ distinct_push (take i names) name ∙ rw (so_far, is) refl

or_false : (b : Bool) → (b || false) ≡ b
or_false true = refl
or_false false = refl

pub among_more : (names : List Name) (i : ℕ) (name q : Name) → i < length names → name ≡ get_or names i name → is_among q (take (i + 1) names) ≡ (is_among q (take i names) || bytes_eq q name)
among_more names i name q within at =
    ap (is_among q) (take_more names i name within ∙ ap (λ n. take i names ++ n ∷ []) (sym at)) ∙ list_any-append (bytes_eq q) (take i names) (name ∷ []) ∙ ap (λ b. is_among q (take i names) || b) (or_false (bytes_eq q name))

pub not_new : (b is_new : Bool) → is_new ≡ not b → false ≡ is_new → b ≡ true
not_new true is_new is no_new = refl
not_new false is_new is no_new = absurd (true≢false (sym is ∙ sym no_new))

pub is_new_so : (b is_new : Bool) → is_new ≡ not b → true ≡ is_new → b ≡ false
is_new_so false is_new is new_one = refl
is_new_so true is_new is new_one = absurd (true≢false (new_one ∙ is))
