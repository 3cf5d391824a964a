-- The values that arms list, gone through one by one.
use Rattle.std.proofs.Common.{◌≡◌, ℤ, ℕ, Bool, true, false, not, ◌&&◌, ◌||◌, nat_lt, suc, List, [], ◌∷◌, ◌++◌, length, refl, sym, ap, ◌∙◌, arith}
use Rattle.std.specs.List.{list_all, list_any}
use Rattle.std.specs.Ordering.{int_eq}
use Rattle.std.specs.Str.{bytes_eq}
use Rattle.std.proofs.lemmas.List.{append_assoc}
use Rattle.std.proofs.lemmas.Bool.Decides.{Decides-int_eq, nat_tests}
use Rattle.policy_ast.specs.declared.literal.Literal.{Literal}
use Rattle.policy_ast.specs.declared.literal.Literal.TheVariants as literal
use Rattle.policy_ast.specs.declared.pattern.ArmPattern.{ArmPattern}
use Rattle.policy_ast.specs.declared.pattern.PatternLiteral.{PatternLiteral}
use Rattle.policy_ast.specs.declared.pattern.PatternLiteral.TheVariants as pattern
use Rattle.policy_infer.proofs.FieldFacts.{grouped, parted, same_both, unset}
use Rattle.policy_rules.specs.Coverage.{any_is_last, are_distinct_patterns, is_any, same_literal, same_pattern}

ints_swap : (n m : ℤ) → int_eq n m ≡ int_eq m n
ints_swap n m = by (int_eq n m) (int_eq m n) refl refl
  where
    by : (p q : Bool) → int_eq n m ≡ p → int_eq m n ≡ q → p ≡ q
    by true true is other = refl
    by false false is other = refl
    by true false is other = sym ((Decides-int_eq m n).1 (sym ((Decides-int_eq n m).0 is))) ∙ other
    by false true is other = sym is ∙ (Decides-int_eq n m).1 (sym ((Decides-int_eq m n).0 other))

literals_swap : (a b : Literal) → same_literal a b ≡ same_literal b a
literals_swap (literal.Number n) (literal.Number m) = ints_swap n m
literals_swap (literal.Number n1) (literal.Text t2) = refl
literals_swap (literal.Number n1) literal.True = refl
literals_swap (literal.Number n1) literal.False = refl
literals_swap (literal.Number n1) (literal.Variant e2 v2) = refl
literals_swap (literal.Text t1) (literal.Number n2) = refl
literals_swap (literal.Text t1) (literal.Text t2) = same_both t1 t2
literals_swap (literal.Text t1) literal.True = refl
literals_swap (literal.Text t1) literal.False = refl
literals_swap (literal.Text t1) (literal.Variant e2 v2) = refl
literals_swap literal.True (literal.Number n2) = refl
literals_swap literal.True (literal.Text t2) = refl
literals_swap literal.True literal.True = refl
literals_swap literal.True literal.False = refl
literals_swap literal.True (literal.Variant e2 v2) = refl
literals_swap literal.False (literal.Number n2) = refl
literals_swap literal.False (literal.Text t2) = refl
literals_swap literal.False literal.True = refl
literals_swap literal.False literal.False = refl
literals_swap literal.False (literal.Variant e2 v2) = refl
literals_swap (literal.Variant e1 v1) (literal.Number n2) = refl
literals_swap (literal.Variant e1 v1) (literal.Text t2) = refl
literals_swap (literal.Variant e1 v1) literal.True = refl
literals_swap (literal.Variant e1 v1) literal.False = refl
literals_swap (literal.Variant e1 v1) (literal.Variant e2 v2) = ap (λ b. b && bytes_eq v1 v2) (same_both e1 e2) ∙ ap (λ b. bytes_eq e2 e1 && b) (same_both v1 v2)

pub patterns_swap : (a b : PatternLiteral) → same_pattern a b ≡ same_pattern b a
patterns_swap (pattern.Literal a) (pattern.Literal b) = literals_swap a b
patterns_swap (pattern.Literal a) pattern.None = refl
patterns_swap pattern.None (pattern.Literal b) = refl
patterns_swap pattern.None pattern.None = refl

any_more : (p q : PatternLiteral) (set : List PatternLiteral) → list_any (same_pattern q) (set ++ p ∷ []) ≡ (list_any (same_pattern q) set || same_pattern q p)
any_more p q [] = by (same_pattern q p)
  where
    by : (b : Bool) → (b || false) ≡ b
    by true = refl
    by false = refl
any_more p q (s ∷ set) = ap (λ rest. same_pattern q s || rest) (any_more p q set) ∙ by (same_pattern q s) (list_any (same_pattern q) set) (same_pattern q p)
  where
    by : (a b c : Bool) → (a || (b || c)) ≡ ((a || b) || c)
    by true b c = refl
    by false b c = refl

-- of the values none is in a set, and no two are the same
abbrev pub are_new : List PatternLiteral → List PatternLiteral → Bool
are_new set values = list_all (λ p. not (list_any (same_pattern p) set)) values && are_distinct_patterns values

others_new : (set : List PatternLiteral) (p : PatternLiteral) (values : List PatternLiteral)
    → list_all (λ q. not (list_any (same_pattern q) (set ++ p ∷ []))) values ≡ (list_all (λ q. not (list_any (same_pattern q) set)) values && not (list_any (same_pattern p) values))
others_new set p [] = refl
others_new set p (v ∷ values) =
    ap (λ b. not b && list_all (λ q. not (list_any (same_pattern q) (set ++ p ∷ []))) values) (any_more p v set)
    ∙ ap (λ rest. not (list_any (same_pattern v) set || same_pattern v p) && rest) (others_new set p values)
    ∙ parted (list_any (same_pattern v) set) (same_pattern v p) (list_all (λ q. not (list_any (same_pattern q) set)) values) (list_any (same_pattern p) values)
    ∙ ap (λ b. (not (list_any (same_pattern v) set) && list_all (λ q. not (list_any (same_pattern q) set)) values) && not (b || list_any (same_pattern p) values)) (patterns_swap v p)

one_new : (set : List PatternLiteral) (p : PatternLiteral) (values : List PatternLiteral) → list_any (same_pattern p) set ≡ false
    → are_new (set ++ p ∷ []) values ≡ are_new set (p ∷ values)
one_new set p values new =
    ap (λ b. b && are_distinct_patterns values) (others_new set p values)
    ∙ grouped (list_all (λ q. not (list_any (same_pattern q) set)) values) (not (list_any (same_pattern p) values)) (are_distinct_patterns values)
    ∙ ap (λ b. (not b && list_all (λ q. not (list_any (same_pattern q) set)) values) && (not (list_any (same_pattern p) values) && are_distinct_patterns values)) (sym new)

-- no value is in the empty set
pub none_new : (values : List PatternLiteral) → are_new [] values ≡ are_distinct_patterns values
none_new values = ap (λ b. b && are_distinct_patterns values) (all_new values)
  where
    all_new : (values : List PatternLiteral) → list_all (λ q. not (list_any (same_pattern q) [])) values ≡ true
    all_new [] = refl
    all_new (v ∷ values) = all_new values

pub not_new : (set : List PatternLiteral) (p : PatternLiteral) (values : List PatternLiteral) → list_any (same_pattern p) set ≡ true → are_new set (p ∷ values) ≡ false
not_new set p values is = rw is refl

-- one turn of a loop that puts values into a set: what is left begins with a new value
pub values_turn : (set added all left : List PatternLiteral) (p : PatternLiteral) (rest : List PatternLiteral) (is_new : Bool) → left ≡ p ∷ rest
    → is_new ≡ not (list_any (same_pattern p) set) → is_new ≡ true → (is_new ≡ true → added ≡ set ++ p ∷ [])
    → (are_new set left ≡ are_distinct_patterns all) × (set ++ left ≡ all) → (are_new added rest ≡ are_distinct_patterns all) × (added ++ rest ≡ all)
values_turn set added all left p rest is_new begins says is adds so_far = (
  ap (λ set. are_new set rest) (adds is) ∙ one_new set p rest (unset is_new (list_any (same_pattern p) set) says is) ∙ ap (are_new set) (sym begins) ∙ so_far.0,
  ap (λ set. set ++ rest) (adds is) ∙ append_assoc set (p ∷ []) rest ∙ ap (λ left. set ++ left) (sym begins) ∙ so_far.1,
)

pub value_stops : (set all left : List PatternLiteral) (p : PatternLiteral) (rest : List PatternLiteral) (is_new : Bool) → left ≡ p ∷ rest
    → is_new ≡ not (list_any (same_pattern p) set) → is_new ≡ false → (are_new set left ≡ are_distinct_patterns all) × (set ++ left ≡ all) → are_distinct_patterns all ≡ false
value_stops set all left p rest is_new begins says is so_far = sym so_far.0 ∙ ap (are_new set) begins ∙ not_new set p rest (by is_new (list_any (same_pattern p) set) says is)
  where
    by : (is_new is : Bool) → is_new ≡ not is → is_new ≡ false → is ≡ true
    by is_new true one other = refl
    by is_new false one other = sym other ∙ one

-- ---- `_`

pub last_turn : (p : ArmPattern) (rest : List ArmPattern) (n : ℕ) → n ≡ length rest → any_is_last (p ∷ rest) ≡ (not (is_any p && nat_lt 0 n) && any_is_last rest)
last_turn p [] n is = sym (ap (λ n. not (is_any p && nat_lt 0 n) && true) is ∙ by (is_any p))
  where
    by : (b : Bool) → (not (b && false) && true) ≡ true
    by true = refl
    by false = refl
last_turn p (q ∷ rest) n is =
    sym (ap (λ n. not (is_any p && nat_lt 0 n) && any_is_last (q ∷ rest)) is ∙ ap (λ b. not (is_any p && b) && any_is_last (q ∷ rest)) (above (length rest)) ∙ by (is_any p))
  where
    above : (n : ℕ) → nat_lt 0 (suc n) ≡ true
    above n = grind (arith, nat_tests)

    by : (b : Bool) → (not (b && true) && any_is_last (q ∷ rest)) ≡ (not b && any_is_last (q ∷ rest))
    by true = refl
    by false = refl
