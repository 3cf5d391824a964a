-- Numbers: what fits 64 bits, and what counts of rows answer where counting stops early.
use Rattle.std.proofs.Common.{◌≡◌, ℕ, ℤ, pos, negsuc, ◌+◌, ◌<◌, ◌^◌, Bool, true, false, ◌==◌, min, nat_le, List, [], ◌∷◌, length, slice_get, Option, Some, None, option_map, Result, Ok, Err, IfOk, refl, sym, ap, subst, ◌∙◌, arith}
use Rattle.std.specs.Int.{w64}
use Rattle.std.specs.Int.RustNames.{FitsSigned}
use Rattle.std.specs.Option.{SomeIff, is_some}
use Rattle.std.proofs.lemmas.Bool.{eqb-true, eq-eqb, leb-true, le-leb, ltb-true, lt-ltb}
use Rattle.std.proofs.lemmas.Int.{ints}
use Rattle.base_bytes.specs.Values.{fits_int}
use Rattle.base_bytes.specs.declared.value.Value.{Value}
use Rattle.base_bytes.specs.declared.value.Value.TheVariants as value
use Rattle.policy_meaning.specs.Values.{in_range, optional_of}

signed : (z : ℤ) → fits_int z ≡ true → FitsSigned w64 z
signed (pos n) is = let lt : n < 2 ^ 63 = ltb-true _ _ is in omega (arith, ints)
signed (negsuc n) is = let lt : n < 2 ^ 63 = ltb-true _ _ is in omega (arith, ints)

-- a number of 64 bits fits
pub fits_signed : (z : ℤ) → FitsSigned w64 z → fits_int z ≡ true
fits_signed (pos n) fits = let lt : n < 2 ^ 63 = omega (arith, ints) in lt-ltb _ _ lt
fits_signed (negsuc n) fits = let lt : n < 2 ^ 63 = omega (arith, ints) in lt-ltb _ _ lt

-- another doesn't
pub fits_not : (z : ℤ) → (FitsSigned w64 z → ⊥) → fits_int z ≡ false
fits_not z isnt = by (fits_int z) refl
  where
    by : (b : Bool) → fits_int z ≡ b → b ≡ false
    by true is = absurd (isnt (signed z is))
    by false is = refl

same_tests : (a b : Bool) → (a ≡ true → b ≡ true) → (b ≡ true → a ≡ true) → a ≡ b
same_tests true b to from = sym (to refl)
same_tests false true to from = from refl
same_tests false false to from = refl

-- counting one further than a limit tells whether there are more, and whether there are as many
pub at_most : (limit rows : ℕ) → nat_le (min (limit + 1) rows) limit ≡ nat_le rows limit
at_most limit rows =
    same_tests _ _ (λ is. le-leb rows limit (let le = leb-true (min (limit + 1) rows) limit is in omega arith))
    (λ is. le-leb (min (limit + 1) rows) limit (let le = leb-true rows limit is in omega arith))

pub exactly : (limit rows : ℕ) → (min (limit + 1) rows == limit) ≡ (rows == limit)
exactly limit rows =
    same_tests _ _ (λ is. eq-eqb rows limit (let eq = eqb-true (min (limit + 1) rows) limit is in omega arith))
    (λ is. eq-eqb (min (limit + 1) rows) limit (let eq = eqb-true rows limit is in omega arith))

pub at_least : (limit rows : ℕ) → nat_le limit (min limit rows) ≡ nat_le limit rows
at_least limit rows =
    same_tests _ _ (λ is. le-leb limit rows (let le = leb-true limit (min limit rows) is in omega arith))
    (λ is. le-leb limit (min limit rows) (let le = leb-true limit rows is in omega arith))

pub up_to : (limit rows : ℕ) → min limit (min limit rows) ≡ min limit rows
up_to limit rows = omega arith

-- one row is counted exactly where there is a first
pub one_counted : {A : Type 0} (rows : List A) → (min 1 (length rows) == 1) ≡ is_some (slice_get rows 0)
one_counted [] = refl
one_counted (row ∷ rows) = eq-eqb _ _ (omega arith)

-- a checked result is there exactly where it is in range
pub in_range_by : {E : Type 0} (r : Result Value E) (o : Option ℤ) (z : ℤ) {seen : ℤ} → seen ≡ z → IfOk r (λ v. v ≡ optional_of (option_map value.Int o)) → SomeIff o (FitsSigned w64 seen) seen → IfOk r (λ v. v ≡ in_range z)
in_range_by (Err e) o z same is there = tt
in_range_by (Ok v) None z same is there = is ∙ sym (rw (fits_not z (λ fits. there (subst (FitsSigned w64) (sym same) fits))) refl)
in_range_by (Ok v) (Some x) z same is there = is ∙ ap (λ n. value.Some (value.Int n)) (there.1 ∙ same) ∙ sym (rw (fits_signed z (subst (FitsSigned w64) same there.0)) refl)
