-- Numbers, digit by digit.
use Rattle.std.proofs.Common.{◌≡◌, ℕ, ◌+◌, ◌*◌, ◌^◌, ◌<◌, ◌≤◌, true, List, [], ◌∷◌, length, drop, get_or, refl, arith, None}
use Rattle.std.specs.Char.{digit_value, is_ascii_digit}
use Rattle.std.specs.List.{list_all, take_while}
use Rattle.std.specs.Str.Parse.{digits_value_after}
use Rattle.std.proofs.lemmas.Bool.{lt-leb}
use Rattle.script.proofs.Drops.{dropped}
use Rattle.script.proofs.RunLaws.{is_run}
use Rattle.script.specs.working.Numbers.{size_up_to}

-- digits behind a number make none that is smaller
digits_grow : (n : ℕ) (digits : List ℕ) → n ≤ digits_value_after 10 n digits
digits_grow n [] = omega arith
digits_grow n (c ∷ digits) = let more = digits_grow (n * 10 + digit_value c) digits in omega (arith, more)

-- one digit more
pub digits_more : (digits : List ℕ) (i size : ℕ) → i < length digits
    → digits_value_after 10 (size * 10 + digit_value (get_or digits i 0)) (drop (i + 1) digits) ≡ digits_value_after 10 size (drop i digits)
digits_more digits i size within = rw (dropped digits i within) refl

-- a number that is too large with its next digit is too large as a whole
pub digits_too_large : (digits : List ℕ) (i size value : ℕ) → i < length digits → digits_value_after 10 size (drop i digits) ≡ value → 2 ^ 63 < size * 10
    → size_up_to (2 ^ 63) value ≡ None
digits_too_large digits i size value within is large =
    let same = digits_more digits i size within in
    let grown = digits_grow (size * 10 + digit_value (get_or digits i 0)) (drop (i + 1) digits) in
    rw (lt-leb value (2 ^ 63) (omega (arith, same, grown, is, large))) refl

-- a run of digits has digits alone
pub run_of_digits : (bytes : List ℕ) → list_all is_ascii_digit (take_while is_ascii_digit bytes) ≡ true
run_of_digits bytes = (is_run is_ascii_digit bytes).each
