-- The lines of a text, one after another.
use Rattle.std.proofs.Common.{◌≡◌, ℕ, ◌+◌, ◌-◌, ◌<◌, ◌≤◌, ◌==◌, Bool, true, false, cond, nat_lt, if◌then◌else◌, List, [], ◌∷◌, Some, None, length, length-drop, take, drop, refl, ap, ◌∙◌, arith}
use Rattle.std.specs.List.{position, position_or_len, slice_split}
use Rattle.std.specs.Str.Lines.{lines, lines_of_parts, strip_carriage_return}
use Rattle.std.proofs.lemmas.List.Quantifiers.{position-Some}
use Rattle.std.proofs.lemmas.List.Splits.{slice_split_first, slice_split_none, length-slice_split}
use Rattle.std.proofs.lemmas.List.Sums.{position_or_len_is, fails_before_first}
use Rattle.std.proofs.lemmas.List.{take_all}
use Rattle.std.proofs.lemmas.Bool.Decides.{nat_tests}

-- a line feed
abbrev pub is_line_feed : ℕ → Bool
is_line_feed b = b == 10

-- a part with others behind it is a line without its carriage return
parts_more : (x : List ℕ) (parts : List (List ℕ)) → 0 < length parts → lines_of_parts (x ∷ parts) ≡ strip_carriage_return x ∷ lines_of_parts parts
parts_more x [] none = absurd (omega (arith, none))
parts_more x (y ∷ more) some = refl

-- a test that chose none was false
false_of_none : (b : Bool) (x : ℕ) → cond b (Some x) None ≡ None → b ≡ false
false_of_none true x is = absurd (cc)
false_of_none false x is = refl

-- where a line feed stands first at i, the first line stands before it and the others behind it
pub lines_first : (xs : List ℕ) (i : ℕ) → position is_line_feed xs ≡ Some i → lines xs ≡ strip_carriage_return (take i xs) ∷ lines (drop (i + 1) xs)
lines_first xs i at =
    let found = position-Some is_line_feed xs i 0 at in
    let place = position_or_len_is is_line_feed xs i 0 (omega (arith, found.0)) found.2 (λ _. found.1) in
    ap lines_of_parts (slice_split_first is_line_feed xs 0 (rw place found.0))
    ∙ rw place (parts_more (take i xs) (slice_split is_line_feed (drop (i + 1) xs)) (omega (arith, length-slice_split is_line_feed (drop (i + 1) xs))))

-- where no line feed stands, the text is the last line, or there is none
pub lines_last : (xs : List ℕ) → position is_line_feed xs ≡ None → lines xs ≡ (if length xs == 0 then [] else xs ∷ [])
lines_last xs at =
    let past = false_of_none (nat_lt (position_or_len is_line_feed xs) (length xs)) (position_or_len is_line_feed xs) at in
    let le : length xs ≤ position_or_len is_line_feed xs = grind (arith, nat_tests, past) in
    ap lines_of_parts (slice_split_none is_line_feed xs (λ k d lt. fails_before_first is_line_feed xs k d (omega (arith, lt, le))))

pub last_of : (xs : List ℕ) → 0 < length xs → (if length xs == 0 then [] else xs ∷ []) ≡ xs ∷ []
last_of [] some = absurd (omega (arith, some))
last_of (x ∷ xs) some = grind (arith, nat_tests)

-- a slice from a place on is all that stands behind it
pub drop_taken : (m n : ℕ) (xs : List ℕ) → m ≡ length xs - n → take m (drop n xs) ≡ drop n xs
drop_taken m n xs is = take_all m (drop n xs) (omega (arith, is, length-drop n xs))

-- what has no line feed is its own last line
pub last_alone : (xs : List ℕ) → position is_line_feed xs ≡ None → (length xs ≡ 0 → ⊥) → lines xs ≡ xs ∷ lines []
last_alone [] at some = absurd (some refl)
last_alone (x ∷ xs) at some = lines_last (x ∷ xs) at ∙ last_of (x ∷ xs) (omega arith)

pub none_left : (xs : List ℕ) → length xs ≡ 0 → lines xs ≡ []
none_left [] empty = refl
none_left (x ∷ xs) empty = absurd (omega (arith, empty))
