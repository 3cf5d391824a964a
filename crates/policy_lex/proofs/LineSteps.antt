-- The lines of bytes, one after another.
use Rattle.std.proofs.Common.{◌≡◌, ℕ, ◌+◌, ◌<◌, ◌≤◌, Bool, true, false, cond, nat_lt, List, [], ◌∷◌, Some, None, length, length-drop, length-take, take, drop, refl, ap, ◌∙◌, arith}
use Rattle.std.specs.List.{position, position_or_len, slice_split}
use Rattle.std.specs.Str.Lines.{strip_carriage_return}
use Rattle.std.proofs.lemmas.List.Quantifiers.{position-Some}
use Rattle.std.proofs.lemmas.List.Splits.{slice_split_first, slice_split_none, length-slice_split}
use Rattle.std.proofs.lemmas.List.Sums.{position_or_len_is, fails_before_first}
use Rattle.std.proofs.lemmas.List.{drop-drop}
use Rattle.std.proofs.lemmas.Bool.Decides.{nat_tests}
use Rattle.std.proofs.Math.Seq.{drop-length}
use Rattle.std.proofs.Math.ListN.{drop_of_length-le}
use Rattle.policy_ast.specs.Lines.{is_line_feed, lines_from, lines_of_parts}
use Rattle.policy_lex.specs.working.LineViews.{lines_at}

-- a part with others behind it is a line without its carriage return
parts_more : (start : ℕ) (x : List ℕ) (parts : List (List ℕ)) → 0 < length parts →
    lines_of_parts start (x ∷ parts) ≡ record { text = strip_carriage_return x; start = start; next = start + length x + 1 } ∷ lines_of_parts (start + length x + 1) parts
unfolding lines_of_parts
parts_more start x [] none = absurd (omega (arith, none))
parts_more start x (y ∷ more) some = refl

-- a test that chose none was false
false_of_none : (b : Bool) (x : ℕ) → cond b (Some x) None ≡ None → b ≡ false
false_of_none true x is = absurd (cc)
false_of_none false x is = refl

-- where a line feed stands first at i, the first line stands before it and the others behind it
lines_first : (start : ℕ) (xs : List ℕ) (i : ℕ) → position is_line_feed xs ≡ Some i →
    lines_from start xs ≡ record { text = strip_carriage_return (take i xs); start = start; next = start + length (take i xs) + 1 } ∷ lines_from (start + length (take i xs) + 1) (drop (i + 1) xs)
lines_first start xs i at =
    let found = position-Some is_line_feed xs i 0 at in
    let place = position_or_len_is is_line_feed xs i 0 (omega (arith, found.0)) found.2 (λ _. found.1) in
    ap (lines_of_parts start) (slice_split_first is_line_feed xs 0 (rw place found.0))
    ∙ rw place (parts_more start (take i xs) (slice_split is_line_feed (drop (i + 1) xs)) (omega (arith, length-slice_split is_line_feed (drop (i + 1) xs))))

last_of : (start : ℕ) (xs : List ℕ) → 0 < length xs → lines_of_parts start (xs ∷ []) ≡ record { text = xs; start = start; next = start + length xs } ∷ []
unfolding lines_of_parts
last_of start [] some = absurd (omega (arith, some))
last_of start (x ∷ xs) some = grind (arith, nat_tests)

-- where no line feed stands, the bytes are the last line
lines_last : (start : ℕ) (xs : List ℕ) → 0 < length xs → position is_line_feed xs ≡ None → lines_from start xs ≡ record { text = xs; start = start; next = start + length xs } ∷ []
lines_last start xs some at =
    let past = false_of_none (nat_lt (position_or_len is_line_feed xs) (length xs)) (position_or_len is_line_feed xs) at in
    let le : length xs ≤ position_or_len is_line_feed xs = grind (arith, nat_tests, past) in
    ap (lines_of_parts start) (slice_split_none is_line_feed xs (λ k d lt. fails_before_first is_line_feed xs k d (omega (arith, lt, le)))) ∙ last_of start xs some

-- the line at a place, where a line feed ends it
pub line_ended : (document : List ℕ) (place end : ℕ) (text : List ℕ) → end < length (drop place document) → position is_line_feed (drop place document) ≡ Some end
    → text ≡ strip_carriage_return (take end (drop place document))
    → lines_at document place ≡ record { text = text; start = place; next = place + end + 1 } ∷ lines_at document (place + end + 1)
line_ended document place end text within at is =
    let size : length (take end (drop place document)) ≡ end = omega (arith, length-take {A = ℕ}) in
    let there : place + (end + 1) ≡ place + end + 1 = omega arith in
    lines_first place (drop place document) end at
    ∙ rw (is, size, drop-drop (end + 1) place document, there) refl

-- and where nothing does
pub line_left_open : (document : List ℕ) (place : ℕ) → place < length document → position is_line_feed (drop place document) ≡ None
    → lines_at document place ≡ record { text = drop place document; start = place; next = length document } ∷ lines_at document (length document)
unfolding lines_of_parts
line_left_open document place within at =
    let size : place + length (drop place document) ≡ length document = omega (arith, length-drop {A = ℕ}) in
    lines_last place (drop place document) (omega (arith, length-drop {A = ℕ})) at
    ∙ rw (size, drop-length document) refl

-- at the end there are none
pub no_lines : (document : List ℕ) (place : ℕ) → length document ≤ place → lines_at document place ≡ []
unfolding lines_of_parts
no_lines document place past = rw (drop_of_length-le document past) refl
