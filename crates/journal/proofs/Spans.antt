-- Pieces of a disk, one behind the other.
use Rattle.std.proofs.Common.{◌≡◌, ◌∙◌, ap, sym, refl, arith, ⊎_elim, ◌==◌, ℕ, ◌+◌, ◌-◌, ◌<◌, ◌≤◌, ltb, true, false, List, [], ◌++◌, length, take, drop, Some, None, length-take, length-drop}
use Rattle.std.proofs.lemmas.Bool.{cases_lt, le-ltb, lt-ltb, ne_eqb}
use Rattle.std.proofs.lemmas.List.{append-nil, drop-drop, drop-take, drop_all, take-take}
use Rattle.outside.specs.Disk.{ReadsAt}
use Rattle.std.specs.Int.{w32}
use Rattle.base_bytes.specs.Reading.{bytes_at, counted_at, number_at}
use Rattle.journal.specs.working.Reading.{leaving}

-- the part of a list between two places
abbrev between : List ℕ → ℕ → ℕ → List ℕ
between reads place end = take (end - place) (drop place reads)

pub length_between : (reads : List ℕ) (place end : ℕ) → place ≤ end → end ≤ length reads → length (between reads place end) ≡ end - place
length_between reads place end ordered within = omega (arith, length-take (end - place) (drop place reads), length-drop place reads)

-- its front, and what is behind that
front_between : (reads : List ℕ) (place end count : ℕ) → place + count ≤ end → take count (between reads place end) ≡ take count (drop place reads)
front_between reads place end count within = take-take count (end - place) (drop place reads) (omega (arith, within))

behind_between : (reads : List ℕ) (place end count : ℕ) → place + count ≤ end → drop count (between reads place end) ≡ between reads (place + count) end
behind_between reads place end count within =
    let whole : end - place ≡ count + (end - (place + count)) = omega (arith, within) in
    ap (λ n. drop count (take n (drop place reads))) whole
    ∙ drop-take count (end - (place + count)) (drop place reads)
    ∙ ap (λ rest. take (end - (place + count)) rest) (drop-drop count place reads)

-- a piece that was read
pub piece_found : (reads old new : List ℕ) (place end count filled : ℕ) → end ≤ length reads → count ≡ length old → place + count ≤ end → ReadsAt reads place filled old new →
    bytes_at count (between reads place end) ≡ Some (new, between reads (place + count) end)
piece_found reads old new place end count filled within size fits is =
    let enough : ltb (length (between reads place end)) count ≡ false = le-ltb _ _ (omega (arith, length_between reads place end (omega (arith, fits)) within, fits)) in
    let all : filled ≡ count = omega (arith, is.count, size, fits, within) in
    let bytes : take count (between reads place end) ≡ new =
    front_between reads place end count fits ∙ sym (append-nil (take count (drop place reads)))
    ∙ ap (λ rest. take count (drop place reads) ++ rest) (sym (drop_all count old (omega (arith, size))))
    ∙ ap (λ n. take n (drop place reads) ++ drop n old) (sym all) ∙ sym is.bytes in
    rw (enough, bytes, behind_between reads place end count fits) refl

-- a piece that isn't there
pub piece_short : (reads : List ℕ) (place end count : ℕ) → place ≤ end → end ≤ length reads → end - place < count → bytes_at count (between reads place end) ≡ None
piece_short reads place end count ordered within short =
    let few : ltb (length (between reads place end)) count ≡ true = lt-ltb _ _ (omega (arith, length_between reads place end ordered within, short)) in
    rw few refl

-- ---- a body between its length and the next gate

pub left_behind : (reads : List ℕ) (place end : ℕ) → end ≤ place → between reads place end ≡ []
left_behind reads place end past = let none : end - place ≡ 0 = omega arith in ap (λ n. take n (drop place reads)) none

pub left_more : (reads rest : List ℕ) (place end : ℕ) → place < end → end ≤ length reads → between reads place end ≡ rest → rest ≡ [] → ⊥
left_more reads rest place end more within same none = omega (arith, length_between reads place end (omega arith) within, ap length (same ∙ none))

body_found : (reads : List ℕ) (place end size : ℕ) → end ≤ length reads → place + size ≤ end → bytes_at size (between reads place end) ≡ Some (between reads place (place + size), between reads (place + size) end)
body_found reads place end size within fits =
    let enough : ltb (length (between reads place end)) size ≡ false = le-ltb _ _ (omega (arith, length_between reads place end (omega (arith, fits)) within, fits)) in
    let count : place + size - place ≡ size = omega arith in
    let front : take size (between reads place end) ≡ between reads place (place + size) = front_between reads place end size fits ∙ ap (λ n. take n (drop place reads)) (sym count) in
    rw (enough, front, behind_between reads place end size fits) refl

pub body_opened : (reads bytes : List ℕ) (place end size : ℕ) → number_at w32 bytes ≡ Some (size, between reads place end) → end ≤ length reads → place + size < end →
    leaving (counted_at w32) bytes ≡ Some (between reads place (place + size), between reads (place + size) end)
body_opened reads bytes place end size number within fits =
    let some : (length (between reads (place + size) end) == 0) ≡ false = ne_eqb _ _ (λ none. omega (arith, none, length_between reads (place + size) end (omega (arith, fits)) within, fits)) in
    rw (number, body_found reads place end size within (omega (arith, fits)), some) refl

pub body_short : (reads bytes : List ℕ) (place end size : ℕ) → number_at w32 bytes ≡ Some (size, between reads place end) → place ≤ end → end ≤ length reads → end - place ≤ size →
    leaving (counted_at w32) bytes ≡ None
body_short reads bytes place end size number ordered within short = ⊎_elim
    (λ lt. rw (number, piece_short reads place end size ordered within lt) refl)
    (λ le.
    let whole : place + size ≡ end = omega (arith, le, short, ordered) in
    let none : between reads (place + size) end ≡ [] = left_behind reads (place + size) end (omega (arith, whole)) in
    rw (number, body_found reads place end size within (omega (arith, whole)), none) refl)
    (cases_lt (end - place) size)
