-- Fixed bytes and marks.
use Rattle.std.proofs.Common.{◌≡◌, ℕ, ◌≤◌, ◌+◌, ◌==◌, ◌&&◌, Bool, true, false, if◌then◌else◌, [], ◌∷◌, ◌++◌, length, drop, Some, None, refl, sym, ap, ◌∙◌, arith, length-append, true≢false}
use Rattle.std.specs.Prelude.{nat_eq}
use Rattle.std.specs.Cmp.{unsigned_Decides}
use Rattle.std.specs.List.{starts_with}
use Rattle.std.proofs.lemmas.List.Prefix.{front_rest}
use Rattle.std.proofs.lemmas.Slice.Eq.{starts_is}
use Rattle.script.specs.Pieces.{Bytes, Mark, begins_with}
use Rattle.script.specs.working.Readers.{after, mark_at, unspaced}
use Rattle.script.proofs.Options.{if_then}
use Rattle.script.proofs.RunLaws.{spaces_found, spaces_read, spaces_shorter}

-- bytes that begin with others are read so
pub after_reads : (front bytes rest : Bytes) → bytes ≡ front ++ rest → after front bytes ≡ Some rest
after_reads front bytes rest is =
    rw ((starts_is unsigned_Decides bytes front (starts_with nat_eq bytes front) refl).1 rest is, front_rest bytes front rest is) refl

-- and only they
pub after_finds : (front bytes rest : Bytes) → after front bytes ≡ Some rest → bytes ≡ front ++ rest
after_finds front bytes rest is = if_then (starts_with nat_eq bytes front) (drop (length front) bytes) rest is (λ begins same.
    (starts_is unsigned_Decides bytes front (starts_with nat_eq bytes front) refl).0 begins ∙ ap (λ r. front ++ r) same)

pub front_shorter : (front bytes rest : Bytes) → bytes ≡ front ++ rest → length rest ≤ length bytes
front_shorter front bytes rest is = let sum = ap length is in let parts = length-append front rest in omega (arith, sum, parts)

-- a mark with spaces before it
pub mark_reads : (mark bytes rest : Bytes) → Mark mark bytes rest → mark_at mark bytes ≡ Some rest
mark_reads mark bytes rest is = rw (spaces_read bytes is.inner is.spaces) (after_reads mark is.inner rest is.is)

pub mark_finds : (mark bytes rest : Bytes) → mark_at mark bytes ≡ Some rest → Mark mark bytes rest
mark_finds mark bytes rest is = record { inner = unspaced bytes; spaces = spaces_found bytes; is = after_finds mark (unspaced bytes) rest is }

pub mark_shorter : (mark bytes rest : Bytes) → Mark mark bytes rest → length rest + length mark ≤ length bytes
mark_shorter mark bytes rest is =
    let spaces = spaces_shorter bytes is.inner is.spaces in
    let sum = ap length is.is in
    let parts = length-append mark rest in
    omega (arith, spaces, sum, parts)

first_differs : (same : Bool) (p : ℕ → Bool) (c b : ℕ) (more bytes : Bytes) → (c == b) ≡ same → p b ≡ true → p c ≡ false → after (c ∷ more) (b ∷ bytes) ≡ None
first_differs true p c b more bytes is first fails = absurd (true≢false (sym first ∙ ap p (sym ((unsigned_Decides c b).0 is)) ∙ fails))
first_differs false p c b more bytes is first fails = rw is refl

-- bytes whose first byte passes a test don't begin with a byte that fails it
pub other_first : (p : ℕ → Bool) (c : ℕ) (more bytes : Bytes) → begins_with p bytes ≡ true → p c ≡ false → after (c ∷ more) bytes ≡ None
other_first p c more [] first fails = refl
other_first p c more (b ∷ bytes) first fails = first_differs (c == b) p c b more bytes refl first fails

and_none : {A : Type 0} (a b : Bool) (x : A) → b ≡ false → (if a && b then Some x else None) ≡ None
and_none true b x is = rw is refl
and_none false b x is = refl

second_fails : (same : Bool) (p : ℕ → Bool) (c b : ℕ) (bytes : Bytes) → (c == b) ≡ same → p b ≡ true → p c ≡ false → starts_with nat_eq (b ∷ bytes) (c ∷ []) ≡ false
second_fails true p c b bytes is first fails = absurd (true≢false (sym first ∙ ap p (sym ((unsigned_Decides c b).0 is)) ∙ fails))
second_fails false p c b bytes is first fails = rw is refl

-- nor, behind their first byte, with another that fails it
pub other_second : (p : ℕ → Bool) (c d first : ℕ) (bytes : Bytes) → begins_with p bytes ≡ true → p d ≡ false → after (c ∷ d ∷ []) (first ∷ bytes) ≡ None
other_second p c d first [] begins fails = absurd (true≢false (sym begins))
other_second p c d first (b ∷ bytes) begins fails = and_none (c == first) (starts_with nat_eq (b ∷ bytes) (d ∷ [])) bytes (second_fails (d == b) p d b bytes refl begins fails)

-- a test that a weaker one follows from
pub begins_more : (p q : ℕ → Bool) → ((c : ℕ) → p c ≡ true → q c ≡ true) → (bytes : Bytes) → begins_with p bytes ≡ true → begins_with q bytes ≡ true
begins_more p q follows [] begins = absurd (true≢false (sym begins))
begins_more p q follows (b ∷ bytes) begins = follows b begins
