-- A text between quotation marks is UTF-8 where it stands in UTF-8: the bytes that stand for themselves are cut out at ASCII,
-- and escapes stand for ASCII.
use Rattle.std.proofs.Common.{◌≡◌, ℕ, suc, ◌<◌, ◌+◌, ◌==◌, Bool, true, false, if◌then◌else◌, [], ◌∷◌, ◌++◌, length, take, drop, get_or, Some, None, refl, sym, ap, subst, arith, append_assoc, append-nil}
use Rattle.std.specs.Str.{IsUtf8, byte}
use Rattle.std.proofs.lemmas.Bool.Decides.{nat_tests}
use Rattle.std.proofs.lemmas.Str.{IsCharBoundary-after_ascii, IsCharBoundary-before_ascii, IsUtf8-append, IsUtf8-drop, IsUtf8-from_ascii, IsUtf8-from_is_utf8, IsUtf8-take, is_utf8-from_IsUtf8}
use Rattle.std.proofs.lemmas.Str.Ascii.{IsAscii-cons, IsAscii-nil}
use Rattle.script.specs.Laws.{KeepsUtf8}
use Rattle.script.specs.Pieces.{Bytes}
use Rattle.script.specs.Tokens.{Quoted, escaped}
use Rattle.script.proofs.Options.{none_some, same_some}

at_front : (front : Bytes) (c : ℕ) (rest : Bytes) → get_or (front ++ c ∷ rest) (length front) 0 ≡ c
at_front [] c rest = refl
at_front (b ∷ front) c rest = at_front front c rest

front_of : (front : Bytes) (rest : Bytes) → take (length front) (front ++ rest) ≡ front
front_of [] rest = refl
front_of (b ∷ front) rest = ap (λ bs. b ∷ bs) (front_of front rest)

front_shorter : (front : Bytes) (c : ℕ) (rest : Bytes) → length front < length (front ++ c ∷ rest)
front_shorter [] c rest = omega arith
front_shorter (b ∷ front) c rest = let more = front_shorter front c rest in omega (arith, more)

-- UTF-8 may be cut before ASCII, and behind it
pub utf8_before : (front : Bytes) (c : ℕ) (rest : Bytes) → c < 128 → IsUtf8 (front ++ c ∷ rest) → IsUtf8 front
utf8_before front c rest ascii utf8 =
    subst IsUtf8 (front_of front (c ∷ rest)) (IsUtf8-take (front ++ c ∷ rest) (length front) utf8
    (IsCharBoundary-before_ascii (front ++ c ∷ rest) (length front) (front_shorter front c rest) (subst (λ (b : ℕ). b < 128) (sym (at_front front c rest)) ascii)))

one_behind : (front : Bytes) (c : ℕ) (rest : Bytes) → drop (length front + 1) (front ++ c ∷ rest) ≡ rest
one_behind [] c rest = refl
one_behind (b ∷ front) c rest = let e : suc (length front) + 1 ≡ suc (length front + 1) = omega arith in rw e (one_behind front c rest)

pub utf8_behind : (front : Bytes) (c : ℕ) (rest : Bytes) → c < 128 → IsUtf8 (front ++ c ∷ rest) → IsUtf8 rest
utf8_behind front c rest ascii utf8 =
    subst IsUtf8 (one_behind front c rest) (IsUtf8-drop (front ++ c ∷ rest) (length front + 1) utf8
    (IsCharBoundary-after_ascii (front ++ c ∷ rest) (length front) utf8 (front_shorter front c rest) (subst (λ (b : ℕ). b < 128) (sym (at_front front c rest)) ascii)))

one_utf8 : (c : ℕ) → c < 128 → IsUtf8 (c ∷ [])
one_utf8 c ascii = IsUtf8-from_ascii (c ∷ []) (IsAscii-cons c [] ascii IsAscii-nil)

-- an escape is ASCII, and so is what it stands for
escape_is_ascii : (slash quote newline : Bool) (c m : ℕ) → (c == byte "\\") ≡ slash → (c == byte "\"") ≡ quote → (c == byte "n") ≡ newline
    → (if slash then Some c else if quote then Some c else if newline then Some 10 else None) ≡ Some m → (c < 128) × (m < 128)
escape_is_ascii true quote newline c m s q n is = let low : c < 128 = grind (arith, nat_tests, s) in (low, subst (λ (k : ℕ). k < 128) (same_some c m is) low)
escape_is_ascii false true newline c m s q n is = let low : c < 128 = grind (arith, nat_tests, q) in (low, subst (λ (k : ℕ). k < 128) (same_some c m is) low)
escape_is_ascii false false true c m s q n is =
    let low : c < 128 = grind (arith, nat_tests, n) in let same : 10 ≡ m = same_some 10 m is in (low, omega (arith, same))
escape_is_ascii false false false c m s q n is = none_some is

escaped_ascii : (c m : ℕ) → escaped c ≡ Some m → (c < 128) × (m < 128)
escaped_ascii c m is = escape_is_ascii (c == byte "\\") (c == byte "\"") (c == byte "n") c m refl refl refl is

-- the text behind a run of bytes that stand for themselves
text_utf8 : (bytes rest text : Bytes) → Quoted bytes rest text → (run : Bytes) → IsUtf8 (run ++ bytes) → IsUtf8 (run ++ text)
text_utf8 bytes rest text (Quoted.closed) run utf8 = subst IsUtf8 (sym (append-nil run)) (utf8_before run 34 rest (omega arith) utf8)
text_utf8 bytes rest text (Quoted.plain {bytes = behind} {text = more} {c = c} quote slash is) run utf8 =
    subst IsUtf8 (append_assoc run (c ∷ []) more) (text_utf8 behind rest more is (run ++ c ∷ []) (subst IsUtf8 (sym (append_assoc run (c ∷ []) behind)) utf8))
text_utf8 bytes rest text (Quoted.escape {bytes = behind} {text = more} {c = c} {meant = m} means is) run utf8 =
    let ascii = escaped_ascii c m means in
    let next = utf8_behind [] c behind ascii.0 (utf8_behind run 92 (c ∷ behind) (omega arith) utf8) in
    IsUtf8-append run (m ∷ more) (utf8_before run 92 (c ∷ behind) (omega arith) utf8) (IsUtf8-append (m ∷ []) more (one_utf8 m ascii.1) (text_utf8 behind rest more is [] next))

pub keeps_utf8 : KeepsUtf8
keeps_utf8 front mid rest text utf8 is =
    is_utf8-from_IsUtf8 text (text_utf8 mid rest text is [] (utf8_behind front 34 mid (omega arith) (IsUtf8-from_is_utf8 (front ++ 34 ∷ mid) utf8)))
