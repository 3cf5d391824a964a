-- What stands behind an argument: spaces, and then a comma or a mark that closes a list.
use Rattle.std.proofs.Common.{◌≡◌, ℕ, ◌==◌, ◌||◌, Bool, true, false, [], ◌∷◌, ◌++◌, codes, None, refl, sym, ap, ◌∙◌, true≢false}
use Rattle.std.specs.Char.{is_ascii_digit}
use Rattle.std.specs.List.{list_all}
use Rattle.std.specs.Str.{byte}
use Rattle.std.proofs.lemmas.Bool.{and_parts}
use Rattle.std.proofs.lemmas.List.Sums.{take_while-cons}
use Rattle.script.specs.Pieces.{Bytes, Mark, Run, begins_with, is_space}
use Rattle.script.specs.working.Readers.{after, mark_at, unspaced}
use Rattle.script.proofs.MarkLaws.{other_first, other_second}
use Rattle.script.proofs.RunLaws.{spaces_read}

abbrev pub is_end : ℕ → Bool
is_end c = c == byte "," || (c == byte ")" || c == byte "}")

-- behind spaces there is a comma or a mark that closes a list
abbrev pub Ends : Bytes → Type 0
Ends rest = begins_with is_end (unspaced rest) ≡ true

pub ends_at_mark : (c : ℕ) (bytes rest : Bytes) → is_end c ≡ true → Mark (c ∷ []) bytes rest → Ends bytes
ends_at_mark c bytes rest end is = rw (spaces_read bytes is.inner is.spaces, is.is) end

-- so the next byte is one of these
abbrev pub is_space_or : (ℕ → Bool) → ℕ → Bool
is_space_or p c = is_space c || p c

first_is : (b : Bool) (p : ℕ → Bool) (c : ℕ) (cs : Bytes) → is_space c ≡ b → begins_with p (unspaced (c ∷ cs)) ≡ true → is_space_or p c ≡ true
unfolding unspaced
first_is true p c cs is begins = rw is refl
first_is false p c cs is begins = rw is (rw (take_while-cons is_space c cs, is) at begins)

pub next_is : (p : ℕ → Bool) (rest : Bytes) → begins_with p (unspaced rest) ≡ true → begins_with (is_space_or p) rest ≡ true
unfolding unspaced
next_is p [] begins = absurd (true≢false (sym begins))
next_is p (c ∷ cs) begins = first_is (is_space c) p c cs refl begins

-- digits before an end don't begin with `0x`
digits_no_hex : (run rest : Bytes) → list_all is_ascii_digit run ≡ true → begins_with (is_space_or is_end) rest ≡ true → after (codes "0x") (run ++ rest) ≡ None
digits_no_hex [] rest each ends = other_first (is_space_or is_end) 48 (120 ∷ []) rest ends refl
digits_no_hex (d ∷ []) rest each ends = other_second (is_space_or is_end) 48 120 d rest ends refl
digits_no_hex (d ∷ e ∷ run) rest each ends =
    let parts = and_parts (is_ascii_digit d) (list_all is_ascii_digit (e ∷ run)) each in
    other_second is_ascii_digit 48 120 d (e ∷ run ++ rest) (and_parts (is_ascii_digit e) (list_all is_ascii_digit run) parts.1).0 refl

pub number_no_hex : (bytes rest run : Bytes) → Run is_ascii_digit bytes rest run → Ends rest → after (codes "0x") bytes ≡ None
number_no_hex bytes rest run is ends = ap (after (codes "0x")) is.whole ∙ digits_no_hex run rest is.each (next_is is_end rest ends)

-- no path goes on before a mark, and none before an end
pub no_path_before_mark : (c : ℕ) (bytes rest : Bytes) → is_space_or (λ d. d == c) 58 ≡ false → (c == c) ≡ true → Mark (c ∷ []) bytes rest → after (codes "::") bytes ≡ None
no_path_before_mark c bytes rest differs same is =
    other_first (is_space_or (λ d. d == c)) 58 (58 ∷ []) bytes (next_is (λ d. d == c) bytes (rw (spaces_read bytes is.inner is.spaces, is.is) same)) differs

pub no_path_before_end : (rest : Bytes) → Ends rest → after (codes "::") rest ≡ None
no_path_before_end rest ends = other_first (is_space_or is_end) 58 (58 ∷ []) rest (next_is is_end rest ends) refl

pub no_colon_before_end : (rest : Bytes) → Ends rest → after (codes ":") rest ≡ None
no_colon_before_end rest ends = other_first (is_space_or is_end) 58 [] rest (next_is is_end rest ends) refl

pub no_mark_before_end : (c : ℕ) (rest : Bytes) → is_end c ≡ false → Ends rest → mark_at (c ∷ []) rest ≡ None
no_mark_before_end c rest differs ends = other_first is_end c [] (unspaced rest) ends differs

pub one_mark : (c d : ℕ) (bytes rest : Bytes) → after (d ∷ []) (c ∷ rest) ≡ None → Mark (c ∷ []) bytes rest → mark_at (d ∷ []) bytes ≡ None
one_mark c d bytes rest differs is = rw (spaces_read bytes is.inner is.spaces, is.is) differs
