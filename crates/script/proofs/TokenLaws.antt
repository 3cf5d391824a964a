-- Words, numbers, texts and parts: what is written is read, and only that.
use Rattle.std.proofs.Common.{◌≡◌, ℕ, ℤ, ◌≤◌, ◌==◌, true, false, [], ◌∷◌, length, codes, Option, Some, refl, sym, subst, arith}
use Rattle.std.specs.Char.{is_ascii_digit}
use Rattle.std.specs.Str.{byte}
use Rattle.std.specs.Cmp.{unsigned_Decides}
use Rattle.script.specs.Pieces.{Between, Behind, Bytes, Says}
use Rattle.script.specs.Tokens.{Number, Part, Quoted, escaped, int_of, is_part_byte}
use Rattle.script.specs.working.Readers.{Reader, after, run_at, unspaced}
use Rattle.script.specs.working.ReadingTokens.{number_at, onto, part_at, text_from}
use Rattle.script.proofs.Options.{bind_then, chosen_then, either_then, map_then, none_some, same_some}
use Rattle.script.proofs.MarkLaws.{after_finds, after_reads, front_shorter, other_first}
use Rattle.script.proofs.RunLaws.{says_begins, says_finds, says_reads, says_shorter, spaces_found, spaces_read}

-- something behind spaces
pub behind_reads : {A : Type 0} (X : Between A) (read : Reader A) (bytes rest : Bytes) (a : A)
    → ((bytes : Bytes) → X bytes rest a → read bytes ≡ Some (a, rest)) → Behind X bytes rest a → read (unspaced bytes) ≡ Some (a, rest)
behind_reads X read bytes rest a reads is = rw (spaces_read bytes is.inner is.spaces) (reads is.inner is.is)

pub behind_finds : {A : Type 0} (X : Between A) (bytes rest : Bytes) (a : A) → X (unspaced bytes) rest a → Behind X bytes rest a
behind_finds X bytes rest a is = record { inner = unspaced bytes; spaces = spaces_found bytes; is = is }

-- a part of a line
pub part_reads : {A : Type 0} (says : Bytes → Option A) (bytes rest : Bytes) (a : A) → Part says bytes rest a → part_at says bytes ≡ Some (a, rest)
part_reads says bytes rest a is =
    behind_reads (Says is_part_byte says) (run_at is_part_byte says) bytes rest a (λ bytes is. says_reads is_part_byte says bytes rest a is) is

pub part_finds : {A : Type 0} (says : Bytes → Option A) (bytes : Bytes) (found : A × Bytes) → part_at says bytes ≡ Some found → Part says bytes found.1 found.0
part_finds says bytes found is = behind_finds (Says is_part_byte says) bytes found.1 found.0 (says_finds is_part_byte says (unspaced bytes) found is)

-- a number
pub number_reads : (bytes rest : Bytes) (n : ℤ) → Number bytes rest n → number_at bytes ≡ Some (n, rest)
number_reads bytes rest n (Number.plain is) =
    rw (other_first is_ascii_digit 45 [] bytes (says_begins is_ascii_digit (int_of false) bytes rest n refl is) refl) (says_reads is_ascii_digit (int_of false) bytes rest n is)
number_reads bytes rest n (Number.negative {digits = digits} begins is) =
    rw (after_reads (codes "-") bytes digits begins) (says_reads is_ascii_digit (int_of true) digits rest n is)

pub number_finds : (bytes : Bytes) (found : ℤ × Bytes) → number_at bytes ≡ Some found → Number bytes found.1 found.0
number_finds bytes found is = chosen_then (after (codes "-") bytes) (run_at is_ascii_digit (int_of false) bytes) (run_at is_ascii_digit (int_of true)) (Some found) is
    (λ none e. Number.plain (says_finds is_ascii_digit (int_of false) bytes found e))
    (λ digits begins e. Number.negative (after_finds (codes "-") bytes digits begins) (says_finds is_ascii_digit (int_of true) digits found e))

pub number_shorter : (bytes rest : Bytes) (n : ℤ) → Number bytes rest n → length rest ≤ length bytes
number_shorter bytes rest n (Number.plain is) = says_shorter is_ascii_digit (int_of false) bytes rest n is
number_shorter bytes rest n (Number.negative {digits = digits} begins is) =
    let front = front_shorter (codes "-") bytes digits begins in let behind = says_shorter is_ascii_digit (int_of true) digits rest n is in omega (arith, front, behind)

-- a text
pub quoted_reads : (bytes rest text : Bytes) → Quoted bytes rest text → text_from false bytes ≡ Some (text, rest)
unfolding text_from
quoted_reads bytes rest text (Quoted.closed) = refl
quoted_reads bytes rest text (Quoted.plain {bytes = behind} {text = more} quote slash is) = rw (quote, slash, quoted_reads behind rest more is) refl
quoted_reads bytes rest text (Quoted.escape {bytes = behind} {text = more} means is) = rw (means, quoted_reads behind rest more is) refl

quoted_step : (c : ℕ) (cs : Bytes) (found : Bytes × Bytes) → text_from false (c ∷ cs) ≡ Some found → ((f : Bytes × Bytes) → text_from false cs ≡ Some f → Quoted cs f.1 f.0)
    → (text_from true cs ≡ Some found → Quoted (byte "\\" ∷ cs) found.1 found.0) → Quoted (c ∷ cs) found.1 found.0
unfolding text_from
quoted_step c cs found is plain escape = either_then (c == byte "\"") (Some ([], cs)) _ (Some found) is
    (λ quote e. subst (λ (f : Bytes × Bytes). Quoted (c ∷ cs) f.1 f.0) (same_some ([], cs) found e) (subst (λ (q : ℕ). Quoted (q ∷ cs) cs []) (sym ((unsigned_Decides c (byte "\"")).0 quote)) Quoted.closed))
    (λ quote e. either_then (c == byte "\\") (text_from true cs) (onto c (text_from false cs)) (Some found) e
    (λ slash e. subst (λ (s : ℕ). Quoted (s ∷ cs) found.1 found.0) (sym ((unsigned_Decides c (byte "\\")).0 slash)) (escape e))
    (λ slash e. map_then (text_from false cs) (λ text. (c ∷ text.0, text.1)) found e (λ more reads same.
    subst (λ (f : Bytes × Bytes). Quoted (c ∷ cs) f.1 f.0) same (Quoted.plain quote slash (plain more reads)))))

pub quoted_finds : (bytes : Bytes) (found : Bytes × Bytes) → text_from false bytes ≡ Some found → Quoted bytes found.1 found.0
unfolding text_from
quoted_finds [] found is = none_some is
quoted_finds (c ∷ []) found is = quoted_step c [] found is (λ f e. none_some e) (λ e. none_some e)
quoted_finds (c ∷ d ∷ rest) found is = quoted_step c (d ∷ rest) found is (λ f e. quoted_finds (d ∷ rest) f e)
    (λ e. bind_then (escaped d) (λ meant. onto meant (text_from false rest)) found e (λ meant means e.
    map_then (text_from false rest) (λ text. (meant ∷ text.0, text.1)) found e (λ more reads same.
    subst (λ (f : Bytes × Bytes). Quoted (byte "\\" ∷ d ∷ rest) f.1 f.0) same (Quoted.escape means (quoted_finds rest more reads)))))

pub quoted_shorter : (bytes rest text : Bytes) → Quoted bytes rest text → length rest ≤ length bytes
quoted_shorter bytes rest text (Quoted.closed) = omega arith
quoted_shorter bytes rest text (Quoted.plain {bytes = behind} {text = more} quote slash is) = let q = quoted_shorter behind rest more is in omega (arith, q)
quoted_shorter bytes rest text (Quoted.escape {bytes = behind} {text = more} means is) = let q = quoted_shorter behind rest more is in omega (arith, q)
