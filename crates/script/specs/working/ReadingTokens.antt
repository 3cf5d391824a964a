-- How tokens are read.
use Rattle.std.specs.Prelude.{ℕ, ℤ, Bool, true, false, ◌==◌, if◌then◌else◌, [], ◌∷◌, codes, Option, Some, None, option_map, option_and_then}
use Rattle.std.specs.Char.{is_ascii_digit}
use Rattle.std.specs.Str.{byte, is_utf8}
use Rattle.base_bytes.specs.Words.{is_word, is_word_byte}
use Rattle.script.specs.Pieces.{Bytes}
use Rattle.script.specs.Tokens.{escaped, int_of, is_part_byte, passing}
use Rattle.script.specs.working.Readers.{Reader, after, chosen, run_at, unspaced}

abbrev pub word_at : Reader Bytes
word_at = run_at is_word_byte (passing is_word)

abbrev pub number_at : Reader ℤ
number_at bytes = chosen (after (codes "-") bytes) (run_at is_ascii_digit (int_of false) bytes) (run_at is_ascii_digit (int_of true))

abbrev pub part_at : {A : Type 0} → (Bytes → Option A) → Reader A
part_at says bytes = run_at is_part_byte says (unspaced bytes)

-- one byte in front of what is found
abbrev pub onto : ℕ → Option (Bytes × Bytes) → Option (Bytes × Bytes)
onto c found = option_map (λ text. (c ∷ text.0, text.1)) found

abbrev pub escape_at : (Bytes → Option (Bytes × Bytes)) → Bytes → Option (Bytes × Bytes)
escape_at behind [] = None
escape_at behind (c ∷ rest) = option_and_then (λ meant. onto meant (behind rest)) (escaped c)

-- a text up to its closing mark; the first byte may stand behind a backslash
unfoldable pub text_from : Bool → Bytes → Option (Bytes × Bytes)
text_from is_escaped [] = None
text_from true (c ∷ rest) = option_and_then (λ meant. onto meant (text_from false rest)) (escaped c)
text_from false (c ∷ rest) = if c == byte "\"" then Some ([], rest) else if c == byte "\\" then text_from true rest else onto c (text_from false rest)

-- the same, where the text is UTF-8
abbrev pub quoted_at : Reader Bytes
quoted_at bytes = option_and_then (λ text. if is_utf8 text.0 then Some text else None) (text_from false bytes)
