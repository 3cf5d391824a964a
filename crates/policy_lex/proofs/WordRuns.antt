-- The run of word bytes that bytes begin with.
use Rattle.std.proofs.Common.{◌≡◌, ℕ, ◌<◌, Bool, true, false, cond, List, [], ◌∷◌, length, take, refl, arith}
use Rattle.std.specs.List.{take_while}
use Rattle.std.specs.Str.{IsAscii, IsUtf8}
use Rattle.std.proofs.lemmas.Str.{IsUtf8-from_ascii}
use Rattle.std.proofs.lemmas.Str.Ascii.{IsAscii-cons, IsAscii-nil}
use Rattle.std.proofs.lemmas.List.Sums.{take_while-cons}
use Rattle.std.proofs.lemmas.List.Folds.{length-prefix_len}
use Rattle.std.proofs.lemmas.Bool.Decides.{nat_tests}
use Rattle.base_bytes.specs.Words.{is_word_byte}

word_byte_is_ascii : (c : ℕ) → is_word_byte c ≡ true → c < 128
word_byte_is_ascii c is = grind (arith, nat_tests)

more_ascii : (b : Bool) (c : ℕ) (cs : List ℕ) → is_word_byte c ≡ b → IsAscii cs → IsAscii (cond b (c ∷ cs) [])
more_ascii true c cs is ascii = IsAscii-cons c cs (word_byte_is_ascii c is) ascii
more_ascii false c cs is ascii = IsAscii-nil

run_is_ascii : (bytes : List ℕ) → IsAscii (take_while is_word_byte bytes)
run_is_ascii [] = IsAscii-nil
run_is_ascii (c ∷ bytes) = rw (take_while-cons is_word_byte c bytes) (more_ascii (is_word_byte c) c (take_while is_word_byte bytes) refl (run_is_ascii bytes))

-- the run that bytes begin with is a text
pub run_is_text : (bytes : List ℕ) → IsUtf8 (take (length (take_while is_word_byte bytes)) bytes)
run_is_text bytes = rw (length-prefix_len is_word_byte bytes) (IsUtf8-from_ascii (take_while is_word_byte bytes) (run_is_ascii bytes))
