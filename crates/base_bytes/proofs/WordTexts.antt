-- Words are texts.
use Rattle.std.proofs.Common.{◌≡◌, ℕ, ◌<◌, true, ◌&&◌, List, [], ◌∷◌, arith, nat_le, length}
use Rattle.std.specs.List.{list_all}
use Rattle.std.specs.Str.{IsAscii, IsUtf8}
use Rattle.std.proofs.lemmas.Bool.Decides.{nat_tests}
use Rattle.std.proofs.lemmas.Str.{IsUtf8-from_ascii}
use Rattle.std.proofs.lemmas.Str.Ascii.{IsAscii-cons, IsAscii-nil}
use Rattle.base_bytes.proofs.Bools.{and_then}
use Rattle.base_bytes.specs.Words.{begins_with_letter, is_word, is_word_byte}

word_byte_is_ascii : (c : ℕ) → is_word_byte c ≡ true → c < 128
word_byte_is_ascii c is = grind (arith, nat_tests)

all_ascii : (bytes : List ℕ) → list_all is_word_byte bytes ≡ true → IsAscii bytes
all_ascii [] is = IsAscii-nil
all_ascii (c ∷ bytes) is =
    and_then (is_word_byte c) (list_all is_word_byte bytes) is (λ one more. IsAscii-cons c bytes (word_byte_is_ascii c one) (all_ascii bytes more))

pub word_is_text : (bytes : List ℕ) → is_word bytes ≡ true → IsUtf8 bytes
word_is_text bytes is =
    and_then (begins_with_letter bytes && list_all is_word_byte bytes) (nat_le (length bytes) 64) is (λ front short.
    and_then (begins_with_letter bytes) (list_all is_word_byte bytes) front (λ first all. IsUtf8-from_ascii bytes (all_ascii bytes all)))
