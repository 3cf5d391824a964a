-- Words and names of replicas are texts, since their bytes are ASCII.
use Rattle.std.proofs.Common.{◌≡◌, ℕ, ◌<◌, Bool, true, false, [], ◌∷◌, refl, arith}
use Rattle.std.specs.List.{list_all}
use Rattle.std.specs.Str.{IsAscii, IsUtf8, is_utf8}
use Rattle.std.proofs.lemmas.Str.{IsUtf8-from_ascii, IsUtf8-from_is_utf8, is_utf8-from_IsUtf8}
use Rattle.std.proofs.lemmas.Str.Ascii.{IsAscii-cons, IsAscii-nil}
use Rattle.std.proofs.lemmas.Bool.{and_parts}
use Rattle.std.proofs.lemmas.Bool.Decides.{nat_tests}
use Rattle.base_bytes.specs.Words.{is_word, is_word_byte}
use Rattle.script.specs.Pieces.{Bytes}
use Rattle.script.specs.Tokens.{is_replica, is_replica_byte}

all_ascii : (p : ℕ → Bool) → ((c : ℕ) → p c ≡ true → c < 128) → (cs : Bytes) → list_all p cs ≡ true → IsAscii cs
all_ascii p small [] is = IsAscii-nil
all_ascii p small (c ∷ cs) is = let parts = and_parts (p c) (list_all p cs) is in IsAscii-cons c cs (small c parts.0) (all_ascii p small cs parts.1)

replica_byte_is_ascii : (c : ℕ) → is_replica_byte c ≡ true → c < 128
replica_byte_is_ascii c is = grind (arith, nat_tests)

word_byte_is_ascii : (c : ℕ) → is_word_byte c ≡ true → c < 128
word_byte_is_ascii c is = grind (arith, nat_tests)

pub replica_is_text : (name : Bytes) → is_replica name ≡ true → IsUtf8 name
replica_is_text name is =
    let all = and_parts (list_all is_replica_byte name) _ (and_parts _ _ is).0 in
    IsUtf8-from_ascii name (all_ascii is_replica_byte replica_byte_is_ascii name all.0)

pub word_is_text : (name : Bytes) → is_word name ≡ true → IsUtf8 name
word_is_text name is =
    let all = and_parts _ (list_all is_word_byte name) (and_parts _ _ is).0 in
    IsUtf8-from_ascii name (all_ascii is_word_byte word_byte_is_ascii name all.1)

pub utf8_passes : (bytes : Bytes) → IsUtf8 bytes → is_utf8 bytes ≡ true
utf8_passes bytes is = is_utf8-from_IsUtf8 bytes is

fails_so : (b : Bool) → (b ≡ true → ⊥) → b ≡ false
fails_so true fails = absurd (fails refl)
fails_so false fails = refl

pub none_utf8 : (bytes : Bytes) → (IsUtf8 bytes → ⊥) → is_utf8 bytes ≡ false
none_utf8 bytes fails = fails_so (is_utf8 bytes) (λ holds. fails (IsUtf8-from_is_utf8 bytes holds))
