-- A text that is read: counted bytes that are UTF-8.
use Rattle.std.proofs.Common.{◌≡◌, ℕ, Bool, true, false, List, Some, None, refl}
use Rattle.std.specs.Int.{w32}
use Rattle.std.specs.Str.{is_utf8, IsUtf8}
use Rattle.std.proofs.lemmas.Str.{IsUtf8-from_is_utf8, is_utf8-from_IsUtf8}
use Rattle.base_bytes.specs.Decoding.{text_at}
use Rattle.base_bytes.specs.Reading.{counted_at}
use Rattle.base_bytes.specs.declared.value.Value.TheVariants as value

pub text_found : (old new bytes text : List ℕ) → counted_at w32 old ≡ Some (bytes, new) → IsUtf8 bytes → text ≡ bytes → text_at old ≡ Some (value.Str text, new)
text_found old new bytes text found utf8 same = rw (found, is_utf8-from_IsUtf8 bytes utf8, same) refl

test_of : (bytes : List ℕ) (test : Bool) → is_utf8 bytes ≡ test → (IsUtf8 bytes → ⊥) → is_utf8 bytes ≡ false
test_of bytes true is no_text = absurd (no_text (IsUtf8-from_is_utf8 bytes is))
test_of bytes false is no_text = is

pub text_refused : (old new bytes : List ℕ) → counted_at w32 old ≡ Some (bytes, new) → (IsUtf8 bytes → ⊥) → text_at old ≡ None
text_refused old new bytes found no_text = rw (found, test_of bytes (is_utf8 bytes) refl no_text) refl
