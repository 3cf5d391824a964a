-- Words, numbers, digits, texts and names, as lines write them.
use Rattle.std.specs.Prelude.{◌≡◌, ℕ, ℤ, pos, neg_ℤ, Bool, true, false, ◌==◌, ◌&&◌, ◌||◌, not, nat_le, nat_lt, if◌then◌else◌, [], ◌∷◌, ◌++◌, ◌^◌, length, codes, Option, Some, None, Result, Ok, Err}
use Rattle.std.specs.Char.{is_ascii_digit}
use Rattle.std.specs.List.{list_all}
use Rattle.std.specs.Option.{option_and_then}
use Rattle.std.specs.Str.{byte}
use Rattle.std.specs.Str.Parse.{digits_value}
use Rattle.sha2.specs.Sha256.{sha256}
use Rattle.hex.specs.Hex.{decode_of}
use Rattle.hex.specs.declared.error.FromHexError.{FromHexError}
use Rattle.base_bytes.specs.Values.{fits_int}
use Rattle.base_bytes.specs.Words.{is_word, is_word_byte}
use Rattle.script.specs.Pieces.{Bytes, Between, Behind, Says, begins_with, is_space}

-- what passes a test
abbrev pub passing : (Bytes → Bool) → Bytes → Option Bytes
passing test bytes = if test bytes then Some bytes else None

-- a word: a letter, then letters, digits and `_`, at most 64 bytes
abbrev pub Word : Between Bytes
Word = Says is_word_byte (passing is_word)

-- the number that digits write, with a minus sign before them or without
abbrev pub number_of : Bool → Bytes → ℤ
number_of is_negative digits = let size = pos (digits_value 10 digits) in if is_negative then neg_ℤ size else size

-- the same, where there are digits and the number is from -2^63 to 2^63 - 1
abbrev pub int_of : Bool → Bytes → Option ℤ
int_of is_negative digits = if not (length digits == 0) && fits_int (number_of is_negative digits) then Some (number_of is_negative digits) else None

-- a number: decimal digits, perhaps a minus sign directly before them
pub data Number (bytes rest : Bytes) (n : ℤ) : Type 0 where
  plain : Says is_ascii_digit (int_of false) bytes rest n → Number bytes rest n
  negative : {digits : Bytes} → bytes ≡ codes "-" ++ digits → Says is_ascii_digit (int_of true) digits rest n → Number bytes rest n

abbrev pub decoded : Result Bytes FromHexError → Option Bytes
decoded (Ok bytes) = Some bytes
decoded (Err fault) = None

-- the bytes that an even number of hex digits of either case write; None for other bytes
abbrev pub bytes_of_hex : Bytes → Option Bytes
bytes_of_hex digits = decoded (decode_of digits)

-- the same, where there is one byte at least
abbrev pub some_bytes_of_hex : Bytes → Option Bytes
some_bytes_of_hex digits = option_and_then (passing (λ bytes. not (length bytes == 0))) (bytes_of_hex digits)

-- the same, where they are an id
abbrev pub id_of_hex : Bytes → Option Bytes
id_of_hex digits = option_and_then (passing (λ bytes. length bytes == 32)) (bytes_of_hex digits)

-- the byte that an escape stands for, by the byte behind its backslash: `\\`, `\"` and `\n`
abbrev pub escaped : ℕ → Option ℕ
escaped c = if c == byte "\\" then Some c else if c == byte "\"" then Some c else if c == byte "n" then Some (byte "\n") else None

-- a text up to its closing mark, from behind the opening one: bytes that stand for themselves, and escapes
pub data Quoted : Bytes → Bytes → Bytes → Type 0 where
  closed : {rest : Bytes} → Quoted (byte "\"" ∷ rest) rest []
  plain : {bytes rest text : Bytes} {c : ℕ} → (c == byte "\"") ≡ false → (c == byte "\\") ≡ false → Quoted bytes rest text → Quoted (c ∷ bytes) rest (c ∷ text)
  escape : {bytes rest text : Bytes} {c meant : ℕ} → escaped c ≡ Some meant → Quoted bytes rest text → Quoted (byte "\\" ∷ c ∷ bytes) rest (meant ∷ text)

-- a small letter, a digit or `_`
abbrev pub is_replica_byte : ℕ → Bool
is_replica_byte c = (nat_le (byte "a") c && nat_le c (byte "z")) || ((nat_le (byte "0") c && nat_le c (byte "9")) || c == byte "_")

-- the name of a replica: 1 to 16 of these
abbrev pub is_replica : Bytes → Bool
is_replica name = list_all is_replica_byte name && not (length name == 0) && nat_le (length name) 16

-- the id of the author of a replica's commands: SHA-256 of a fixed text and the replica's name
abbrev pub author_id : Bytes → Bytes
author_id name = sha256 (codes "aranya-device:" ++ name)

-- the author id of a replica of this name
abbrev pub author_of : Bytes → Option Bytes
author_of name = if is_replica name then Some (author_id name) else None

-- the number of a message: decimal digits, the first of them no zero, and a number of 32 bits
abbrev pub is_message_number : Bytes → Bool
is_message_number digits =
    list_all is_ascii_digit digits && (begins_with is_ascii_digit digits && not (begins_with (λ c. c == byte "0") digits)) && nat_lt (digits_value 10 digits) (2 ^ 32)

abbrev pub message_number : Bytes → Option ℕ
message_number digits = if is_message_number digits then Some (digits_value 10 digits) else None

-- a part of a line: what stands behind spaces, up to the next space or the line's end
abbrev pub is_part_byte : ℕ → Bool
is_part_byte c = not (is_space c)

abbrev pub Part : {A : Type 0} → (Bytes → Option A) → Between A
Part says = Behind (Says is_part_byte says)

abbrev pub replica_name : Bytes → Option Bytes
replica_name = passing is_replica
