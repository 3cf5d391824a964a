-- What a name is made of.
use Rattle.std.specs.Prelude.{ℕ, Bool, false, ◌&&◌, ◌||◌, ◌==◌, nat_le, List, [], ◌∷◌, length}
use Rattle.std.specs.Char.{is_ascii_alphabetic, is_ascii_alphanumeric}
use Rattle.std.specs.List.{list_all}

-- It begins with a letter of ASCII.
abbrev pub begins_with_letter : List ℕ → Bool
begins_with_letter [] = false
begins_with_letter (byte ∷ rest) = is_ascii_alphabetic byte

-- A letter or a digit of ASCII, or `_`.
abbrev pub is_word_byte : ℕ → Bool
is_word_byte byte = is_ascii_alphanumeric byte || (byte == 95)

-- A word: a letter, then letters, digits and `_`, at most 64 bytes in all.
abbrev pub is_word : List ℕ → Bool
is_word bytes = begins_with_letter bytes && list_all is_word_byte bytes && nat_le (length bytes) 64
