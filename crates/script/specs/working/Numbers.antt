-- Numbers by their size and their sign.
use Rattle.std.specs.Prelude.{ℕ, ℤ, pos, neg_ℤ, ◌^◌, Bool, nat_le, nat_lt, if◌then◌else◌, Option, Some, None}
use Rattle.base_bytes.specs.Values.{fits_int}

-- a size that is at most this
abbrev pub size_up_to : ℕ → ℕ → Option ℕ
size_up_to most size = if nat_le size most then Some size else None

-- a number of 32 bits
abbrev pub word_up_to : ℕ → Option ℕ
word_up_to size = if nat_lt size (2 ^ 32) then Some size else None

-- the number of a size
abbrev pub signed : Bool → ℕ → ℤ
signed is_negative size = if is_negative then neg_ℤ (pos size) else pos size

-- a number that is in range
abbrev pub in_range : ℤ → Option ℤ
in_range value = if fits_int value then Some value else None
