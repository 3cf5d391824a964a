-- What is left of bytes behind a place.
use Rattle.std.proofs.Common.{◌≡◌, ℕ, ◌+◌, ◌-◌, ◌<◌, List, ◌∷◌, length, take, drop, get_or, add-one, drop-cons, length-drop, arith}
use Rattle.std.proofs.lemmas.List.{take_all}

pub dropped : (bytes : List ℕ) (i : ℕ) → i < length bytes → drop i bytes ≡ get_or bytes i 0 ∷ drop (i + 1) bytes
dropped bytes i within = rw (add-one i) (drop-cons bytes i 0 within)

-- a slice from a place on is all that stands behind it
pub dropped_whole : (bytes : List ℕ) (i : ℕ) → take (length bytes - i) (drop i bytes) ≡ drop i bytes
dropped_whole bytes i = take_all (length bytes - i) (drop i bytes) (omega (arith, length-drop i bytes))
