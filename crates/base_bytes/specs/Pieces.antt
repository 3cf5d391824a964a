-- The pieces that the forms of bytes are made of. All numbers are big-endian.
use Rattle.std.specs.Prelude.{ℕ, Bool, if◌then◌else◌, List, [], ◌∷◌, ◌++◌, length, map}
use Rattle.std.specs.Int.{Width, to_be_bytes}
use Rattle.std.specs.List.{concat}

-- A length of the width, and that many bytes.
abbrev pub counted : Width → List ℕ → List ℕ
counted width bytes = to_be_bytes width (length bytes) ++ bytes

-- A truth in one byte.
abbrev pub flag : Bool → List ℕ
flag truth = (if truth then 1 else 0) ∷ []

-- A number of the width, and so many spellings, one after another.
abbrev pub listed : {A : Type 0} → Width → (A → List ℕ) → List A → List ℕ
listed width spelled all = to_be_bytes width (length all) ++ concat (map spelled all)
