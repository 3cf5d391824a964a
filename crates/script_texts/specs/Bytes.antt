-- A text, as its bytes in UTF-8.
use Rattle.std.specs.Prelude.{ℕ, List}

abbrev pub Bytes : Type 0
Bytes = List ℕ
