-- Values that are taken from the back, up to the first `?` from the front.
use Rattle.std.specs.Prelude.{List, [], ◌∷◌, ◌++◌, Option, Some, None}
use Rattle.base_bytes.specs.declared.value.Value.{Value}

-- The values behind, the last first, with one more in front of them; a `?` leaves none.
abbrev pub put_front : List Value → Option Value → List Value
put_front behind None = []
put_front behind (Some v) = behind ++ v ∷ []
