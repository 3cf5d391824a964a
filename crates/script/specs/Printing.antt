-- Printed values as arguments: what is printed of a value is read as that value.
use Rattle.std.specs.Prelude.{◌≡◌, ℕ, zero, suc, ℤ, Bool, true, false, List, [], ◌∷◌, ◌++◌, length}
use Rattle.std.specs.Str.{is_utf8}
use Rattle.hex.specs.Hex.{IsBytes}
use Rattle.base_bytes.specs.Values.{fits_int}
use Rattle.base_bytes.specs.Words.{is_word, is_word_byte}
use Rattle.base_bytes.specs.declared.arg.Arg.{Arg}
use Rattle.base_bytes.specs.declared.arg.Arg.TheVariants as arg
use Rattle.script_texts.specs.Values.{value_text}
use Rattle.script.specs.Arguments.{Within}
use Rattle.script.specs.Pieces.{Bytes, begins_with}

-- fields whose names are words
pub data AreFields (Below : Arg → Type 0) : List (Bytes × Arg) → Type 0 where
  none : AreFields Below []
  more : {name : Bytes} {a : Arg} {fields : List (Bytes × Arg)} → is_word name ≡ true → Below a → AreFields Below fields → AreFields Below ((name, a) ∷ fields)

-- a value as the program's types hold it, whose names are words; `Below` is such a value that lies inside
pub data IsPlainOver (Below : Arg → Type 0) : Arg → Type 0 where
  int : {n : ℤ} → fits_int n ≡ true → IsPlainOver Below (arg.Int n)
  bool : {b : Bool} → IsPlainOver Below (arg.Bool b)
  text : {text : Bytes} → is_utf8 text ≡ true → IsPlainOver Below (arg.Str text)
  raw : {raw : Bytes} → IsBytes raw → IsPlainOver Below (arg.Raw raw)
  id : {id : Bytes} → IsBytes id → length id ≡ 32 → IsPlainOver Below (arg.Ident id)
  variant : {name variant : Bytes} → is_word name ≡ true → is_word variant ≡ true → IsPlainOver Below (arg.Variant name variant)
  nothing : IsPlainOver Below arg.Nothing
  some : {a : Arg} → Below a → IsPlainOver Below (arg.Some a)
  fields : {name : Bytes} {fields : List (Bytes × Arg)} → is_word name ≡ true → AreFields Below fields → IsPlainOver Below (arg.Fields name fields)

-- such a value, with others inside it at most so deep
abbrev pub IsPlain : ℕ → Arg → Type 0
IsPlain zero a = ⊥
IsPlain (suc deep) a = IsPlainOver (IsPlain deep) a

-- The text of such a value is an argument that is this value, where no letter, digit or `_` stands behind it.
abbrev pub IsReadAsPrinted : ℕ → Arg → Type 0
IsReadAsPrinted deep a = IsPlain deep a → (rest : Bytes) → begins_with is_word_byte rest ≡ false → Within deep (value_text a ++ rest) rest a
