-- The arguments of an action, as lines write them.
use Rattle.std.specs.Prelude.{◌≡◌, ℕ, zero, suc, ℤ, true, false, List, ◌++◌, codes}
use Rattle.std.specs.Str.{is_utf8}
use Rattle.hex.specs.Hex.{is_hex_digit}
use Rattle.base_bytes.specs.declared.arg.Arg.{Arg}
use Rattle.base_bytes.specs.declared.arg.Arg.TheVariants as arg
use Rattle.script.specs.Pieces.{Bytes, Between, Behind, Listed, Mark, Says}
use Rattle.script.specs.Tokens.{Number, Quoted, Word, author_of, bytes_of_hex, id_of_hex, is_replica_byte}

-- `field: argument`
pub record Field (X : Between Arg) (bytes rest : Bytes) (field : Bytes × Arg) : Type 0 where
  pub behind : Bytes
  pub inner : Bytes
  pub name : Behind Word bytes behind field.0
  pub colon : Mark (codes ":") behind inner
  pub value : Behind X inner rest field.1

-- One argument; `Below` is an argument that lies inside.
pub data ArgumentOver (Below : Between Arg) (bytes rest : Bytes) : Arg → Type 0 where
  -- a number
  number : {n : ℤ} → Number bytes rest n → ArgumentOver Below bytes rest (arg.Int n)
  -- `true`
  yes : Word bytes rest (codes "true") → ArgumentOver Below bytes rest (arg.Bool true)
  -- `false`
  no : Word bytes rest (codes "false") → ArgumentOver Below bytes rest (arg.Bool false)
  -- `"text"`
  text : {mid text : Bytes} → bytes ≡ codes "\"" ++ mid → Quoted mid rest text → is_utf8 text ≡ true → ArgumentOver Below bytes rest (arg.Str text)
  -- `0xHEX`
  raw : {mid raw : Bytes} → bytes ≡ codes "0x" ++ mid → Says is_hex_digit bytes_of_hex mid rest raw → ArgumentOver Below bytes rest (arg.Raw raw)
  -- `id:HEX`
  id : {mid id : Bytes} → bytes ≡ codes "id:" ++ mid → Says is_hex_digit id_of_hex mid rest id → ArgumentOver Below bytes rest (arg.Ident id)
  -- `@name`
  author : {mid id : Bytes} → bytes ≡ codes "@" ++ mid → Says is_replica_byte author_of mid rest id → ArgumentOver Below bytes rest (arg.Ident id)
  -- `Name::Variant`
  variant : {mid next name variant : Bytes} → Word bytes mid name → mid ≡ codes "::" ++ next → Word next rest variant → ArgumentOver Below bytes rest (arg.Variant name variant)
  -- `None`
  nothing : Word bytes rest (codes "None") → ArgumentOver Below bytes rest arg.Nothing
  -- `Some(argument)`
  some : {mid inner behind : Bytes} {a : Arg} → Word bytes mid (codes "Some") → Mark (codes "(") mid inner → Behind Below inner behind a → Mark (codes ")") behind rest
      → ArgumentOver Below bytes rest (arg.Some a)
  -- `Name { field: argument, .. }`
  fields : {mid inner name : Bytes} {fields : List (Bytes × Arg)} → Word bytes mid name → Mark (codes "{") mid inner → Listed (codes "}") (Field Below) inner rest fields
      → ArgumentOver Below bytes rest (arg.Fields name fields)

-- arguments that lie in one another at most so deep; one with none inside is one deep
abbrev pub Within : ℕ → Between Arg
Within zero = λ bytes rest a. ⊥
Within (suc deep) = ArgumentOver (Within deep)

-- an argument, at most 64 deep
abbrev pub Argument : Between Arg
Argument = Within 64
