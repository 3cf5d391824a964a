-- Names, literals, types and fields.
use Rattle.std.specs.Prelude.{ℕ, zero, suc, ℤ, IsTrue, List, ◌∷◌, is_some}
use Rattle.policy_ast.specs.declared.field.EffectField.{EffectField}
use Rattle.policy_ast.specs.declared.field.Field.{Field}
use Rattle.policy_ast.specs.declared.field.FieldType.{FieldType}
use Rattle.policy_ast.specs.declared.field.FieldType.TheVariants as field_type
use Rattle.policy_ast.specs.declared.literal.Literal.{Literal}
use Rattle.policy_ast.specs.declared.literal.Literal.TheVariants as literal
use Rattle.policy_ast.specs.declared.part.Part.{Part}
use Rattle.policy_ast.specs.declared.token.TokenKind.TheVariants as token
use Rattle.policy_ast.specs.grammar.Fixed.{path, word}
use Rattle.policy_ast.specs.grammar.Forms.{◌▸◌, ◌⊗◌, Empty, Made, Node, Optional}
use Rattle.policy_ast.specs.grammar.Parts.{Nonterminal, Kinds, part}
use Rattle.policy_ast.specs.Version.{Two}
use Rattle.policy_ast.specs.Words.{is_name}

-- Name: a word that isn't reserved
pub data IsName : Kinds → Kinds → Part (List ℕ) → Type 0 where
  name : {rest : Kinds} {text : List ℕ} → IsTrue (is_name Two text) → IsName (token.Word text ∷ rest) rest (part text 0)

-- Number
pub data IsNumber : Kinds → Kinds → Part ℤ → Type 0 where
  number : {rest : Kinds} {n : ℤ} → IsNumber (token.Number n ∷ rest) rest (part n 0)

-- Text
pub data IsQuoted : Kinds → Kinds → Part (List ℕ) → Type 0 where
  quoted : {rest : Kinds} {text : List ℕ} → IsQuoted (token.Quoted text ∷ rest) rest (part text 0)

-- literal = Number | Text | "true" | "false" | Name "::" Name
pub data IsLiteral (ts rest : Kinds) (a : Part Literal) : Type 0 where
  number : Made literal.Number IsNumber ts rest a → IsLiteral ts rest a
  quoted : Made literal.Text IsQuoted ts rest a → IsLiteral ts rest a
  true : (word "true" ▸ Made (λ none. literal.True) Empty) ts rest a → IsLiteral ts rest a
  false : (word "false" ▸ Made (λ none. literal.False) Empty) ts rest a → IsLiteral ts rest a
  variant : Made (λ t. literal.Variant t.0 t.1) (IsName ⊗ path ▸ IsName) ts rest a → IsLiteral ts rest a

-- type = "int" | "bool" | "string" | "bytes" | "id" | "enum" Name | "struct" Name | "optional" type
-- Below is the type that lies inside.
pub data TypeOver (Below : Nonterminal FieldType) (ts rest : Kinds) (a : Part FieldType) : Type 0 where
  int : (word "int" ▸ Node (λ none. field_type.Int) Empty) ts rest a → TypeOver Below ts rest a
  bool : (word "bool" ▸ Node (λ none. field_type.Bool) Empty) ts rest a → TypeOver Below ts rest a
  string : (word "string" ▸ Node (λ none. field_type.Str) Empty) ts rest a → TypeOver Below ts rest a
  bytes : (word "bytes" ▸ Node (λ none. field_type.Raw) Empty) ts rest a → TypeOver Below ts rest a
  id : (word "id" ▸ Node (λ none. field_type.Ident) Empty) ts rest a → TypeOver Below ts rest a
  enum : (word "enum" ▸ Node field_type.Enum IsName) ts rest a → TypeOver Below ts rest a
  struct : (word "struct" ▸ Node field_type.Struct IsName) ts rest a → TypeOver Below ts rest a
  optional : (word "optional" ▸ Node field_type.Optional Below) ts rest a → TypeOver Below ts rest a

-- types that lie in one another fewer than n deep
abbrev pub TypeWithin : ℕ → Nonterminal FieldType
TypeWithin zero = λ ts rest a. ⊥
TypeWithin (suc n) = TypeOver (TypeWithin n)

-- a type: the number is any that is large enough
pub data IsType (ts rest : Kinds) (a : Part FieldType) : Type 0 where
  nested : (n : ℕ) → TypeWithin n ts rest a → IsType ts rest a

-- field = Name type
abbrev pub IsField : Nonterminal Field
IsField = Made (λ t. record { name = t.0; field_type = t.1 }) (IsName ⊗ IsType)

-- field "dynamic"?
abbrev pub IsEffectField : Nonterminal EffectField
IsEffectField = Made (λ t. record { field = t.0; is_dynamic = is_some t.1 }) (IsField ⊗ Optional (word "dynamic") Empty)
