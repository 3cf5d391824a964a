-- How names, literals, types and fields are read.
use Rattle.std.specs.Prelude.{ℕ, zero, suc, ℤ, if◌then◌else◌, List, ◌∷◌, Some, None, is_some}
use Rattle.policy_ast.specs.declared.field.EffectField.{EffectField}
use Rattle.policy_ast.specs.declared.field.Field.{Field}
use Rattle.policy_ast.specs.declared.field.FieldType.{FieldType}
use Rattle.policy_ast.specs.declared.field.FieldType.TheVariants as field_type
use Rattle.policy_ast.specs.declared.literal.Literal.{Literal}
use Rattle.policy_ast.specs.declared.literal.Literal.TheVariants as literal
use Rattle.policy_ast.specs.declared.pattern.PatternLiteral.{PatternLiteral}
use Rattle.policy_ast.specs.declared.pattern.PatternLiteral.TheVariants as pattern_literal
use Rattle.policy_ast.specs.declared.part.Part.{Part}
use Rattle.policy_ast.specs.declared.token.TokenKind.TheVariants as token
use Rattle.policy_ast.specs.grammar.Fixed.{path, word}
use Rattle.policy_ast.specs.grammar.Parts.{part}
use Rattle.policy_ast.specs.Version.{Two}
use Rattle.policy_ast.specs.Words.{is_name}
use Rattle.policy_ast.proofs.grammar.Reading.{Reader, behind, chosen, making, noded, nothing, on, optional, pair, paired, read_empty}

abbrev pub read_name : Reader (List ℕ)
read_name (token.Word text ∷ ts) = if is_name Two text then Some (part text 0, ts) else None
read_name _ = None

abbrev pub read_number : Reader ℤ
read_number (token.Number n ∷ ts) = Some (part n 0, ts)
read_number _ = None

abbrev pub read_quoted : Reader (List ℕ)
read_quoted (token.Quoted text ∷ ts) = Some (part text 0, ts)
read_quoted _ = None

-- where the first token is a name, what is read behind it, and otherwise another reading
abbrev pub named : {A : Type 0} → (Part (List ℕ) → Reader A) → Reader A → Reader A
named row other ts = chosen (read_name ts) (other ts) (λ a. row a.0 a.1)

abbrev pub read_truth : Reader Literal
read_truth = on (word "true") (making (λ none. literal.True) read_empty) (on (word "false") (making (λ none. literal.False) read_empty) nothing)

-- a literal that begins with no name
abbrev pub read_constant : Reader Literal
read_constant (token.Number n ∷ ts) = Some (part (literal.Number n) 0, ts)
read_constant (token.Quoted text ∷ ts) = Some (part (literal.Text text) 0, ts)
read_constant ts = read_truth ts

abbrev pub read_variant : Part (List ℕ) → Reader Literal
read_variant a = making (λ t. literal.Variant t.0 t.1) (paired a (behind path read_name))

unfoldable pub read_literal : Reader Literal
read_literal = named read_variant read_constant

unfoldable pub read_pattern_literal : Reader PatternLiteral
read_pattern_literal = on (word "None") (making (λ none. pattern_literal.None) read_empty) (making pattern_literal.Literal read_literal)

-- a type, over the reading of what lies inside
abbrev pub type_over : Reader FieldType → ℕ → Reader FieldType
type_over below limit =
    on (word "int") (noded limit (λ none. field_type.Int) read_empty)
    (on (word "bool") (noded limit (λ none. field_type.Bool) read_empty)
    (on (word "string") (noded limit (λ none. field_type.Str) read_empty)
    (on (word "bytes") (noded limit (λ none. field_type.Raw) read_empty)
    (on (word "id") (noded limit (λ none. field_type.Ident) read_empty)
    (on (word "enum") (noded limit field_type.Enum read_name)
    (on (word "struct") (noded limit field_type.Struct read_name)
    (on (word "optional") (noded limit field_type.Optional below)
    nothing)))))))

-- a type of at most this height
unfoldable pub read_type : ℕ → Reader FieldType
read_type zero ts = None
read_type (suc limit) ts = type_over (read_type limit) (suc limit) ts

abbrev pub read_field : ℕ → Reader Field
read_field limit = making (λ t. record { name = t.0; field_type = t.1 }) (pair read_name (read_type limit))

abbrev pub read_effect_field : ℕ → Reader EffectField
read_effect_field limit = making (λ t. record { field = t.0; is_dynamic = is_some t.1 }) (pair (read_field limit) (optional (word "dynamic") read_empty))
