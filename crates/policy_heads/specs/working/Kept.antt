-- What is kept of an item, so that it is made once: its fields or parameters, its type and its variants.
use Rattle.std.specs.Prelude.{◌≡◌, ℕ, List, [], ◌++◌, map, Option}
use Rattle.std.specs.Borrow.{Bor}
use Rattle.std.specs.BTreeMap.{BTreeMap, get_by}
use Rattle.std.specs.Cmp.Lexicographic.{slice_cmp}
use Rattle.std.specs.Ordering.{nat_cmp}
use Rattle.policy_ast.specs.declared.item.Item.{Item}
use Rattle.policy_ast.specs.declared.item.Item.TheVariants as item
use Rattle.policy_ast.specs.declared.literal.Literal.{Literal}
use Rattle.policy_ast.specs.declared.literal.Literal.TheVariants as literal
use Rattle.policy_rules.specs.Heads.{command_fields}
use Rattle.policy_rules.specs.Names.{Name, is_among, number_named}
use Rattle.policy_rules.specs.Scopes.{let_names}
use Rattle.policy_rules.specs.Types.{declared, written_type}
use Rattle.policy_rules.specs.declared.types.Named.{Named}
use Rattle.policy_rules.specs.declared.types.NamedType.{NamedType}
use Rattle.policy_rules.specs.declared.types.NamedType.TheVariants as ty

-- The fields of a struct type, a fact's keys and then its values, or the parameters of what has a body.
abbrev pub kept_fields : Item → List Named
kept_fields (item.Struct name fields) = declared fields
kept_fields (item.Effect name fields) = declared (map (λ f. f.field) fields)
kept_fields (item.Fact is_immutable name keys values) = declared keys ++ declared values
kept_fields (item.Command name sections) = declared (command_fields sections)
kept_fields (item.Function name parameters result body) = declared parameters
kept_fields (item.FinishFunction name parameters body) = declared parameters
kept_fields (item.Action name parameters body) = declared parameters
kept_fields other = []

-- The type of a literal by its form alone, be it well typed or not.
abbrev pub form_type : Literal → NamedType
form_type (literal.Number n) = ty.Int
form_type (literal.Text text) = ty.Str
form_type literal.True = ty.Bool
form_type literal.False = ty.Bool
form_type (literal.Variant name variant) = ty.Enum name

-- The type of a function's result, or that of the literal of a `let` by its form.
abbrev pub kept_type : Item → NamedType
kept_type (item.Let name value) = form_type value
kept_type (item.Function name parameters result body) = written_type result
kept_type other = ty.Never

-- The variants of an enum.
abbrev pub kept_variants : Item → List Name
kept_variants (item.Enum name all) = all
kept_variants other = []

-- This is kept of the item.
abbrev pub IsKept : Item → List Named → NamedType → List Name → Type 0
IsKept i fields t variants = (fields ≡ kept_fields i) × (t ≡ kept_type i) × ((q : Name) → is_among q variants ≡ is_among q (kept_variants i))

-- The number that is kept under a name.
abbrev pub kept_number : BTreeMap (Bor Name) ℕ → Name → Option ℕ
kept_number numbers name = get_by (λ k. slice_cmp nat_cmp name k.now) numbers

-- The numbers are those of the items that names mean, and the names are those of the `let` items.
abbrev pub AreKept : List Item → BTreeMap (Bor Name) ℕ → List Name → Type 0
AreKept items numbers lets = ((q : Name) → kept_number numbers q ≡ number_named items q) × ((q : Name) → is_among q lets ≡ is_among q (let_names items))
