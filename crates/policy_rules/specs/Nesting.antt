-- How deep structs nest.
use Rattle.std.specs.Prelude.{ℕ, zero, suc, Bool, true, false, List, Option, Some, None}
use Rattle.std.specs.List.{list_all}
use Rattle.policy_ast.specs.declared.field.Field.{Field}
use Rattle.policy_ast.specs.declared.item.Item.{Item}
use Rattle.policy_rules.specs.Heads.{struct_named, written_fields}
use Rattle.policy_rules.specs.Names.{Name}
use Rattle.policy_rules.specs.Types.{declared}
use Rattle.policy_rules.specs.declared.types.Named.{Named}
use Rattle.policy_rules.specs.declared.types.NamedType.{NamedType, fold-NamedType}
use Rattle.policy_rules.specs.declared.types.NamedType.TheOpen.{NamedType-F}

-- The struct inside a type, if there is one, passes a test.
abbrev pub struct_passes_layer : (Name → Bool) → NamedType-F Bool → Bool
struct_passes_layer test (NamedType-F.Struct name) = test name
struct_passes_layer test (NamedType-F.Optional inner) = inner
struct_passes_layer test other = true

-- The same of a whole type.
abbrev pub struct_passes : (Name → Bool) → NamedType → Bool
struct_passes test = fold-NamedType Bool (struct_passes_layer test)

-- The fields of a struct pass a test; a name without a struct has none.
abbrev pub fields_pass : (List Named → Bool) → Option (List Named) → Bool
fields_pass test None = true
fields_pass test (Some fields) = test fields

-- In a struct of these fields at most n structs nest, itself counted. So none of them reaches itself.
abbrev pub nests_within : List Item → ℕ → List Named → Bool
nests_within items zero fields = false
nests_within items (suc n) fields = list_all (λ f. struct_passes (λ name. fields_pass (nests_within items n) (struct_named items name)) f.ty) fields

-- So many structs may nest, the outermost counted.
abbrev pub deepest_nesting : ℕ
deepest_nesting = 8

-- Structs nest in these fields no deeper than they may.
abbrev pub written_nests : List Item → Option (List Field) → Bool
written_nests items None = true
written_nests items (Some fields) = nests_within items deepest_nesting (declared fields)

-- The item is no struct type, or structs nest in it no deeper than they may.
abbrev pub may_nest : List Item → Item → Bool
may_nest items i = written_nests items (written_fields i)
