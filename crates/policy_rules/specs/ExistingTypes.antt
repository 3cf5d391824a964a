-- Types that a policy has: each enum and struct that they name is there.
use Rattle.std.specs.Prelude.{◌≡◌, Bool, true, List, Some}
use Rattle.std.specs.List.{list_all}
use Rattle.std.specs.Option.{is_some}
use Rattle.policy_ast.specs.declared.item.Item.{Item}
use Rattle.policy_rules.specs.Heads.{enum_named, struct_named}
use Rattle.policy_rules.specs.Names.{Name}
use Rattle.policy_rules.specs.Scopes.{Scope}
use Rattle.policy_rules.specs.declared.context.Context.{Context}
use Rattle.policy_rules.specs.declared.types.NamedType.{NamedType, fold-NamedType}
use Rattle.policy_rules.specs.declared.types.NamedType.TheOpen.{NamedType-F}

-- One layer of a type, where the type inside an optional is given by its answer.
abbrev pub is_there_layer : List Item → NamedType-F Bool → Bool
is_there_layer items (NamedType-F.Enum name) = is_some (enum_named items name)
is_there_layer items (NamedType-F.Struct name) = is_some (struct_named items name)
is_there_layer items (NamedType-F.Optional inner) = inner
is_there_layer items other = true

-- The enums and structs that a type names are there.
abbrev pub is_there : List Item → NamedType → Bool
is_there items = fold-NamedType Bool (is_there_layer items)

-- The types of all names in scope are there.
abbrev pub are_there : List Item → Scope → Bool
are_there items = list_all (λ n. is_there items n.ty)

-- The command of a context, if there is one, is a struct of the policy.
abbrev pub HasCommand : List Item → Context → Type 0
HasCommand items context = (name : Name) → context.this ≡ Some name → is_some (struct_named items name) ≡ true
