-- The names that stand for values where an expression stands, and which names may be introduced there.
use Rattle.std.specs.Prelude.{Bool, not, ◌&&◌, if◌then◌else◌, List, [], ◌∷◌, ◌++◌, codes, map, filter_map, Option, Some, None}
use Rattle.std.specs.Option.{is_some, option_or}
use Rattle.std.specs.Str.{bytes_eq}
use Rattle.policy_ast.specs.declared.item.Item.{Item}
use Rattle.policy_ast.specs.declared.item.Item.TheVariants as item
use Rattle.policy_rules.specs.Heads.{let_named}
use Rattle.policy_rules.specs.Names.{Name, is_among}
use Rattle.policy_rules.specs.declared.context.Context.{Context}
use Rattle.policy_rules.specs.declared.types.Named.{Named}
use Rattle.policy_rules.specs.declared.types.NamedType.{NamedType}

-- The names that parameters, `let` and `map` have introduced, in that order.
abbrev pub Scope : Type 0
Scope = List Named

-- The type with which a name was introduced.
abbrev pub type_in : Scope → Name → Option NamedType
type_in [] name = None
type_in (n ∷ names) name = if bytes_eq name n.name then Some n.ty else type_in names name

-- The names of a scope.
abbrev pub names_in : Scope → List Name
names_in scope = map (λ n. n.name) scope

-- The scope once one more name is introduced.
abbrev pub with_name : Scope → Name → NamedType → Scope
with_name scope name t = scope ++ record { name = name; ty = t } ∷ []

-- The name of a policy's `let` item.
abbrev pub let_name : Item → Option Name
let_name (item.Let name value) = Some name
let_name other = None

-- The names of all `let` items of a policy.
abbrev pub let_names : List Item → List Name
let_names = filter_map let_name

-- In the policy and recall blocks of a command this name is kept for two calls.
abbrev pub is_kept_envelope : Context → Name → Bool
is_kept_envelope context name = is_some context.this && bytes_eq name (codes "envelope")

-- A name may be introduced: it differs from those in scope, from the policy's `let` names and from what is kept.
abbrev pub may_introduce : List Item → Context → Scope → Name → Bool
may_introduce items context scope name = not (is_some (type_in scope name)) && not (is_among name (let_names items)) && not (is_kept_envelope context name)

-- The type of a name that stands as an expression: it is in scope or is a policy's `let`.
abbrev pub name_type : List Item → Context → Scope → Name → Option NamedType
name_type items context scope name = if is_kept_envelope context name then None else option_or (type_in scope name) (let_named items name)
