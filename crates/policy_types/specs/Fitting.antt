-- Values of the types that the rules speak of.
use Rattle.std.specs.Prelude.{◌≡◌, ℕ, true, List, [], ◌∷◌, map, Some}
use Rattle.base_bytes.specs.Values.{fits_id, has_type}
use Rattle.base_bytes.specs.declared.value.Value.{Value}
use Rattle.policy_ast.specs.declared.item.Item.{Item}
use Rattle.policy_meaning.specs.Environments.{Env, Setting}
use Rattle.policy_rules.specs.Names.{Name}
use Rattle.policy_rules.specs.Scopes.{Scope}
use Rattle.policy_rules.specs.Shapes.{shapes_of, value_type_of}
use Rattle.policy_rules.specs.declared.context.Block.TheVariants as block
use Rattle.policy_rules.specs.declared.context.Context.{Context}
use Rattle.policy_rules.specs.declared.types.Named.{Named}
use Rattle.policy_rules.specs.declared.types.NamedType.{NamedType}
use Rattle.policy_rules.specs.declared.types.NamedType.TheVariants as ty

-- The value is of the type, where names of types mean items of the policy.
abbrev pub IsOf : List Item → NamedType → Value → Type 0
IsOf items t v = has_type (shapes_of items) v (value_type_of items t) ≡ true

-- The values are of these types, one by one.
abbrev pub AreOf : List Item → List NamedType → List Value → Type 0
AreOf items [] [] = Unit {0}
AreOf items (t ∷ types) (v ∷ values) = IsOf items t v × AreOf items types values
AreOf items types values = ⊥

-- The types of fields or parameters.
abbrev pub types_of : List Named → List NamedType
types_of fields = map (λ f. f.ty) fields

-- The names of a scope have values, in the same order, and each is of the type that the scope has for it.
abbrev pub Fits : List Item → Scope → Env → Type 0
Fits items [] [] = Unit {0}
Fits items (n ∷ scope) (b ∷ env) = (b.name ≡ n.name) × IsOf items n.ty b.value × Fits items scope env
Fits items scope env = ⊥

-- An identifier: 32 bytes.
abbrev pub IsId : List ℕ → Type 0
IsId bytes = fits_id bytes ≡ true

-- What a block knows beside its names is what its place may ask for: the command, whose type is its struct, with its author and its id in policy
-- and recall blocks, and the device in actions.
pub record Suits (items : List Item) (context : Context) (setting : Setting) : Type 0 where
  pub this : (command : Name) → context.this ≡ Some command → (v : Value) × (setting.this ≡ Some v) × IsOf items (ty.Struct command) v
  pub author : context.block ≡ block.Command → (id : List ℕ) × (setting.author ≡ Some id) × IsId id
  pub command_id : context.block ≡ block.Command → (id : List ℕ) × (setting.command_id ≡ Some id) × IsId id
  pub device : context.block ≡ block.Action → (id : List ℕ) × (setting.device ≡ Some id) × IsId id
