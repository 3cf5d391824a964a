-- What arguments resolve to is of the types that they are resolved at.
use Rattle.std.specs.Prelude.{◌≡◌, ℕ, true, List, [], ◌∷◌, slice_get, Some}
use Rattle.base_bytes.specs.Values.{has_type}
use Rattle.base_bytes.specs.declared.arg.Arg.{Arg}
use Rattle.base_bytes.specs.declared.ty.Ty.{Ty}
use Rattle.base_bytes.specs.declared.value.Value.{Value}
use Rattle.policy_ast.specs.declared.field.Field.{Field}
use Rattle.policy_ast.specs.declared.item.Item.{Item}
use Rattle.policy_ast.specs.declared.item.Item.TheVariants as item
use Rattle.policy_ast.specs.declared.policy.PlacedItem.{PlacedItem}
use Rattle.policy_ast.specs.declared.statement.Stmt.{Stmt}
use Rattle.policy_meaning.specs.Resolving.{resolved}
use Rattle.policy_meaning.specs.Typed.{IsActionOf}
use Rattle.policy_rules.specs.Names.{Name}
use Rattle.policy_rules.specs.Shapes.{field_value_types, shapes_of}
use Rattle.policy_rules.specs.WellTyped.{items_of}

-- The arguments resolve to these values, each at the type of its place.
abbrev pub ResolveTo : List Item → List Ty → List Arg → List Value → Type 0
ResolveTo items [] [] [] = Unit {0}
ResolveTo items (t ∷ types) (a ∷ arguments) (v ∷ values) = (resolved items a t ≡ Some v) × ResolveTo items types arguments values
ResolveTo items types arguments values = ⊥

-- A value that an argument resolves to is of the type, and arguments that resolve at the types of an action's parameters are those of the action.
pub record ResolvesTyped (policy : List PlacedItem) : Type 0 where
  pub one : (argument : Arg) (t : Ty) (v : Value) → resolved (items_of policy) argument t ≡ Some v → has_type (shapes_of (items_of policy)) v t ≡ true
  pub of_actions : (action : ℕ) (name : Name) (parameters : List Field) (body : List Stmt) → slice_get (items_of policy) action ≡ Some (item.Action name parameters body)
      → (arguments : List Arg) (values : List Value) → ResolveTo (items_of policy) (field_value_types (items_of policy) parameters) arguments values → IsActionOf policy action values
