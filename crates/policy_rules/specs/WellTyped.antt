-- Well-typed policies, and the place of the fault in those that aren't.
use Rattle.std.specs.Prelude.{◌≡◌, ℕ, ◌<◌, List, map, take, slice_get, Some}
use Rattle.policy_ast.specs.declared.item.Item.{Item}
use Rattle.policy_ast.specs.declared.policy.PlacedItem.{PlacedItem}
use Rattle.policy_rules.specs.Items.{IsItem}
use Rattle.policy_rules.specs.Names.{names_of}

-- The items without their lines.
abbrev pub items_of : List PlacedItem → List Item
items_of policy = map (λ p. p.item) policy

-- The item of this number, if there is one, is well typed.
abbrev pub IsWellTypedAt : List Item → ℕ → Type 0
IsWellTypedAt items n = (i : Item) → slice_get items n ≡ Some i → IsItem items (names_of (take n items)) i

-- Each item of the policy is well typed.
abbrev pub IsWellTyped : List PlacedItem → Type 0
IsWellTyped policy = (n : ℕ) → IsWellTypedAt (items_of policy) n

-- The first item that isn't well typed begins in this line.
pub record HasTypeFault (policy : List PlacedItem) (line : ℕ) : Type 0 where
  pub number : ℕ
  pub item : PlacedItem
  pub stands : slice_get policy number ≡ Some item
  pub before : (n : ℕ) → n < number → IsWellTypedAt (items_of policy) n
  pub ill : IsWellTypedAt (items_of policy) number → ⊥
  pub begins : item.line ≡ line
