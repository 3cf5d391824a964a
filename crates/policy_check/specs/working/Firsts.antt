-- The first item that isn't well typed, by its number.
use Rattle.std.specs.Prelude.{ℕ, ◌<◌, List, length}
use Rattle.policy_ast.specs.declared.item.Item.{Item}
use Rattle.policy_rules.specs.WellTyped.{IsWellTypedAt}

-- The items before this one are well typed, and it isn't.
pub record IsFirstIll (items : List Item) (number : ℕ) : Type 0 where
  pub within : number < length items
  pub before : (n : ℕ) → n < number → IsWellTypedAt items n
  pub ill : IsWellTypedAt items number → ⊥
