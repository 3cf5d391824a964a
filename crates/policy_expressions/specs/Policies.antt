-- What is known of the items of a well-typed policy.
use Rattle.std.specs.Prelude.{ℕ, ◌<◌, ◌^◌, List, [], length, slice_get, option_map, unwrap_or}
use Rattle.policy_ast.specs.declared.item.Item.{Item}
use Rattle.policy_meaning.specs.Values.{field_names}
use Rattle.policy_rules.specs.Names.{Name}
use Rattle.policy_rules.specs.WellTyped.{IsWellTypedAt}

-- They are well typed, and have numbers of 32 bits.
pub record AreItems (items : List Item) : Type 0 where
  pub few : length items < 2 ^ 32
  pub well_typed : (n : ℕ) → IsWellTypedAt items n

-- The names of the fields of the item of this number.
abbrev pub names_at : List Item → ℕ → List Name
names_at items number = unwrap_or (option_map field_names (slice_get items number)) []
