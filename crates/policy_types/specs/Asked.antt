-- What patterns ask for.
use Rattle.std.specs.Prelude.{◌≡◌, true, List, Some}
use Rattle.fact_store.specs.Rows.{are_keys}
use Rattle.fact_store.specs.declared.wanted.Wanted.{Wanted}
use Rattle.policy_ast.specs.declared.item.Item.{Item}
use Rattle.policy_rules.specs.Names.{Name, number_named}

-- Rows of the fact that a name means are asked for, by key values.
pub record AsksFor (items : List Item) (fact : Name) (wanted : Wanted) : Type 0 where
  pub numbered : number_named items fact ≡ Some wanted.fact
  pub keys : are_keys wanted.keys ≡ true
