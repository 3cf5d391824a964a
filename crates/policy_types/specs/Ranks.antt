-- Ranks of what can be called: a function calls only what is of a smaller rank, so none reaches itself.
use Rattle.std.specs.Prelude.{◌≡◌, ℕ, true, nat_le, nat_lt, List, slice_get, Some}
use Rattle.policy_ast.specs.declared.item.Item.{Item}
use Rattle.policy_ast.specs.declared.policy.PlacedItem.{PlacedItem}
use Rattle.policy_rules.specs.Calls.{Callee, called_calls, item_calls, longest_chain}
use Rattle.policy_rules.specs.Names.{Name, item_named}
use Rattle.policy_rules.specs.WellTyped.{items_of}

-- Each function and each finish function has a rank: what stands in its body calls only what is of a smaller one, and what is called anywhere in an
-- item is of a rank of at most the longest chain of calls.
pub record HasRanks (policy : List PlacedItem) : Type 0 where
  pub rank : Callee → Name → ℕ
  pub falls : (callee : Callee) (name : Name) → called_calls (λ inner other. nat_lt (rank inner other) (rank callee name)) callee (item_named (items_of policy) name) ≡ true
  pub bounded : (n : ℕ) (i : Item) → slice_get (items_of policy) n ≡ Some i → item_calls (λ inner other. nat_le (rank inner other) longest_chain) i ≡ true
