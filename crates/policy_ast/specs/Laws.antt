-- Laws over the definitions alone.
use Rattle.std.specs.Prelude.{◌≡◌, ◌≤◌, List, length}
use Rattle.policy_ast.specs.declared.policy.PlacedItem.{PlacedItem}
use Rattle.policy_ast.specs.declared.token.Token.{Token}
use Rattle.policy_ast.specs.grammar.Policies.{LongestRun, Spells}

-- Tokens spell at most one policy, which has no more items than they are. Whether or not they spell one, they begin with one
-- longest run of whole items, so a syntax fault has one place.
pub record HaveOneReading (tokens : List Token) : Type 0 where
  pub one : (a b : List PlacedItem) → Spells tokens a → Spells tokens b → a ≡ b
  pub few : (a : List PlacedItem) → Spells tokens a → length a ≤ length tokens
  pub run : (rest : List Token) × LongestRun tokens rest
  pub one_run : (a b : List Token) → LongestRun tokens a → LongestRun tokens b → a ≡ b
