-- What the readers of items answer.
use Rattle.std.specs.Prelude.{List}
use Rattle.std.specs.Borrow.{Bor}
use Rattle.policy_ast.specs.declared.policy.PlacedItem.{PlacedItem}
use Rattle.policy_ast.specs.declared.token.Token.{Token}

-- an item, and the tokens that are left
abbrev pub placed_read : PlacedItem × Bor (List Token) → PlacedItem × List Token
placed_read p = (p.0, p.1.now)

-- items, and the tokens that are left
abbrev pub run_read : List PlacedItem × Bor (List Token) → List PlacedItem × List Token
run_read run = (run.0, run.1.now)
