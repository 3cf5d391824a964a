-- What the laws of this crate say.
use Rattle.std.specs.Prelude.{◌≡◌, ◌<◌, ℕ, List, get_or, Option, Some, None}
use Rattle.base_bytes.specs.Reaching.{NoneReachesItself}
use Rattle.command.specs.declared.command.Command.{Command}
use Rattle.policy_ast.specs.declared.policy.PlacedItem.{PlacedItem}
use Rattle.policy_meaning.specs.Commands.{Content, IsCallOf, call_of, content_of}
use Rattle.policy_meaning.specs.declared.call.Call.{Call}
use Rattle.policy_rules.specs.Shapes.{shapes_of}
use Rattle.policy_rules.specs.WellTyped.{items_of}

-- The numbers of the payload are bytes, as those of each command in memory are.
abbrev pub HasBytes : Option Content → Type 0
HasBytes None = Unit {0}
HasBytes (Some content) = (i : ℕ) → get_or content.payload i 0 < 256

-- A command is one call by a policy, or none, and it is the one by which it is judged.
pub record HasOneCall (policy : List PlacedItem) (c : Command) : Type 0 where
  pub is_call : IsCallOf policy c (call_of policy c)
  pub only : (o : Option Call) → IsCallOf policy c o → o ≡ call_of policy c

-- The same of each command of bytes, by each policy of which no struct reaches itself, as none of a well-typed policy does.
abbrev pub CommandsHaveOneCall : List PlacedItem → Type 0
CommandsHaveOneCall policy = (c : Command) → NoneReachesItself (shapes_of (items_of policy)) → HasBytes (content_of c) → HasOneCall policy c
