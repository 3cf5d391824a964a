-- When a policy is refused.
use Rattle.std.specs.Prelude.{◌≡◌, List, Result, Ok, Err}
use Rattle.policy_ast.specs.declared.policy.PlacedItem.{PlacedItem}
use Rattle.policy_ast.specs.declared.token.Token.{Token}
use Rattle.policy_ast.specs.grammar.Policies.{IsFaultLine}
use Rattle.policy_parse.specs.declared.policy.SyntaxFault.{SyntaxFault}
use Rattle.policy_parse.specs.declared.policy.SyntaxFault.TheVariants as fault

-- the answer is this policy, unless memory runs out
abbrev pub IsTheOne : List PlacedItem → Result (List PlacedItem) SyntaxFault → Type 0
IsTheOne policy (Ok found) = found ≡ policy
IsTheOne policy (Err other) = other ≡ fault.NoMemory

-- a syntax fault names its line
abbrev pub HasCause : List Token → SyntaxFault → Type 0
HasCause tokens (fault.Syntax line) = IsFaultLine tokens line
HasCause tokens fault.NoMemory = Unit
