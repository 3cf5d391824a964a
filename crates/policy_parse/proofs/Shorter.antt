-- What stands behind a token is shorter than what begins with it.
use Rattle.std.proofs.Common.{◌≡◌, ◌<◌, length, Some, ap, arith}
use Rattle.policy_ast.specs.declared.token.TokenKind.{TokenKind}
use Rattle.policy_ast.specs.grammar.Parts.{Kinds}
use Rattle.policy_ast.proofs.grammar.Laws.{after_some}
use Rattle.policy_ast.proofs.grammar.Reading.{after}

pub after_shorter : (t : TokenKind) (ts rest : Kinds) → after t ts ≡ Some rest → length rest < length ts
after_shorter t ts rest is = let same = ap length (after_some t ts rest is) in omega (arith, same)
