use Rattle.std.proofs.Common.{◌≡◌, ◌-◌, length}
use Rattle.policy_ast.specs.declared.token.TokenKind.TheVariants.{Symbol}
use Rattle.policy_ast.specs.grammar.Policies.{kinds}
use Rattle.policy_ast.proofs.grammar.Reading.{many, many_more}
use Rattle.policy_parse.proofs.lists.many.Given as goal

abbrev pub invariant-loop : goal.invariant-loop
invariant-loop g l = many_more (Symbol l.close) (g.M.Member.reads l.limit) (length l.tokens - l.counter) l.found (kinds l.rest) ≡ many (Symbol l.close) (g.M.Member.reads l.limit) (kinds l.tokens)
