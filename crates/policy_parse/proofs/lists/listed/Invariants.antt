use Rattle.std.proofs.Common.{◌≡◌, ◌-◌, length}
use Rattle.policy_ast.specs.declared.token.TokenKind.TheVariants.{Symbol}
use Rattle.policy_ast.specs.grammar.Policies.{kinds}
use Rattle.policy_ast.proofs.grammar.Reading.{listed, listed_more}
use Rattle.policy_parse.proofs.lists.listed.Given as goal

abbrev pub invariant-loop : goal.invariant-loop
invariant-loop g l = listed_more (Symbol l.close) (g.M.Member.reads l.limit) (length l.tokens - l.counter) l.found (kinds l.rest) ≡ listed (Symbol l.close) (g.M.Member.reads l.limit) (kinds l.tokens)
