use Rattle.std.proofs.Common.{◌-◌, ◌+◌, length, sym, ◌∙◌, arith}
use Rattle.policy_ast.specs.declared.token.TokenKind.TheVariants.{Symbol}
use Rattle.policy_ast.specs.grammar.Policies.{kinds}
use Rattle.policy_parse.proofs.Turns.{many_goes_on}
use Rattle.policy_parse.proofs.lists.many.Goals as goal

pub loop-preserved : goal.loop-preserved
loop-preserved g c =
    rw (c.in_ok-found.ensures)
    (sym (many_goes_on (Symbol c.args.close) (g.M.Member.reads c.args.limit) (length c.args.tokens.now - c.loop.counter) (length c.args.tokens.now - (c.loop.counter + 1)) c.loop.found (kinds c.loop.rest.now) (kinds c.in_ok-one.behind.now) c.in_ok-one.one (omega (arith, c.loop-test.true)) c.in_default.ensures c.in_ok-one.ensures)
    ∙ c.loop.invariant)
