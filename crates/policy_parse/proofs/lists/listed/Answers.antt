use Rattle.std.proofs.Common.{◌-◌, ◌+◌, length, sym, ◌∙◌, arith}
use Rattle.policy_ast.specs.declared.token.TokenKind.TheVariants.{Symbol}
use Rattle.policy_ast.specs.grammar.Policies.{kinds}
use Rattle.policy_parse.proofs.Turns.{listed_goes_on}
use Rattle.policy_parse.proofs.lists.listed.Goals as goal

pub loop-preserved : goal.loop-preserved
loop-preserved g c =
    let parts = rw c.in-Comma.is at c.in_ok-behind.ensures in
    rw (c.in_ok-found.ensures)
    (sym (listed_goes_on (Symbol c.args.close) (g.M.Member.reads c.args.limit) (length c.args.tokens.now - c.loop.counter) (length c.args.tokens.now - (c.loop.counter + 1)) c.loop.found (kinds c.loop.rest.now) (kinds c.in_ok-one.behind.now) (kinds c.in-Comma.behind.now) c.in_ok-one.one
    (omega (arith, c.loop-test.true)) c.in_default.ensures c.in_ok-one.ensures parts.0 parts.1)
    ∙ c.loop.invariant)
