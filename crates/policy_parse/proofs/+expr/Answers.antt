use Rattle.std.proofs.Common.{◌-◌, ◌+◌, length, false, sym, ◌∙◌, arith}
use Rattle.policy_ast.specs.declared.token.TokenKind.TheVariants.{Symbol}
use Rattle.policy_ast.specs.grammar.Expressions.{whole}
use Rattle.policy_ast.specs.grammar.Fixed.{close_paren, colon}
use Rattle.policy_ast.specs.grammar.Policies.{kinds}
use Rattle.policy_ast.proofs.grammar.ReadingExpressions.{bind_over, free_over, let_over, read_expr}
use Rattle.policy_parse.proofs.Turns.{listed_goes_on, many_goes_on}
use Rattle.policy_parse.proofs.+expr.Goals as goal

pub patterns::arguments-loop-preserved : goal.patterns::arguments-loop-preserved
patterns::arguments-loop-preserved t c =
    let parts = rw c.in-Comma.is at c.in_ok-behind.ensures in
    rw (c.in_ok-found.ensures, c.unboxed.ensures)
    (sym (listed_goes_on close_paren (read_expr c.args.limit (whole false)) (length c.args.tokens.now - c.loop.counter) (length c.args.tokens.now - (c.loop.counter + 1)) c.loop.found (kinds c.loop.rest.now) (kinds c.in_ok-one.behind.now) (kinds c.in-Comma.behind.now) c.in_ok-one.one
    (omega (arith, c.loop-test.true)) c.in_default.ensures c.in_ok-one.ensures parts.0 parts.1)
    ∙ c.loop.invariant)

pub patterns::binds-loop-preserved : goal.patterns::binds-loop-preserved
patterns::binds-loop-preserved t c =
    let parts = rw c.in-Comma.is at c.in_ok-behind.ensures in
    rw (c.in_ok-found.ensures)
    (sym (listed_goes_on (Symbol c.args.close) (bind_over (read_expr c.args.limit) c.args.limit) (length c.args.tokens.now - c.loop.counter) (length c.args.tokens.now - (c.loop.counter + 1)) c.loop.found (kinds c.loop.rest.now) (kinds c.in_ok-one.behind.now) (kinds c.in-Comma.behind.now) c.in_ok-one.one
    (omega (arith, c.loop-test.true)) c.in_default.ensures c.in_ok-one.ensures parts.0 parts.1)
    ∙ c.loop.invariant)

pub patterns::frees-loop-preserved : goal.patterns::frees-loop-preserved
patterns::frees-loop-preserved t c =
    let parts = rw c.in-Comma.is at c.in_ok-behind.ensures in
    rw (c.in_ok-found.ensures)
    (sym (listed_goes_on (Symbol c.args.close) (free_over (read_expr c.args.limit) c.args.limit) (length c.args.tokens.now - c.loop.counter) (length c.args.tokens.now - (c.loop.counter + 1)) c.loop.found (kinds c.loop.rest.now) (kinds c.in_ok-one.behind.now) (kinds c.in-Comma.behind.now) c.in_ok-one.one
    (omega (arith, c.loop-test.true)) c.in_default.ensures c.in_ok-one.ensures parts.0 parts.1)
    ∙ c.loop.invariant)

pub if_expressions::lets-loop-preserved : goal.if_expressions::lets-loop-preserved
if_expressions::lets-loop-preserved t c =
    rw (c.in_ok-found.ensures)
    (sym (many_goes_on colon (let_over (read_expr c.args.limit) c.args.limit) (length c.args.tokens.now - c.loop.counter) (length c.args.tokens.now - (c.loop.counter + 1)) c.loop.found (kinds c.loop.rest.now) (kinds c.in_ok-one.behind.now) c.in_ok-one.one (omega (arith, c.loop-test.true)) c.in_default.ensures c.in_ok-one.ensures)
    ∙ c.loop.invariant)
