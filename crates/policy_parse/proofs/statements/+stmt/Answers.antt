use Rattle.std.proofs.Common.{◌-◌, ◌+◌, length, sym, ◌∙◌, arith}
use Rattle.policy_ast.specs.grammar.Fixed.{close_brace}
use Rattle.policy_ast.specs.grammar.Policies.{kinds}
use Rattle.policy_ast.specs.grammar.Statements.{statement}
use Rattle.policy_ast.proofs.grammar.ReadingStatements.{arm_over, read_stmt}
use Rattle.policy_parse.proofs.Turns.{many_goes_on}
use Rattle.policy_parse.proofs.statements.+stmt.Goals as goal

pub statements-loop-preserved : goal.statements-loop-preserved
statements-loop-preserved t c =
    rw (c.in_ok-found.ensures, c.unboxed.ensures)
    (sym (many_goes_on close_brace (read_stmt c.args.limit statement) (length c.args.tokens.now - c.loop.counter) (length c.args.tokens.now - (c.loop.counter + 1)) c.loop.found (kinds c.loop.rest.now) (kinds c.in_ok-one.behind.now) c.in_ok-one.one (omega (arith, c.loop-test.true)) c.in_default.ensures c.in_ok-one.ensures)
    ∙ c.loop.invariant)

pub arms-loop-preserved : goal.arms-loop-preserved
arms-loop-preserved t c =
    rw (c.in_ok-found.ensures)
    (sym (many_goes_on close_brace (arm_over (read_stmt c.args.limit) c.args.limit) (length c.args.tokens.now - c.loop.counter) (length c.args.tokens.now - (c.loop.counter + 1)) c.loop.found (kinds c.loop.rest.now) (kinds c.in_ok-one.behind.now) c.in_ok-one.one (omega (arith, c.loop-test.true)) c.in_default.ensures c.in_ok-one.ensures)
    ∙ c.loop.invariant)
