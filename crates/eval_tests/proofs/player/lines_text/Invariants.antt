use Rattle.policy_meaning.specs.Typed.{AreTyped}
use Rattle.eval_tests.proofs.player.lines_text.Given as goal

-- The rows are typed before each line.
abbrev pub invariant-loop-line : goal.invariant-loop-line
invariant-loop-line g l = AreTyped (g.R.Runner.rules l.runner) l.state.held.rows
