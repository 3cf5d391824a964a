use Rattle.std.proofs.Common.{sym, ◌∙◌}
use Rattle.policy_eval.proofs.Running.{ended_early}
use Rattle.policy_eval.proofs.flow.block_end.Goals as goal

pub returns-then-not-goes : goal.returns-then-not-goes
returns-then-not-goes c = λ does before turns left is p. ended_early (sym c.goes.ensures ∙ c.if-not-goes.true) p
