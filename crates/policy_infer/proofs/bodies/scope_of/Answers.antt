use Rattle.policy_infer.proofs.ParameterFacts.{free_at, scope_more}
use Rattle.policy_infer.proofs.bodies.scope_of.Goals as goal

pub push-requires : goal.push-requires
push-requires c =
    free_at c.loop-parameter.scope c.args.parameters.now c.loop-parameter.parameter-index c.parameter-item.result c.loop-parameter.invariant.0 c.loop-parameter.invariant.1
    c.loop-parameter-test.true c.parameter-item.is

pub loop-parameter-preserved : goal.loop-parameter-preserved
loop-parameter-preserved c = (
  c.loop-parameter.invariant.0,
  rw (c.in_ok-push.ensures.added, c.in_ok-t.ensures)
      (scope_more c.loop-parameter.scope c.args.parameters.now c.loop-parameter.parameter-index c.parameter-item.result c.loop-parameter.invariant.1 c.loop-parameter-test.true c.parameter-item.is),
)
