use Rattle.policy_depths.specs.working.Gathering.{item_passes}
use Rattle.policy_depths.proofs.Steps.{gathered_next}
use Rattle.policy_depths.proofs.chains.calls.Goals as goal

pub loop-number-preserved : goal.loop-number-preserved
loop-number-preserved c =
    let items = c.args.heads.now in
    rw c.in_ok-push.ensures.ok
    (gathered_next (item_passes items) items c.loop-number.all c.loop-number.number c.item_at-item.result.now c.in_ok-calls_of.field-0 c.item_at-item.ensures c.loop-number.invariant c.in_ok-calls_of.ensures)
