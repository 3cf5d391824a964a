use Rattle.std.proofs.Common.{arith}
use Rattle.policy_depths.specs.working.Gathering.{structs_pass}
use Rattle.policy_depths.proofs.Steps.{gathered_next, item_there}
use Rattle.policy_depths.proofs.nestings.structs.Goals as goal

pub loop-number-preserved : goal.loop-number-preserved
loop-number-preserved c =
    let items = c.args.heads.now in
    let there = item_there items c.loop-number.number (omega (arith, c.loop-number-test.true, c.len-number-end.ensures)) in
    rw c.in_ok-push.ensures.ok
    (gathered_next (structs_pass items) items c.loop-number.all c.loop-number.number (there.0) c.in_ok-structs_of.field-0 (there.1) c.loop-number.invariant (c.in_ok-structs_of.ensures (there.0) (there.1)))
