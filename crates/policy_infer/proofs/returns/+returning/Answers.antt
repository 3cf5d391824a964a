use Rattle.std.proofs.Common.{◌∙◌, ◌+◌, ◌-◌, ◌&&◌, ap, drop, length, sym}
use Rattle.policy_infer.proofs.ReturnFacts.{arm_turn, last_decides, last_place, match_returns}
use Rattle.policy_infer.specs.working.Returns.{arms_return}
use Rattle.policy_rules.specs.Statements.{always_returns}
use Rattle.policy_infer.proofs.returns.+returning.Goals as goal

pub always_returns-returns-in-Match : goal.always_returns-returns-in-Match
always_returns-returns-in-Match t c =
    c.arms_return.ensures ∙ sym (ap always_returns (rw c.as_slice-in-Match.ensures c.in-Match.is) ∙ match_returns c.in-Match.field-0 c.as_slice-in-Match.result.now)

pub ends_in_return-returns : goal.ends_in_return-returns
ends_in_return-returns t c =
    c.always_returns.ensures
    ∙ sym (last_decides c.args.body.now (length c.args.body.now - 1) c.index-body-body.result (last_place c.args.body.now c.is_empty.result c.is_empty.ensures c.if-is_empty.false) c.index-body-body.is)

pub arms_return-loop-arm-preserved : goal.arms_return-loop-arm-preserved
arms_return-loop-arm-preserved t c =
    sym
    (arm_turn c.args.arms.now c.loop-arm.arm-index c.arm-item.result c.as_slice-body.result.now c.index-body-body.result c.is_empty.result c.always_returns.result c.loop-arm-test.true
    c.arm-item.is c.as_slice-body.ensures c.is_empty.ensures c.if-is_empty.false c.index-body-body.is c.always_returns.ensures c.loop-arm.invariant
    ∙ ap (λ b. b && arms_return (drop (c.loop-arm.arm-index + 1) c.args.arms.now)) c.if-not-always_returns.false)

pub arms_return-returns-then-not-always_returns : goal.arms_return-returns-then-not-always_returns
arms_return-returns-then-not-always_returns t c =
    sym
    (arm_turn c.args.arms.now c.loop-arm.arm-index c.arm-item.result c.as_slice-body.result.now c.index-body-body.result c.is_empty.result c.always_returns.result c.loop-arm-test.true
    c.arm-item.is c.as_slice-body.ensures c.is_empty.ensures c.if-is_empty.false c.index-body-body.is c.always_returns.ensures c.loop-arm.invariant
    ∙ ap (λ b. b && arms_return (drop (c.loop-arm.arm-index + 1) c.args.arms.now)) c.if-not-always_returns.true)
