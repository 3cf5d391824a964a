use Rattle.std.proofs.Common.{get_or, arith, subst}
use Rattle.braid.proofs.Skipping.{all_tips, one_more_tip}
use Rattle.braid.proofs.closure.tip_places.Goals as goal

pub loop-tip-preserved : goal.loop-tip-preserved
loop-tip-preserved g c = λ skip skips.
    one_more_tip skip c.args.tips.now c.loop-tip.places.keys c.add_tip.new.places.keys c.loop-tip.tip-index c.loop-tip-test.true (c.loop-tip.invariant skip skips) (c.in_ok-add_tip.ensures skip skips)

pub returns : goal.returns
returns g c = λ skip skips. all_tips skip c.args.tips.now c.loop-tip.places.keys c.loop-tip.tip-index (omega (arith, c.loop-tip-test.false)) (c.loop-tip.invariant skip skips)
