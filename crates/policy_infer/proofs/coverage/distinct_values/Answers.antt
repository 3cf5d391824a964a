use Rattle.std.proofs.Common.{◌+◌, ap, drop, map, refl}
use Rattle.policy_infer.proofs.FieldFacts.{left_at}
use Rattle.policy_infer.proofs.PatternFacts.{none_new, values_turn}
use Rattle.policy_infer.proofs.coverage.distinct_values.Goals as goal

pub loop-value-init : goal.loop-value-init
loop-value-init c = rw c.new-set.ensures (none_new (map (λ p. p.now) c.args.values.now), refl)

pub loop-value-preserved : goal.loop-value-preserved
loop-value-preserved c =
    values_turn c.loop-value.set c.insert.new.self (map (λ p. p.now) c.args.values.now) (map (λ p. p.now) (drop c.loop-value.value-index c.args.values.now)) c.value-item.result.now
    (map (λ p. p.now) (drop (c.loop-value.value-index + 1) c.args.values.now)) c.in_ok-insert.field-0
    (ap (map (λ p. p.now)) (left_at c.args.values.now c.loop-value.value-index c.value-item.result c.loop-value-test.true c.value-item.is)) c.in_ok-insert.ensures.is_new c.if-not-branch.false
    c.in_ok-insert.ensures.added c.loop-value.invariant
