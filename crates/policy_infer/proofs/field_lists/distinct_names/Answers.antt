use Rattle.std.proofs.Common.{◌+◌, ap, drop, map}
use Rattle.policy_infer.proofs.FieldFacts.{left_at, names_turn}
use Rattle.policy_infer.proofs.field_lists.distinct_names.Goals as goal

pub loop-bind-preserved : goal.loop-bind-preserved
loop-bind-preserved c =
    names_turn c.loop-bind.names c.insert.new.self (map (λ b. b.name) c.args.binds.now) (map (λ b. b.name) (drop c.loop-bind.bind-index c.args.binds.now)) c.bind-item.result.name
    (map (λ b. b.name) (drop (c.loop-bind.bind-index + 1) c.args.binds.now)) c.in_ok-insert.field-0
    (ap (map (λ b. b.name)) (left_at c.args.binds.now c.loop-bind.bind-index c.bind-item.result c.loop-bind-test.true c.bind-item.is)) c.in_ok-insert.ensures.is_new c.if-not-branch.false
    c.in_ok-insert.ensures.added c.loop-bind.invariant
