use Rattle.std.proofs.Common.{◌∙◌, sym}
use Rattle.policy_expressions.proofs.FieldFacts.{found_here, not_here}
use Rattle.policy_expressions.proofs.structs.place_named.Goals as goal

pub returns-then-eq : goal.returns-then-eq
returns-then-eq c values =
    sym (c.loop-i.invariant values) ∙ found_here c.args.fields.now values c.args.name.now c.loop-i.i c.index-fields-i.result c.loop-i-test.true c.index-fields-i.is (sym c.eq.ensures ∙ c.if-eq.true)

pub loop-i-preserved : goal.loop-i-preserved
loop-i-preserved c values =
    sym (not_here c.args.fields.now values c.args.name.now c.loop-i.i c.index-fields-i.result c.loop-i-test.true c.index-fields-i.is (sym c.eq.ensures ∙ c.if-eq.false)) ∙ c.loop-i.invariant values
