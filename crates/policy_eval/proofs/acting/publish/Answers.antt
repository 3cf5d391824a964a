use Rattle.std.proofs.Common.{◌∙◌, sym}
use Rattle.policy_meaning.specs.Values.{struct_parts}
use Rattle.policy_eval.proofs.ActArms.{parts_stick}
use Rattle.policy_eval.proofs.acting.publish.Goals as goal

pub returns-in_default-clause-acts : goal.returns-in_default-clause-acts
returns-in_default-clause-acts g c turns =
    parts_stick g.P.Desk.publishes (g.P.Desk.policy c.args.desk.now) (struct_parts c.args.value) (sym c.parts_of.ensures ∙ c.in_default.is) c.args.desk.now (g.F.FactBase.rows c.args.facts.now) turns c.args.steps.now
    c.requires.typed
