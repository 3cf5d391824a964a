use Rattle.policy_eval.proofs.ActArms.{posted_on}
use Rattle.policy_eval.proofs.acting.bring.Goals as goal

pub returns-clause-acts : goal.returns-clause-acts
returns-clause-acts g c =
    posted_on g.P.Desk.publishes (g.P.Desk.policy c.args.desk.now) c.args.command c.args.fields c.in_ok-posted.posted c.posted_as.result c.posted_as.ensures
    c.args.desk.now c.publish.new.self (g.F.FactBase.rows c.args.facts.now) (g.F.FactBase.rows c.publish.new.facts) c.args.steps.now c.publish.new.steps c.in_ok-posted.ensures.publishes c.in_ok-posted.ensures.stay c.in_ok-posted.ensures.typed
