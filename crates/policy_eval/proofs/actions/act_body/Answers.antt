use Rattle.std.proofs.Common.{subst, sym}
use Rattle.policy_meaning.specs.Actions.{action_setting, inside}
use Rattle.policy_meaning.specs.Blocks.{most_turns}
use Rattle.policy_eval.proofs.ActionEnds.{body_goes, body_on}
use Rattle.policy_eval.specs.working.Acting.{Acts, GoesWell, standing}
use Rattle.policy_eval.specs.working.Deeds.{deeds}
use Rattle.policy_eval.proofs.actions.act_body.Goals as goal

pub act_block-requires-clause-goes : goal.act_block-requires-clause-goes
act_block-requires-clause-goes g c =
    subst (λ setting. GoesWell (g.P.Desk.policy c.args.desk.now) (inside (deeds c.args.known.now setting c.args.body.now) c.in_ok-env.env) (g.F.FactBase.rows c.args.facts.now) most_turns) (sym c.of_action-setting.ensures)
    (subst (λ env. GoesWell (g.P.Desk.policy c.args.desk.now) (inside (deeds c.args.known.now (action_setting c.args.device.now) c.args.body.now) env) (g.F.FactBase.rows c.args.facts.now) most_turns) (sym c.in_ok-env.ensures)
    (body_goes c.args.known.now c.args.device.now c.args.values (c.args.parameters.now, c.args.body.now) g.P.Desk.publishes (g.P.Desk.policy c.args.desk.now) (g.F.FactBase.rows c.args.facts.now) c.requires.typed c.args.desk.now c.args.steps.now c.requires.goes))

pub returns-clause-acts : goal.returns-clause-acts
returns-clause-acts g c =
    body_on c.args.known.now c.args.device.now c.args.values (c.args.parameters.now, c.args.body.now) g.P.Desk.publishes (g.P.Desk.policy c.args.desk.now) (g.F.FactBase.rows c.args.facts.now) c.requires.typed c.args.desk.now c.args.steps.now c.act_block.result c.act_block.new.env c.act_block.new.desk (g.F.FactBase.rows c.act_block.new.facts) c.act_block.new.turns c.act_block.new.steps
    (subst (λ env. Acts g.P.Desk.publishes (g.P.Desk.policy c.args.desk.now) c.act_block.result c.act_block.new.env (inside (deeds c.args.known.now (action_setting c.args.device.now) c.args.body.now) env)
    (standing c.args.desk.now (g.F.FactBase.rows c.args.facts.now) most_turns c.args.steps.now) (standing c.act_block.new.desk (g.F.FactBase.rows c.act_block.new.facts) c.act_block.new.turns c.act_block.new.steps)) c.in_ok-env.ensures
    (subst (λ setting. Acts g.P.Desk.publishes (g.P.Desk.policy c.args.desk.now) c.act_block.result c.act_block.new.env (inside (deeds c.args.known.now setting c.args.body.now) c.in_ok-env.env)
    (standing c.args.desk.now (g.F.FactBase.rows c.args.facts.now) most_turns c.args.steps.now) (standing c.act_block.new.desk (g.F.FactBase.rows c.act_block.new.facts) c.act_block.new.turns c.act_block.new.steps)) c.of_action-setting.ensures
    c.act_block.ensures.acts))
