use Rattle.std.proofs.Common.{◌∙◌, Some, None, ap, subst, sym}
use Rattle.std.specs.Option.{option_copied}
use Rattle.policy_meaning.specs.Blocks.{policy_block, body_ended}
use Rattle.policy_rules.specs.WellTyped.{items_of}
use Rattle.policy_eval.proofs.EndingFacts.{ends_as, no_sections, policy_is}
use Rattle.policy_eval.specs.working.Ending.{EndsSo}
use Rattle.policy_eval.proofs.blocks.run_policy.Goals as goal

pub returns-in_default : goal.returns-in_default
returns-in_default g c = (no_sections c.args.checked.now c.args.call.now (g.F.FactBase.rows c.args.facts.now) (sym c.called_sections.ensures ∙ ap option_copied c.in_default.is)).0

pub returns-in_default-policy_body : goal.returns-in_default-policy_body
returns-in_default-policy_body g c = policy_is c.args.checked.now c.args.call.now (g.F.FactBase.rows c.args.facts.now) c.in-Some.sections.now (sym c.in-Some.ensures) None (sym c.policy_body.ensures ∙ ap option_copied c.in_default-policy_body.is)

pub returns : goal.returns
returns g c =
    ends_as c.run_block.result (policy_block c.args.checked.now c.args.call.now (g.F.FactBase.rows c.args.facts.now)) (body_ended (items_of c.args.checked.now) c.args.call.now (g.F.FactBase.rows c.args.facts.now) c.in-Some-policy_body.body.now) (g.F.FactBase.rows c.args.facts.now) (g.F.FactBase.rows c.run_block.new.facts)
    (policy_is c.args.checked.now c.args.call.now (g.F.FactBase.rows c.args.facts.now) c.in-Some.sections.now (sym c.in-Some.ensures) (Some c.in-Some-policy_body.body.now) (sym c.in-Some-policy_body.ensures))
    (subst (λ items. EndsSo c.run_block.result (body_ended items c.args.call.now (g.F.FactBase.rows c.args.facts.now) c.in-Some-policy_body.body.now) (g.F.FactBase.rows c.args.facts.now) (g.F.FactBase.rows c.run_block.new.facts)) c.in_ok-known.ensures c.run_block.ensures)
