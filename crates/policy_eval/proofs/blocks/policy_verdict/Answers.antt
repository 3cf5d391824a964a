use Rattle.std.proofs.Common.{subst}
use Rattle.policy_meaning.specs.Blocks.{policy_block}
use Rattle.policy_eval.proofs.EndingFacts.{effects_on, never_sticks, typed_on}
use Rattle.policy_eval.specs.working.Ending.{EndsSo}
use Rattle.policy_eval.proofs.blocks.policy_verdict.Goals as goal

pub verdict_of-requires : goal.verdict_of-requires
verdict_of-requires g c is =
    never_sticks c.args.checked.now (policy_block c.args.checked.now c.args.call.now (g.F.FactBase.rows c.args.facts.now))
    ((c.blocks_are_never_stuck.ensures c.args.checked.now c.args.call.now (g.F.FactBase.rows c.args.facts.now) c.policy-policy.ensures.well_typed c.requires.declared c.is_id.ensures c.is_id-2.ensures c.requires.typed).policy_block)
    (subst (λ r. EndsSo r (policy_block c.args.checked.now c.args.call.now (g.F.FactBase.rows c.args.facts.now)) (g.F.FactBase.rows c.args.facts.now) (g.F.FactBase.rows c.run_policy.new.facts)) is c.run_policy.ensures)

pub returns-clause-typed : goal.returns-clause-typed
returns-clause-typed g c =
    typed_on c.args.checked.now (policy_block c.args.checked.now c.args.call.now (g.F.FactBase.rows c.args.facts.now)) (g.F.FactBase.rows c.args.facts.now) (g.F.FactBase.rows c.run_policy.new.facts)
    ((c.blocks_are_never_stuck.ensures c.args.checked.now c.args.call.now (g.F.FactBase.rows c.args.facts.now) c.policy-policy.ensures.well_typed c.requires.declared c.is_id.ensures c.is_id-2.ensures c.requires.typed).policy_block)
    c.verdict_of.result (c.verdict_of.ensures (policy_block c.args.checked.now c.args.call.now (g.F.FactBase.rows c.args.facts.now)) (g.F.FactBase.rows c.args.facts.now) (g.F.FactBase.rows c.run_policy.new.facts) c.run_policy.ensures) c.requires.typed

pub returns-clause-effects : goal.returns-clause-effects
returns-clause-effects g c =
    effects_on c.args.checked.now (policy_block c.args.checked.now c.args.call.now (g.F.FactBase.rows c.args.facts.now)) (g.F.FactBase.rows c.args.facts.now) (g.F.FactBase.rows c.run_policy.new.facts)
    ((c.blocks_are_never_stuck.ensures c.args.checked.now c.args.call.now (g.F.FactBase.rows c.args.facts.now) c.policy-policy.ensures.well_typed c.requires.declared c.is_id.ensures c.is_id-2.ensures c.requires.typed).policy_block)
    c.verdict_of.result (c.verdict_of.ensures (policy_block c.args.checked.now c.args.call.now (g.F.FactBase.rows c.args.facts.now)) (g.F.FactBase.rows c.args.facts.now) (g.F.FactBase.rows c.run_policy.new.facts) c.run_policy.ensures)
