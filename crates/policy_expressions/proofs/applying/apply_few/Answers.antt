use Rattle.std.proofs.Common.{◌≡◌, List, [], arith, rules, subst, sym}
use Rattle.std.proofs.lemmas.List.{nil_from_length}
use Rattle.std.proofs.lemmas.Result.{err_from_is_err_and}
use Rattle.policy_expressions.proofs.FewWrites.{few_begin, few_ends, few_on, few_pass, few_stop}
use Rattle.policy_expressions.specs.working.FewWrites.{FewSoFar}
use Rattle.policy_meaning.specs.declared.effect.Effect.{Effect}
use Rattle.policy_expressions.proofs.applying.apply_few.Goals as goal

pub loop-change-init : goal.loop-change-init
loop-change-init g c =
    let same : c.into_iter-change-iterator.result.rest.items ≡ c.args.changes = search rules in
    subst (λ effects. FewSoFar c.args.changes c.into_iter-change-iterator.result.rest.items (g.F.FactBase.rows c.args.facts.now) (g.F.FactBase.rows c.args.facts.now) effects) (sym c.new-effects.ensures)
    (subst (λ left. FewSoFar c.args.changes left (g.F.FactBase.rows c.args.facts.now) (g.F.FactBase.rows c.args.facts.now) []) (sym same) (few_begin c.args.changes (g.F.FactBase.rows c.args.facts.now) c.requires.few))

pub returns-in_err-apply-clause-ends : goal.returns-in_err-apply-clause-ends
returns-in_err-apply-clause-ends g c =
    let p = err_from_is_err_and c.from_residual.result c.from_residual.ensures.1 in
    rw (p.1, p.2) (few_ends (subst (λ left. FewSoFar c.args.changes left (g.F.FactBase.rows c.args.facts.now) (g.F.FactBase.rows c.loop-change.facts) c.loop-change.effects) c.in-Some.ensures.steps.0 c.loop-change.invariant) c.in_err-apply.field-0.0 (g.F.FactBase.rows c.apply.new.facts) c.apply.new.effects c.in_err-apply.ensures.applies)

pub returns-in_err-apply-clause-rows : goal.returns-in_err-apply-clause-rows
returns-in_err-apply-clause-rows g c =
    let p = err_from_is_err_and c.from_residual.result c.from_residual.ensures.1 in
    rw (p.1, p.2) (few_stop (subst (λ left. FewSoFar c.args.changes left (g.F.FactBase.rows c.args.facts.now) (g.F.FactBase.rows c.loop-change.facts) c.loop-change.effects) c.in-Some.ensures.steps.0 c.loop-change.invariant) (List Effect) c.in_err-apply.field-0.0 (g.F.FactBase.rows c.apply.new.facts) c.apply.new.effects c.in_err-apply.ensures.applies c.in_err-apply.ensures.rows)

pub loop-change-preserved : goal.loop-change-preserved
loop-change-preserved g c = few_on (subst (λ left. FewSoFar c.args.changes left (g.F.FactBase.rows c.args.facts.now) (g.F.FactBase.rows c.loop-change.facts) c.loop-change.effects) c.in-Some.ensures.steps.0 c.loop-change.invariant) (g.F.FactBase.rows c.apply.new.facts) c.apply.new.effects c.in_ok-apply.ensures.applies

pub returns-clause-ends : goal.returns-clause-ends
returns-clause-ends g c =
    let none : c.loop-change.change-iterator.rest.items ≡ [] = nil_from_length c.loop-change.change-iterator.rest.items (omega (arith, c.in-None.ensures.steps.0, c.loop-change.change-iterator.rest.ok)) in
    few_pass c.loop-change.invariant none
