use Rattle.std.proofs.Common.{ap, sym, ◌∙◌, rules}
use Rattle.policy_meaning.specs.Resolving.{resolved}
use Rattle.policy_rules.specs.Shapes.{value_type_of}
use Rattle.policy_rules.specs.Types.{written_type}
use Rattle.policy_rules.specs.WellTyped.{items_of}
use Rattle.transaction.proofs.ArgumentFacts.{as_many, none_resolved, one_resolved, pushed_values}
use Rattle.transaction.proofs.DraftFacts.{left_at}
use Rattle.transaction.proofs.starting.resolved_all.Goals as goal

pub returns-then-parameters-args : goal.returns-then-parameters-args
returns-then-parameters-args c = as_many (items_of c.args.policy.now) c.args.parameters.now c.args.args.now c.if-parameters-args.true

pub returns-in-None : goal.returns-in-None
returns-in-None c =
    let items = items_of c.args.policy.now in
    let p = c.index-parameters-i.result in
    let a = c.index-args-i.result in
    none_resolved items c.args.parameters.now c.args.args.now c.loop-i.i p a (left_at c.args.parameters.now c.loop-i.i p (search rules) c.index-parameters-i.is)
    (left_at c.args.args.now c.loop-i.i a (search rules) c.index-args-i.is) c.loop-i.values _ c.loop-i.invariant.0
    (ap (λ hs. resolved items a (value_type_of hs (written_type p.field_type))) (sym c.requires.heads) ∙ ap (λ q. resolved items a (value_type_of c.args.heads.now (written_type q.field_type))) c.index-parameters-i.is ∙ ap (resolved items a) (sym c.in_ok-ty.ensures) ∙ sym c.in_ok-value.ensures ∙ c.in-None.is)

pub loop-i-preserved : goal.loop-i-preserved
loop-i-preserved c =
    let items = items_of c.args.policy.now in
    let p = c.index-parameters-i.result in
    let a = c.index-args-i.result in (
      pushed_values _ c.loop-i.values c.in-Some.value _ _ c.in_ok-push-in-Some.ensures.ok
          (one_resolved items c.args.parameters.now c.args.args.now c.loop-i.i p a (left_at c.args.parameters.now c.loop-i.i p (search rules) c.index-parameters-i.is)
          (left_at c.args.args.now c.loop-i.i a (search rules) c.index-args-i.is) c.loop-i.values _ c.loop-i.invariant.0 c.in-Some.value
          (ap (λ hs. resolved items a (value_type_of hs (written_type p.field_type))) (sym c.requires.heads) ∙ ap (λ q. resolved items a (value_type_of c.args.heads.now (written_type q.field_type))) c.index-parameters-i.is ∙ ap (resolved items a) (sym c.in_ok-ty.ensures) ∙ sym c.in_ok-value.ensures ∙ c.in-Some.is)),
      c.loop-i.invariant.1,
    )
