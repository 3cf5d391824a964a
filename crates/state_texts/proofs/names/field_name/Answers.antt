use Rattle.std.proofs.Common.{◌-◌, ap, arith, map, slice_get, sym, ◌∙◌}
use Rattle.policy_meaning.proofs.ArgumentFacts.{back_get, front_get}
use Rattle.policy_meaning.specs.Values.{field_names}
use Rattle.state_texts.proofs.names.field_name.Goals as goal

pub returns-then-place-len : goal.returns-then-place-len
returns-then-place-len c =
    c.name_at-then-place-len.ensures ∙ ap (λ fields. slice_get (map (λ f. f.name) fields) c.args.place) c.as_slice-then-place-len.ensures
    ∙ sym (front_get (λ f. f.name) c.in-Fact.keys c.in-Fact.values c.args.place (omega (arith, c.if-place-len.true, c.len.ensures)))
    ∙ sym (ap (λ i. slice_get (field_names i) c.args.place) c.in-Fact.is)

pub returns-else-place-len : goal.returns-else-place-len
returns-else-place-len c =
    c.name_at-else-place-len.ensures ∙ ap (λ fields. slice_get (map (λ f. f.name) fields) (c.args.place - c.len-else-place-len.result)) c.as_slice-else-place-len.ensures
    ∙ sym (back_get (λ f. f.name) c.in-Fact.keys c.in-Fact.values c.args.place (c.args.place - c.len-else-place-len.result)
    (omega (arith, c.if-place-len.false, c.len.ensures, c.len-else-place-len.ensures)))
    ∙ sym (ap (λ i. slice_get (field_names i) c.args.place) c.in-Fact.is)
