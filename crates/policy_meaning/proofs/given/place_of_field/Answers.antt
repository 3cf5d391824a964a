use Rattle.std.proofs.Common.{[], None, Some, ap, option_and_then, option_map, slice_get, sym, ◌∙◌}
use Rattle.std.specs.Prelude.{position, unwrap_or}
use Rattle.std.specs.Option.{option_copied}
use Rattle.std.specs.Str.{bytes_eq}
use Rattle.policy_meaning.proofs.NumberFacts.{stands_placed}
use Rattle.policy_meaning.specs.Values.{field_names}
use Rattle.policy_meaning.proofs.given.place_of_field.Goals as goal

pub returns-in-Some-field_name-clause-place : goal.returns-in-Some-field_name-clause-place
returns-in-Some-field_name-clause-place c =
    let stands = stands_placed c.args.policy.now c.args.number (Some c.in-Some.placed.now)
    (sym (ap option_copied c.in-Some.is) ∙ c.at.ensures ∙ ap (λ ps. slice_get ps c.args.number) c.items.ensures.value) in
    c.place_of.ensures.place
    ∙ ap (option_and_then (λ name. position (λ g. bytes_eq name g.0) c.args.given.now))
    (sym (ap option_copied c.in-Some-field_name.is) ∙ c.field_name.ensures ∙ sym (ap (λ o. slice_get (unwrap_or (option_map field_names o) []) c.args.place) stands))

pub returns-in-None-field_name-clause-place : goal.returns-in-None-field_name-clause-place
returns-in-None-field_name-clause-place c =
    let stands = stands_placed c.args.policy.now c.args.number (Some c.in-Some.placed.now)
    (sym (ap option_copied c.in-Some.is) ∙ c.at.ensures ∙ ap (λ ps. slice_get ps c.args.number) c.items.ensures.value) in
    ap (option_and_then (λ name. position (λ g. bytes_eq name g.0) c.args.given.now))
    (sym (ap option_copied c.in-None-field_name.is) ∙ c.field_name.ensures ∙ sym (ap (λ o. slice_get (unwrap_or (option_map field_names o) []) c.args.place) stands))

pub returns-in-None-clause-place : goal.returns-in-None-clause-place
returns-in-None-clause-place c =
    let stands = stands_placed c.args.policy.now c.args.number None
    (sym (ap option_copied c.in-None.is) ∙ c.at.ensures ∙ ap (λ ps. slice_get ps c.args.number) c.items.ensures.value) in
    ap (λ o. option_and_then (λ name. position (λ g. bytes_eq name g.0) c.args.given.now) (slice_get (unwrap_or (option_map field_names o) []) c.args.place)) (sym stands)
