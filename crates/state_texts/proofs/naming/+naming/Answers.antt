use Rattle.std.proofs.Common.{◌≡◌, ◌+◌, ◌++◌, Some, None, drop, slice_get, ap, sym, rules, ◌∙◌}
use Rattle.std.specs.Option.{option_copied}
use Rattle.policy_meaning.specs.Values.{field_names}
use Rattle.policy_rules.specs.WellTyped.{items_of}
use Rattle.state_texts.specs.Naming.{named_values}
use Rattle.state_texts.proofs.NamingFacts.{names_done, pair_more, values_done}
use Rattle.state_texts.proofs.naming.+naming.Goals as goal

pub named_fields-returns-in_default : goal.named_fields-returns-in_default
named_fields-returns-in_default n c =
    let none : slice_get (field_names c.args.item.now) c.loop-i.i ≡ None = sym c.field_name.ensures ∙ ap option_copied c.in_default.is in
    names_done (items_of c.args.items.now) (field_names c.args.item.now) c.args.values.now c.loop-i.i c.loop-i.all _ none c.loop-i.invariant

pub named_fields-loop-i-preserved : goal.named_fields-loop-i-preserved
named_fields-loop-i-preserved n c =
    let items = items_of c.args.items.now in
    let names = field_names c.args.item.now in
    let at : slice_get names c.loop-i.i ≡ Some c.in-Some.name.now = sym c.field_name.ensures ∙ ap option_copied c.in-Some.is in
    let same : c.in_ok-name.name ≡ c.in-Some.name.now = search rules in
    let gives = c.in_ok-named.ensures in
    ap (λ all. all ++ named_values items (drop (c.loop-i.i + 1) names) (drop (c.loop-i.i + 1) c.args.values.now)) c.in_ok-push.ensures.ok
    ∙ pair_more items names c.args.values.now c.loop-i.i c.in-Some.name.now c.index-values-i.result c.in_ok-name.name c.in_ok-named.field-0 c.loop-i.all _ at (search rules) c.index-values-i.is same gives c.loop-i.invariant

pub named_fields-returns : goal.named_fields-returns
named_fields-returns n c = values_done (items_of c.args.items.now) (field_names c.args.item.now) c.args.values.now c.loop-i.i c.loop-i.all _ (search rules) c.loop-i.invariant
