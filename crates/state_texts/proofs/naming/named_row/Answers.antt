use Rattle.std.proofs.Common.{◌≡◌, ◌+◌, ◌++◌, Some, None, drop, slice_get, ap, sym, rules, ◌∙◌}
use Rattle.std.specs.Option.{option_copied}
use Rattle.policy_rules.specs.WellTyped.{items_of}
use Rattle.state_texts.specs.Naming.{named_values, names_in}
use Rattle.state_texts.proofs.NamingFacts.{names_done, pair_more, values_done}
use Rattle.state_texts.proofs.naming.named_row.Goals as goal

pub returns-in_default : goal.returns-in_default
returns-in_default c =
    let none : slice_get (names_in c.args.fields.now) c.loop-i.i ≡ None = sym c.name_at.ensures ∙ ap option_copied c.in_default.is in
    names_done (items_of c.args.items.now) (names_in c.args.fields.now) c.args.values.now c.loop-i.i c.loop-i.all _ none c.loop-i.invariant

pub loop-i-preserved : goal.loop-i-preserved
loop-i-preserved c =
    let items = items_of c.args.items.now in
    let names = names_in c.args.fields.now in
    let at : slice_get names c.loop-i.i ≡ Some c.in-Some.name.now = sym c.name_at.ensures ∙ ap option_copied c.in-Some.is in
    let same : c.in_ok-name.name ≡ c.in-Some.name.now = search rules in
    let gives = c.in_ok-named.ensures in
    ap (λ all. all ++ named_values items (drop (c.loop-i.i + 1) names) (drop (c.loop-i.i + 1) c.args.values.now)) c.in_ok-push.ensures.ok
    ∙ pair_more items names c.args.values.now c.loop-i.i c.in-Some.name.now c.index-values-i.result c.in_ok-name.name c.in_ok-named.field-0 c.loop-i.all _ at (search rules) c.index-values-i.is same gives c.loop-i.invariant

pub returns : goal.returns
returns c = values_done (items_of c.args.items.now) (names_in c.args.fields.now) c.args.values.now c.loop-i.i c.loop-i.all _ (search rules) c.loop-i.invariant
