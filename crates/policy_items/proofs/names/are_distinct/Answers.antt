use Rattle.std.proofs.Common.{◌∙◌, ◌||◌, ap, sym}
use Rattle.std.specs.Str.{bytes_eq}
use Rattle.policy_rules.specs.Names.{is_among}
use Rattle.policy_items.proofs.Distinct.{among_more, distinct_more, is_new_so, not_new, repeated}
use Rattle.policy_items.proofs.names.are_distinct.Goals as goal

pub returns-then-not-branch : goal.returns-then-not-branch
returns-then-not-branch c =
    let names = c.args.names.now in
    let name = c.name-item.result in
    let i = c.loop-name.name-index in
    repeated names i name c.loop-name-test.true c.name-item.is
    (sym (c.loop-name.invariant.0 name) ∙ not_new (is_among name c.loop-name.set) c.in_ok-insert.field-0 c.in_ok-insert.ensures.is_new (sym c.if-not-branch.true))

pub loop-name-preserved : goal.loop-name-preserved
loop-name-preserved c =
    let names = c.args.names.now in
    let name = c.name-item.result in
    let i = c.loop-name.name-index in (
      λ q. c.in_ok-insert.ensures.added q ∙ ap (λ b. b || bytes_eq q name) (c.loop-name.invariant.0 q) ∙ sym (among_more names i name q c.loop-name-test.true c.name-item.is),
      distinct_more names i name c.loop-name-test.true c.name-item.is
          (sym (c.loop-name.invariant.0 name) ∙ is_new_so (is_among name c.loop-name.set) c.in_ok-insert.field-0 c.in_ok-insert.ensures.is_new (sym c.if-not-branch.false)) (c.loop-name.invariant.1),
    )
