use Rattle.std.proofs.Common.{◌≡◌, ◌≤◌, length, subst, sym, ◌∙◌}
use Rattle.command.specs.Kinds.{parents_of}
use Rattle.braid.specs.working.Links.{AreNumbers, IsLeftId, left_of, listed_links, places_of}
use Rattle.braid.specs.working.Placing.{AddsWhere}
use Rattle.braid.proofs.Linking.{both_adds, both_numbers}
use Rattle.braid.proofs.closure.add_parents.Goals as goal

pub returns-clause-adds : goal.returns-clause-adds
returns-clause-adds g c = λ skip skips.
    let cs = g.G.Graph.commands c.args.graph.now in
    let same : c.as_slice-ids.result.now ≡ parents_of c.args.command.now = c.as_slice-ids.ensures.value ∙ c.parents-parents.ensures in
    let few = subst (λ l. length l ≤ 2) (sym c.as_slice-ids.ensures.value) c.as_slice-ids.ensures.few in
    subst (λ l. AddsWhere (IsLeftId cs skip) cs l c.args.places.now.keys c.add_nth-2.new.places.keys) same
    (both_adds (IsLeftId cs skip) cs c.as_slice-ids.result.now c.args.places.now.keys c.add_nth.new.places.keys c.add_nth-2.new.places.keys few (c.in_ok-left.ensures.adds skip skips) (c.in_ok-right.ensures.adds skip skips))

pub returns-clause-links : goal.returns-clause-links
returns-clause-links g c = λ skip skips.
    let cs = g.G.Graph.commands c.args.graph.now in
    let same : c.as_slice-ids.result.now ≡ parents_of c.args.command.now = c.as_slice-ids.ensures.value ∙ c.parents-parents.ensures in
    let few = subst (λ l. length l ≤ 2) (sym c.as_slice-ids.ensures.value) c.as_slice-ids.ensures.few in
    subst (λ l. AreNumbers c.add_nth-2.new.places.keys (listed_links (record { left = c.in_ok-left.left; right = c.in_ok-right.right })) (left_of skip (places_of cs l))) same
    (both_numbers (IsLeftId cs skip) cs skip c.as_slice-ids.result.now c.add_nth.new.places.keys c.add_nth-2.new.places.keys c.in_ok-left.left c.in_ok-right.right few (c.in_ok-right.ensures.adds skip skips) (c.in_ok-left.ensures.number skip skips) (c.in_ok-right.ensures.number skip skips))
