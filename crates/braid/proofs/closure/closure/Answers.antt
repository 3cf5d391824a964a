use Rattle.std.proofs.Common.{◌≡◌, ◌+◌, length, slice_get, subst, sym, ap, ◌∙◌, arith, length-append}
use Rattle.std.proofs.lemmas.Option.{slice_get_within}
use Rattle.command.proofs.PlaceFacts.{inside_at}
use Rattle.braid.proofs.Gathering.{bounded, some_skip, start}
use Rattle.braid.specs.working.Links.{listed}
use Rattle.braid.proofs.Linking.{Linked, linked_further, linked_whole}
use Rattle.braid.proofs.closure.closure.Goals as goal

pub loop-place-init : goal.loop-place-init
loop-place-init g c = λ skip skips.
    let cs = g.G.Graph.commands c.args.graph.now in
    subst (λ l. Linked cs skip (listed c.args.base) c.args.tips.now l c.in_ok-places.places.keys) (sym c.new-links.ensures.items)
    (record { gathered = start cs skip (listed c.args.base) c.args.tips.now c.in_ok-places.places.keys skips c.requires.tips (c.in_ok-places.ensures skip skips); linked = tt })

pub at-requires : goal.at-requires
at-requires g c =
    let keys = c.loop-place.places.keys in
    let some = some_skip (g.G.Graph.commands c.args.graph.now) (g.met.G.Graph.closed c.args.graph.now) (listed c.args.base) in
    (c.loop-place.invariant some.0 some.1).gathered.within c.in-Some.place (inside_at keys c.len.result c.in-Some.place (sym c.nth_place.ensures.place ∙ c.in-Some.is))

pub loop-place-smaller : goal.loop-place-smaller
loop-place-smaller g c =
    let some = some_skip (g.G.Graph.commands c.args.graph.now) (g.met.G.Graph.closed c.args.graph.now) (listed c.args.base) in
    let keys = c.loop-place.places.keys in
    let size : c.len.result ≡ length c.loop-place.links.items = c.len.ensures ∙ c.loop-place.links.ok.0 in
    let lt = slice_get_within keys c.len.result c.in-Some.place (sym c.nth_place.ensures.place ∙ c.in-Some.is) in
    let le = bounded (g.G.Graph.commands c.args.graph.now) keys c.nth_place.ensures.distinct (c.loop-place.invariant some.0 some.1).gathered.within in
    let grown : length c.push.new.self.items ≡ length c.loop-place.links.items + 1 = ap length c.in_ok-push.ensures.items ∙ length-append c.loop-place.links.items _ in
    omega (arith, size, lt, le, grown)

pub loop-place-preserved : goal.loop-place-preserved
loop-place-preserved g c = λ skip skips.
    let keys = c.loop-place.places.keys in
    let size : c.len.result ≡ length c.loop-place.links.items = c.len.ensures ∙ c.loop-place.links.ok.0 in
    linked_further (g.G.Graph.commands c.args.graph.now) (g.met.G.Graph.closed c.args.graph.now) skip (listed c.args.base) c.args.tips.now skips c.loop-place.links.items c.push.new.self.items keys c.add_parents.new.places.keys c.in-Some.place c.at.result.now c.in_ok-add_parents.field-0
    (c.loop-place.invariant skip skips) (ap (slice_get keys) (sym size) ∙ sym c.nth_place.ensures.place ∙ c.in-Some.is) c.at.ensures (c.in_ok-add_parents.ensures.adds skip skips) (c.in_ok-add_parents.ensures.links skip skips) c.in_ok-push.ensures.items

pub returns : goal.returns
returns g c = λ skip skips.
    let keys = c.loop-place.places.keys in
    let size : c.len.result ≡ length c.loop-place.links.items = c.len.ensures ∙ c.loop-place.links.ok.0 in
    linked_whole (g.G.Graph.commands c.args.graph.now) (g.met.G.Graph.closed c.args.graph.now) skip (listed c.args.base) c.args.tips.now skips c.loop-place.links.items keys (c.loop-place.invariant skip skips) c.nth_place.ensures.distinct
    (ap (slice_get keys) (sym size) ∙ sym c.nth_place.ensures.place ∙ c.in_default.is)
