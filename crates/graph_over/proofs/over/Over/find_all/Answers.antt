use Rattle.std.proofs.Common.{◌≡◌, ℕ, ◌<◌, List, ◌++◌, length, get_or, slice_get, Some, ap, subst, sym, ◌∙◌, arith}
use Rattle.std.proofs.lemmas.List.{take_all}
use Rattle.std.proofs.lemmas.Option.{slice_get-get_or}
use Rattle.command.proofs.ListFacts.{none_element}
use Rattle.command.proofs.PlaceFacts.{inside_at}
use Rattle.graph_set.specs.working.Walks.{IsNumbered, MarksWhere}
use Rattle.graph_set.proofs.WalkFacts.{more_ids, none_new}
use Rattle.graph_over.proofs.over.Over.find_all.Goals as goal

at_index : (ids : List (List ℕ)) (i : ℕ) (id : List ℕ) → i < length ids → id ≡ get_or ids i id → slice_get ids i ≡ Some id
at_index ids i id lt is = slice_get-get_or ids i id lt ∙ ap Some (sym is)

pub loop-id-init : goal.loop-id-init
loop-id-init g c = none_new _ c.args.walk.now.marks.items c.args.walk.now.due.items (λ k n. absurd (none_element n.0 n.1))

pub find-requires : goal.find-requires
find-requires g c = λ p is.
    let ids = c.args.ids.now in
    let inside = inside_at ids c.loop-id.id-index c.id-item.result (at_index ids c.loop-id.id-index c.id-item.result c.loop-id-test.true c.id-item.is) in
    let lt = c.requires c.id-item.result p inside is in
    omega (arith, lt, c.loop-id.invariant.size)

pub loop-id-preserved : goal.loop-id-preserved
loop-id-preserved g c =
    let ids = c.args.ids.now in
    more_ids (g.G.Graph.commands c.args.self.now.base.now ++ c.args.self.now.added.items) c.args.older ids c.loop-id.id-index c.id-item.result (at_index ids c.loop-id.id-index c.id-item.result c.loop-id-test.true c.id-item.is) c.args.walk.now.marks.items c.args.walk.now.due.items
    c.loop-id.walk.marks.items c.loop-id.walk.due.items c.find.new.walk.marks.items c.find.new.walk.due.items c.loop-id.invariant c.in_ok-find.ensures

pub returns : goal.returns
returns g c =
    let all = take_all c.loop-id.id-index c.args.ids.now (omega (arith, c.loop-id-test.false)) in
    subst (λ l. MarksWhere (IsNumbered (g.G.Graph.commands c.args.self.now.base.now ++ c.args.self.now.added.items) c.args.older l) c.args.walk.now.marks.items c.args.walk.now.due.items c.loop-id.walk.marks.items c.loop-id.walk.due.items) all c.loop-id.invariant
