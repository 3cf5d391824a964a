use Rattle.std.proofs.Common.{◌+◌, ◌++◌, inl, inr, false, length, get_or, subst, sym, ap, ◌∙◌, arith}
use Rattle.graph_set.specs.working.Walks.{IsWalked}
use Rattle.graph_set.proofs.WalkFacts.{due_within, ended, looked, met, parent_before}
use Rattle.graph_over.proofs.over.Over.is_found.Goals as goal

pub overflow_add-older : goal.overflow_add-older
overflow_add-older g c =
    let now = c.loop-number.invariant in
    let lt = due_within (g.G.Graph.commands c.args.self.now.base.now ++ c.args.self.now.added.items) c.args.older c.args.newer c.loop-number.walk.marks.items c.loop-number.walk.due.items c.next.new.self.due.items c.in-Some.number now c.in-Some.ensures.next in
    let few = c.args.self.now.graph.few in
    omega (arith, lt, few, c.requires.newer)

pub at-requires : goal.at-requires
at-requires g c =
    let now = c.loop-number.invariant in
    let lt = due_within (g.G.Graph.commands c.args.self.now.base.now ++ c.args.self.now.added.items) c.args.older c.args.newer c.loop-number.walk.marks.items c.loop-number.walk.due.items c.next.new.self.due.items c.in-Some.number now c.in-Some.ensures.next in
    omega (arith, lt, c.requires.newer)

pub find_parents-requires : goal.find_parents-requires
find_parents-requires g c = λ id p link is.
    let cs = g.G.Graph.commands c.args.self.now.base.now ++ c.args.self.now.added.items in
    let now = c.loop-number.invariant in
    let lt = due_within cs c.args.older c.args.newer c.loop-number.walk.marks.items c.loop-number.walk.due.items c.next.new.self.due.items c.in-Some.number now c.in-Some.ensures.next in
    let before = parent_before cs c.args.self.now.graph.closed c.args.older c.args.newer (c.args.older + c.in-Some.number) p c.at.result.now id c.at.ensures link is in
    let same = ap length c.in-Some.ensures.marks in
    let size = now.size in
    omega (arith, lt, before, same, size)

pub loop-number-preserved : goal.loop-number-preserved
loop-number-preserved g c =
    let cs = g.G.Graph.commands c.args.self.now.base.now ++ c.args.self.now.added.items in
    looked cs c.args.self.now.graph.closed c.args.older c.args.newer c.next.new.self.marks.items c.loop-number.walk.due.items c.next.new.self.due.items c.in-Some.number c.at.result.now c.find_parents.new.walk.marks.items
    c.find_parents.new.walk.due.items (subst (λ l. IsWalked cs c.args.older c.args.newer l c.loop-number.walk.due.items) (sym c.in-Some.ensures.marks) c.loop-number.invariant) c.in-Some.ensures.next c.at.ensures c.in_ok-find_parents.ensures

pub returns : goal.returns
returns g c = λ x y at there.
    let cs = g.G.Graph.commands c.args.self.now.base.now ++ c.args.self.now.added.items in
    let closed = c.args.self.now.graph.closed in
    let marks = c.loop-number.walk.marks.items in
    let now = c.loop-number.invariant in
    let is = c.is_ended.ensures ∙ ap (λ l. get_or l 0 false) c.in_default.ensures.marks in (
      (λ h. met cs closed c.args.older c.args.newer marks c.loop-number.walk.due.items x y c.requires.order now at there (sym is ∙ h)),
      (λ a. is ∙ elim c.in_default.ensures.next [
        | inl marked ↦ marked
        | inr none ↦ ended cs closed c.args.older c.args.newer marks x y c.requires.order (subst (λ l. IsWalked cs c.args.older c.args.newer marks l) none now) at there a
      ]),
    )
