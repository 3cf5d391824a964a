use Rattle.std.proofs.Common.{◌≡◌, ℕ, ◌-◌, ◌<◌, Bool, false, List, [], ◌∷◌, length, get_or, refl, sym, ap, subst, ◌∙◌, arith}
use Rattle.indexmap.specs.IndexMap.{values}
use Rattle.command.specs.Cuts.{cuts}
use Rattle.graph_segments.specs.working.Search.{IsLooked, IsSearched}
use Rattle.graph_segments.proofs.Reading.{segment_there, segments_few}
use Rattle.graph_segments.proofs.Searching.{begun, ended, found, stepped}
use Rattle.graph_segments.proofs.segment_graph.SegmentGraph.is_found.Goals as goal

pub begun-requires : goal.begun-requires
begun-requires c =
    let g = c.args.self.now in
    let cs = values g.list.commands in
    let there = segment_there cs g.list.graph.closed c.args.newer c.args.new c.requires.new in
    omega (arith, there, segments_few cs g.list.graph.closed, g.list.graph.few)

pub loop-number-init : goal.loop-number-init
loop-number-init c =
    let g = c.args.self.now in
    let cs = values g.list.commands in
    let later = c.requires.later in
    begun cs g.list.graph.closed c.args.old c.args.older c.args.newer (c.args.new.segment - c.args.old.segment) c.in_ok-marks.marks.items c.args.new c.in_ok-marks.ensures.size c.in_ok-marks.ensures.only c.in_ok-marks.ensures.own c.requires.new
    (omega (arith, later)) (omega (arith, later))

pub look-requires-clause-segment : goal.look-requires-clause-segment
look-requires-clause-segment c =
    let g = c.args.self.now in
    let cs = values g.list.commands in
    let there = segment_there cs g.list.graph.closed c.args.newer c.args.new c.requires.new in
    omega (arith, there, c.loop-number.invariant.within, c.requires.later)

pub loop-number-preserved : goal.loop-number-preserved
loop-number-preserved c =
    let g = c.args.self.now in
    let cs = values g.list.commands in
    stepped cs g.list.graph.closed c.args.old c.args.older c.args.newer (c.args.new.segment - c.args.old.segment) c.loop-number.number c.loop-number.marks.items c.look.new.marks.items c.loop-number-test.true c.loop-number.invariant
    (subst (λ k. IsLooked cs c.args.old k c.loop-number.number c.loop-number.marks.items c.look.new.marks.items) c.cut-limit.ensures c.look.ensures)

mark_read : (marks : List Bool) (b : Bool) → 0 < length marks → b ≡ get_or marks 0 b → b ≡ get_or marks 0 false
mark_read [] b lt is = absurd (omega (arith, lt))
mark_read (m ∷ marks) b lt is = is

pub returns-then-index : goal.returns-then-index
returns-then-index c = λ x y at there.
    let g = c.args.self.now in
    let cs = values g.list.commands in
    let marks = c.loop-number.marks.items in
    let now = c.loop-number.invariant in
    let is : c.index.result.now ≡ get_or marks 0 false = mark_read marks c.index.result.now (let size = now.size in omega (arith, size)) c.index.ensures in (
      (λ h. found cs g.list.graph.closed c.args.old c.args.older c.args.newer (c.args.new.segment - c.args.old.segment) c.loop-number.number marks x y c.requires.order now at there c.requires.old (sym is ∙ c.if-index.true)),
      (λ a. refl),
    )

pub returns : goal.returns
returns c = λ x y at there.
    let g = c.args.self.now in
    let cs = values g.list.commands in
    let closed = g.list.graph.closed in
    let later = c.requires.later in
    let last = c.args.new.segment - c.args.old.segment in
    let marks = c.loop-number.marks.items in
    let now = c.loop-number.invariant in
    let none : c.loop-number.number ≡ 0 = let no = c.loop-number-test.false in omega (arith, no) in
    let is : c.index-2.result.now ≡ get_or marks 0 false = mark_read marks c.index-2.result.now (let size = now.size in omega (arith, size)) c.index-2.ensures in (
      (λ h. found cs closed c.args.old c.args.older c.args.newer last c.loop-number.number marks x y c.requires.order now at there c.requires.old (sym is ∙ h)),
      (λ a. is ∙ ended cs closed c.args.old c.args.older c.args.newer last marks x y c.args.new
          (subst (λ n. IsSearched cs c.args.old (get_or (cuts cs) c.args.older 0) c.args.newer last n marks) none now) at there c.requires.old c.requires.new (omega (arith, later)) (omega (arith, later)) a),
    )
