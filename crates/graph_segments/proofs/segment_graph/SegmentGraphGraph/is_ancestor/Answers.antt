use Rattle.std.proofs.Common.{◌≡◌, refl, sym, ap, ◌∙◌, arith}
use Rattle.command.proofs.PlaceFacts.{older_first}
use Rattle.indexmap.specs.IndexMap.{values}
use Rattle.graph_segments.proofs.Searching.{apart, together}
use Rattle.graph_segments.proofs.segment_graph.SegmentGraphGraph.is_ancestor.Goals as goal

pub returns-then-newer-older : goal.returns-then-newer-older
returns-then-newer-older c = λ x y at there.
    let g = c.args.self.now in
    ((λ h. absurd cc), (λ a. absurd (older_first (values g.list.commands) g.list.graph.closed c.args.older c.args.newer x y at there c.if-newer-older.true a)))

pub returns-then-new-old : goal.returns-then-new-old
returns-then-new-old c = λ x y at there.
    let g = c.args.self.now in
    ((λ h. absurd cc), (λ a. absurd (apart (values g.list.commands) g.list.graph.closed c.stand_of.result.0 c.args.older c.args.newer 0 x y c.stand_of-2.result.0 at there c.stand_of.ensures.located c.stand_of-2.ensures.located c.if-new-old.true a)))

pub returns : goal.returns
returns c = λ x y at there.
    let g = c.args.self.now in
    let one = c.if-old-new.false in
    let other = c.if-new-old.false in
    ((λ h. together (values g.list.commands) g.list.graph.closed c.stand_of.result.0 c.args.older c.args.newer 0 x y c.stand_of-2.result.0 c.if-newer-older.false at there c.stand_of.ensures.located c.stand_of-2.ensures.located (omega (arith, one, other))), (λ a. refl))
