use Rattle.std.proofs.Common.{◌≡◌, ◌<◌, ◌+◌, List, length, rules, sym, ap, subst, ◌∙◌, arith}
use Rattle.indexmap.specs.IndexMap.{values}
use Rattle.command.specs.Kinds.{parents_of}
use Rattle.graph_segments.specs.Segments.{Tables}
use Rattle.graph_segments.proofs.Reading.{parent_there, segments_few, tables_put}
use Rattle.graph_segments.proofs.segment_graph.SegmentGraphGraph.append.Goals as goal

pub put-requires-clause-count : goal.put-requires-clause-count
put-requires-clause-count c =
    let g = c.args.self.now in
    omega (arith, ap length g.chained, segments_few (values g.list.commands) g.list.graph.closed, c.len-place.ensures)

pub put-requires-clause-parent : goal.put-requires-clause-parent
put-requires-clause-parent c =
    let g = c.args.self.now in
    parent_there (values g.list.commands) g.list.graph.closed g.list.graph.few g.locations.items g.segments.items g.located g.chained c.follows-follows.result c.follows-follows.ensures.within

pub invariant_of-self : goal.invariant_of-self
invariant_of-self c =
    let g = c.args.self.now in
    let cs = values g.list.commands in
    let put = tables_put cs c.args.command c.as_slice.result.now g.locations.items c.put.new.locations.items g.segments.items c.put.new.segments.items c.len-place.result c.next_cut-cut.result c.follows-follows.result
    (values c.append.new.self.commands) c.put.ensures.tables g.located g.chained (search rules) c.next_cut-cut.ensures.value (search rules) (search rules) c.append.ensures.commands
    in
    record {
      located = ap (λ (t : Tables). t.locations) put;
      chained = ap (λ (t : Tables). t.segments) put;
      roomy = omega (arith, g.roomy, c.requires.room, c.append.ensures.room);
      wide = omega (arith, g.wide, c.put.ensures.wide, c.put.ensures.longer, c.requires.room);
      broad = omega (arith, g.broad, c.put.ensures.broad, c.put.ensures.more, c.requires.room);
    }
