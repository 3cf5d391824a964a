use Rattle.std.proofs.Common.{sym, arith}
use Rattle.std.proofs.lemmas.Option.{slice_get_within}
use Rattle.indexmap.specs.IndexMap.{values}
use Rattle.command.proofs.PlaceFacts.{place_at}
use Rattle.graph_segments.specs.Segments.{tables}
use Rattle.graph_segments.proofs.Grown.{cut_few}
use Rattle.graph_segments.proofs.Standing.{tables_stand}
use Rattle.graph_segments.proofs.segment_graph.SegmentGraph.cut_of.Goals as goal

pub returns-in-Some-clause-few : goal.returns-in-Some-clause-few
returns-in-Some-clause-few c =
    let g = c.args.self.now in
    let cs = values g.list.commands in
    let x = place_at cs c.args.id.now c.in-Some.place (sym c.in-Some.ensures) in
    let lt = slice_get_within cs c.in-Some.place x.0 x.1 in
    omega (arith, c.cut.ensures, cut_few cs (tables cs) (tables_stand cs g.list.graph.closed) c.in-Some.place lt, g.list.graph.few)
