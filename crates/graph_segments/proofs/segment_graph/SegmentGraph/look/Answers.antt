use Rattle.std.proofs.Common.{◌≡◌, ℕ, ◌+◌, ◌<◌, List, length, Some, slice_get, rules, sym, ap, subst, ◌∙◌, arith}
use Rattle.std.specs.List.{Contains}
use Rattle.indexmap.specs.IndexMap.{values}
use Rattle.command.specs.Ancestors.{IsAt}
use Rattle.command.specs.Kinds.{parents_of}
use Rattle.graph_segments.specs.working.Search.{IsFirst}
use Rattle.graph_segments.proofs.Searching.{parents_within}
use Rattle.graph_segments.proofs.segment_graph.SegmentGraph.look.Goals as goal

pub reach_all-requires : goal.reach_all-requires
reach_all-requires c = λ id place at link there is.
    let g = c.args.self.now in
    let cs = values g.list.commands in
    let first = c.first_of-first.ensures.first in
    let lt = parents_within cs g.list.graph.closed (c.args.old.segment + c.args.number) first.0 c.at.result.now (record { segment = first.1; at = subst (λ k. IsAt cs k c.at.result.now) first.2 c.at.ensures })
    id place at (subst (λ l. Contains l id) (search rules) link) there is in
    omega (arith, lt, c.requires.number)
