use Rattle.std.proofs.Common.{◌≡◌, map, take}
use Rattle.command.specs.Wire.{command_id}
use Rattle.indexmap.specs.IndexMap.{keys, values}
use Rattle.graph_set.proofs.list_graph.ListGraphGraph.copy.Given as goal

abbrev pub invariant-loop-place : goal.invariant-loop-place
invariant-loop-place l = record {
  named : keys l.commands ≡ map command_id (values l.commands);
  same : values l.commands ≡ take l.place (values l.self.commands);
}
