use Rattle.std.specs.Prelude.{◌≡◌, take}
use Rattle.std.specs.List.{All}
use Rattle.command.specs.Wire.{IsInForm}
use Rattle.sync_peer.specs.working.Walks.{commands_at}
use Rattle.sync_peer.proofs.answering.copies.Given as goal

abbrev pub invariant-loop-place : goal.invariant-loop-place
invariant-loop-place g l = record {
  so_far : l.commands ≡ commands_at (g.G.Graph.commands l.graph) (take l.place-index l.places);
  formed : All IsInForm l.commands;
}
