use Rattle.std.proofs.Common.{rules}
use Rattle.command.specs.Wire.{IsInForm}
use Rattle.sync_peer.proofs.PlaceLists.{all_more, next_copy}
use Rattle.sync_peer.proofs.answering.copies.Goals as goal

pub loop-place-preserved : goal.loop-place-preserved
loop-place-preserved g c = record {
  so_far =
      next_copy (g.G.Graph.commands c.args.graph.now) c.args.places.now c.loop-place.place-index c.in_ok-command.command c.loop-place.commands c.push.new.self (search rules)
      c.in_ok-command.ensures.at (search rules) c.loop-place.invariant.so_far;
  formed = all_more IsInForm c.loop-place.commands c.push.new.self c.in_ok-command.command (search rules) c.loop-place.invariant.formed c.in_ok-command.ensures.formed;
}
