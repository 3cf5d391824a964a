use Rattle.std.proofs.Common.{rules}
use Rattle.world.proofs.showing.effects_line.Goals as goal

pub returns : goal.returns
returns g c = record {
  line = (c.replica_of-replica.result.now, c.replica_of-replica.ensures, (c.replica_of-replica.result.now.held.rows, c.replica_of-replica.result.now.held.entries, c.state.ensures.sound.sound.run, search rules));
}
