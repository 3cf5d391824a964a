use Rattle.std.proofs.Common.{◌-◌}
use Rattle.world.proofs.RoundFacts.{met_commands}
use Rattle.world.proofs.SessionFacts.{HasCome}
use Rattle.world.proofs.session.session.Given as goal

abbrev pub invariant-rounds : goal.invariant-rounds
invariant-rounds g l = HasCome (record { tells = g.D.Disk.tells; content = g.D.Disk.content; honest = g.D.Disk.honest }) g.D.Disk.faults (record { good = g.E.Envelope.good; told = g.E.Envelope.tag_of }) l.a l.b l.initial.replicas.items l.replicas.items l.request l.sum

abbrev pub decreases-rounds : goal.decreases-rounds
decreases-rounds g l = 65537 - met_commands l.sum
