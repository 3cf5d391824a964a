use Rattle.std.proofs.Common.{subst}
use Rattle.replica.specs.Disks.{IsTrusted, Sense, Withstands}
use Rattle.replica.proofs.CallFacts.{withstands_still}
use Rattle.replica.proofs.replica.Replica.check_up.Goals as goal

pub returns-in-Some-clause-stays : goal.returns-in-Some-clause-stays
returns-in-Some-clause-stays g c = λ good.
    let sense : Sense _ = record { tells = g.D.Disk.tells; content = g.D.Disk.content; honest = g.D.Disk.honest } in
    let it = c.self.inside in
    subst (λ k. IsTrusted good sense k → Withstands good sense k k) c.self.view_is
    (withstands_still sense g.D.Disk.faults g.D.Disk.last_step (g.R.Runner.rules it.runner) it.digest it.author c.journals_open.ensures.survives c.journals_open.ensures.opens good (record { held = it.state.held; down = it.down; journal = it.journal }) c.self.invariant.1)

pub returns-in-None-clause-stays : goal.returns-in-None-clause-stays
returns-in-None-clause-stays g c = λ good.
    let sense : Sense _ = record { tells = g.D.Disk.tells; content = g.D.Disk.content; honest = g.D.Disk.honest } in
    let it = c.self.inside in
    subst (λ k. IsTrusted good sense k → Withstands good sense k k) c.self.view_is
    (withstands_still sense g.D.Disk.faults g.D.Disk.last_step (g.R.Runner.rules it.runner) it.digest it.author c.journals_open.ensures.survives c.journals_open.ensures.opens good (record { held = it.state.held; down = it.down; journal = it.journal }) c.self.invariant.1)
