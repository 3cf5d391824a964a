use Rattle.std.proofs.Common.{inr, option_map}
use Rattle.replica.specs.working.Changes.{changed}
use Rattle.replica.proofs.DoneFacts.{replies_with}
use Rattle.replica.proofs.changing.take_on.Goals as goal

pub returns : goal.returns
returns g c =
    let it = c.in_ok-taken.ensures in
    let parts = c.in_ok-taken.field-0 in
    inr (record {
      reply = parts.taken;
      target = changed c.args.state.now.held (option_map (λ change. record { commands = change.commands; rows = g.F.FactBase.rows change.ran.facts; entries = change.ran.entries.all }) parts.change);
      given = (it.response, it.read, it.ready.takes);
      replies = replies_with c.commit_change.result parts.taken c.commit_change.ensures.reply;
      replica = it.ready.replica;
      sound = it.ready.sound;
      commits = c.commit_change.ensures.commits c.args.digest.now c.requires.backed;
    })
