use Rattle.std.proofs.Common.{inl, inr, refl, sym, option_map}
use Rattle.replica.specs.declared.refusal.Refusal.TheVariants as refusal
use Rattle.replica.specs.working.Changes.{changed}
use Rattle.replica.proofs.DoneFacts.{replies_with}
use Rattle.replica.proofs.changing.take_twice_on.Goals as goal

pub returns-in-Ok : goal.returns-in-Ok
returns-in-Ok g c =
    let it = c.in_ok-taken.ensures in
    let parts = c.in_ok-taken.field-0 in
    inr (record {
      reply = (parts.taken, c.in-Ok.twin);
      target = changed c.args.state.now.held (option_map (λ change. record { commands = change.commands; rows = g.F.FactBase.rows change.ran.facts; entries = change.ran.entries.all }) parts.change);
      given = (sym c.in-Ok.ensures, (it.response, it.read, it.ready.takes));
      replies = replies_with c.commit_change.result (parts.taken, c.in-Ok.twin) c.commit_change.ensures.reply;
      replica = it.ready.replica;
      sound = it.ready.sound;
      commits = c.commit_change.ensures.commits c.args.digest.now c.requires.backed;
    })

pub returns-in-Err : goal.returns-in-Err
returns-in-Err g c = inl (record { why = refusal.NoMemory; same_result = refl; reason = inl refl; no_fault = λ step is. absurd cc; same = refl })
