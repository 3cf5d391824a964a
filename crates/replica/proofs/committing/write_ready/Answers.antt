use Rattle.std.proofs.Common.{◌≡◌, Some, inr, refl, ap, ◌∙◌}
use Rattle.replica.proofs.committing.write_ready.Goals as goal

pub returns-in-Ok-clause-writes : goal.returns-in-Ok-clause-writes
returns-in-Ok-clause-writes g c =
    let it = c.in-Ok.ensures in
    let ready = c.requires.ready in record {
      ends = (refl, it.outline ∙ ready.to, it.failed);
      settled = λ told honest digest commits is. it.acknowledged told honest digest commits c.args.commit is ready;
      moments = λ told honest digest commits is. it.any_moment told honest digest commits c.args.commit is ready;
      honest = it.honest;
      disk = record { later = it.later; cause = λ step no_fault. absurd cc };
    }

pub returns-in-Err-clause-writes : goal.returns-in-Err-clause-writes
returns-in-Err-clause-writes g c =
    let it = c.in-Err.ensures in
    let ready = c.requires.ready in record {
      ends = inr (c.in-Err.step, refl, refl, it.same);
      settled = λ told honest digest commits is. tt;
      moments = λ told honest digest commits is. it.any_moment told honest digest commits c.args.commit is ready;
      honest = it.honest;
      disk = record { later = it.later; cause = λ step is. (let same : c.in-Err.step ≡ step = cc in (it.cause.0, it.cause.1 ∙ ap Some same)) };
    }
