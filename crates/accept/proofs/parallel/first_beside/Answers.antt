use Rattle.std.proofs.Common.{◌-◌, arith}
use Rattle.accept.proofs.ParallelFacts.{step_beside, step_other, step_up}
use Rattle.accept.proofs.parallel.first_beside.Goals as goal

pub loop-place-preserved-in-Other : goal.loop-place-preserved-in-Other
loop-place-preserved-in-Other g c =
    let within = c.loop-place.invariant.within in
    let some = c.loop-place-test.true in
    record {
      within = omega (arith, within, some);
      first = λ p there.
          step_other (g.G.Graph.commands c.args.graph.now) c.args.tip c.loop-place.place (c.loop-place.place - 1) (omega (arith, within, some)) (omega (arith, some)) c.in_ok-look_at.field-0
          c.in_ok-look_at.ensures c.loop-place.first c.loop-place.invariant.first p there c.in-Other.is;
    }

pub loop-place-preserved : goal.loop-place-preserved
loop-place-preserved g c =
    let within = c.loop-place.invariant.within in
    let some = c.loop-place-test.true in
    record {
      within = omega (arith, within, some);
      first = λ p there.
          step_beside (g.G.Graph.commands c.args.graph.now) c.args.tip c.loop-place.place (c.loop-place.place - 1) (omega (arith, within, some)) (omega (arith, some)) c.in_ok-look_at.field-0
          c.in_ok-look_at.ensures c.loop-place.first c.loop-place.invariant.first p there c.in-Beside.id c.in-Beside.is;
    }

pub returns-in-UpTo : goal.returns-in-UpTo
returns-in-UpTo g c = λ p there.
    let within = c.loop-place.invariant.within in
    let some = c.loop-place-test.true in
    step_up (g.G.Graph.commands c.args.graph.now) c.args.tip c.loop-place.place (c.loop-place.place - 1) (omega (arith, within, some)) (omega (arith, some)) c.in_ok-look_at.field-0
    c.in_ok-look_at.ensures c.loop-place.first c.loop-place.invariant.first p there (g.met.G.Graph.closed c.args.graph.now) c.requires.in_line c.in-UpTo.is
