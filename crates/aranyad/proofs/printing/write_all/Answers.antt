use Rattle.std.proofs.Common.{refl, arith, ◌∙◌}
use Rattle.aranyad.proofs.Pieces.{wrote_more, take-behind}
use Rattle.aranyad.proofs.printing.write_all.Goals as goal

pub loop-rest-preserved : goal.loop-rest-preserved
loop-rest-preserved g c = record {
  part = wrote_more _ _ _ _ _ _ _ (take-behind c.in_ok-taken.taken _ c.loop-rest.rest.now refl) c.loop-rest.invariant.part c.in_ok-taken.ensures.written;
  later = omega (arith, c.loop-rest.invariant.later, c.in_ok-taken.ensures.cause.later);
  same = c.in_ok-taken.ensures.cause.same ∙ c.loop-rest.invariant.same;
}
