use Rattle.std.proofs.Common.{◌++◌, ◌∷◌, ◌∙◌, [], ap, arith, length, length-append, map}
use Rattle.world.proofs.OpenFacts.{back_more}
use Rattle.world.proofs.opening.put_back.Goals as goal

pub loop-one-preserved : goal.loop-one-preserved
loop-one-preserved g c = record {
  whole = back_more c.loop-one.left.items c.pop.new.self.items c.in-Some.one c.into_disk.result c.loop-one.disks.items c.put_first.new.disks.items (map (λ r. r.kept.disk) c.args.replicas.items ++ c.args.spare.items)
      c.in-Some.ensures.items (c.into_disk.ensures ∙ ap (λ r. r.kept.disk) c.one.view_is) c.put_first.ensures.items c.loop-one.invariant.whole;
  room = omega (arith, ap length c.in-Some.ensures.items, length-append c.pop.new.self.items (c.in-Some.one ∷ []), ap length c.put_first.ensures.items, c.loop-one.invariant.room, c.put_first.ensures.capacity);
}
