use Rattle.fact_store.specs.declared.wanted.Wanted.{Wanted}
use Rattle.fact_layers.specs.Layers.{Said}
use Rattle.fact_layers.proofs.Folds.{step-goes, step-keys, step-left, step-sorted}
use Rattle.fact_layers.proofs.layer.put_all.Goals as goal

pub loop-place-preserved : goal.loop-place-preserved
loop-place-preserved c =
    let e : Wanted × Said = (c.in-Some.place.now, c.in-Some.said.now) in
    let inv = c.loop-place.invariant in
    record {
      sorted = step-sorted e c.next.new.self c.loop-place.place-iterator c.in-Some.ensures.steps inv.sorted;
      left = step-left e c.next.new.self c.loop-place.place-iterator c.in-Some.ensures.steps inv.left;
      keyed = λ was. c.in_ok-put_in.ensures.keyed (step-keys e c.next.new.self c.loop-place.place-iterator c.in-Some.ensures.steps c.in_ok-copy.field-0 c.in_ok-copy.ensures inv.left) (inv.keyed was);
      goes = step-goes e c.next.new.self c.loop-place.place-iterator c.in-Some.ensures.steps c.args.is_lowest c.in_ok-copy.field-0 c.in_ok-copy_said.field-0 c.loop-place.layer.entries c.put_in.new.layer.entries
          c.args.upper.now.entries c.args.layer.now.entries c.in_ok-copy.ensures c.in_ok-copy_said.ensures inv.sorted c.in_ok-put_in.ensures.puts inv.goes;
    }
