use Rattle.std.proofs.Common.{◌≡◌, ◌++◌, length, map, arith, subst, ap, ◌∙◌}
use Rattle.std.specs.List.{concat}
use Rattle.sync_codec.proofs.Lists.{holds_more, written_more}
use Rattle.sync_codec.proofs.front.write_ids.Goals as goal

pub loop-id-preserved : goal.loop-id-preserved
loop-id-preserved c =
    let ids = c.args.ids.now in
    let i = c.loop-id.id-index in
    let id = c.id-item.result in
    let grown : c.extend.new.self ≡ c.loop-id.into ++ id = c.in_ok-extend.ensures.ok ∙ ap (λ told. c.loop-id.into ++ told) c.as_slice.ensures.value in
    let size : length id ≡ 32 = subst (λ told. length told ≡ 32) c.as_slice.ensures.value c.as_slice.ensures.length in
    record {
      told = rw grown (written_more (λ it. it) ids i id c.loop-id.into (c.args.into.now ++ concat (map (λ it. it) ids)) c.loop-id-test.true c.id-item.is c.loop-id.invariant.told);
      sizes = holds_more (λ it. length it ≡ 32) ids i id c.loop-id-test.true c.id-item.is size c.loop-id.invariant.sizes;
    }

pub returns-clause-sizes : goal.returns-clause-sizes
returns-clause-sizes c = λ k d lt. c.loop-id.invariant.sizes d k (omega (arith, lt, c.loop-id-test.false))
