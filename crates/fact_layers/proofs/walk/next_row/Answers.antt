use Rattle.std.proofs.Common.{sym, ap, ◌∙◌}
use Rattle.std.specs.Range.Bound.{bound_map}
use Rattle.fact_store.specs.Matching.{selected}
use Rattle.fact_layers.specs.Layers.{shared}
use Rattle.fact_layers.proofs.Walking.{falls-ahead, found, none-behind, not-found, past, still-behind}
use Rattle.fact_layers.proofs.walk.next_row.Goals as goal

pub returns-then-not-is_place_within : goal.returns-then-not-is_place_within
returns-then-not-is_place_within c =
    sym c.loop-place.invariant.left
    ∙ past (shared c.args.layers.now) c.requires.keyed (bound_map (λ x. x.now) c.loop-place.from) c.in-Some.place.now c.in-Some.ensures c.args.wanted.now c.requires.keys c.loop-place.invariant.behind (sym c.is_place_within.ensures ∙ c.if-not-is_place_within.true)

pub returns-in-Some-named_at : goal.returns-in-Some-named_at
returns-in-Some-named_at c =
    sym c.loop-place.invariant.left
    ∙ found (shared c.args.layers.now) c.requires.keyed (bound_map (λ x. x.now) c.loop-place.from) c.in-Some.place.now c.in-Some.ensures c.args.wanted.now c.in-Some-named_at.values.now c.in-Some-named_at.ensures (sym c.is_place_within.ensures ∙ c.if-not-is_place_within.false)

pub loop-place-smaller : goal.loop-place-smaller
loop-place-smaller c = falls-ahead (bound_map (λ x. x.now) c.loop-place.from) c.in-Some.place.now c.in-Some.ensures.behind (shared c.args.layers.now) c.in-Some.ensures.spoken

pub loop-place-preserved : goal.loop-place-preserved
loop-place-preserved c = record {
  behind = still-behind (shared c.args.layers.now) c.requires.keyed (bound_map (λ x. x.now) c.loop-place.from) c.in-Some.place.now c.in-Some.ensures c.args.wanted.now c.loop-place.invariant.behind;
  left =
      sym (not-found (shared c.args.layers.now) c.requires.keyed (bound_map (λ x. x.now) c.loop-place.from) c.in-Some.place.now c.in-Some.ensures c.args.wanted.now (sym c.in_default-named_at.ensures))
      ∙ c.loop-place.invariant.left;
}

pub returns : goal.returns
returns c = sym c.loop-place.invariant.left ∙ ap (selected c.args.wanted.now) (none-behind (shared c.args.layers.now) c.requires.keyed (bound_map (λ x. x.now) c.loop-place.from) c.in_default.ensures)
