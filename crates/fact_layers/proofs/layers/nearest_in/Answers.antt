use Rattle.std.specs.Range.Bound.{bound_map}
use Rattle.fact_layers.proofs.Nearest.{nearest-found, nearest-none}
use Rattle.fact_layers.proofs.layers.nearest_in.Goals as goal

pub returns-in-Some : goal.returns-in-Some
returns-in-Some c =
    nearest-found (bound_map (λ x. x.now) c.args.from) c.args.layer.now.entries c.range.result c.next.new.self (c.in-Some.place.now, c.in-Some.field-0-1.now) c.range.ensures.ordered (c.range.ensures.between tt) c.in-Some.ensures.steps

pub returns-in-None : goal.returns-in-None
returns-in-None c = nearest-none (bound_map (λ x. x.now) c.args.from) c.args.layer.now.entries c.range.result c.range.ensures.ordered (c.range.ensures.between tt) c.in-None.ensures.steps.0
