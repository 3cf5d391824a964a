use Rattle.std.proofs.Common.{◌≡◌, ℕ, true, Option, None, Some, is_some, refl, ap, sym, ◌∙◌}
use Rattle.command.proofs.PlaceFacts.{held_place, place_held}
use Rattle.samples.proofs.made.is_held.Goals as goal

some_there : (o : Option ℕ) → is_some o ≡ true → (p : ℕ) × (o ≡ Some p)
some_there None h = absurd cc
some_there (Some p) h = (p, refl)

pub returns : goal.returns
returns g c =
    let cs = g.G.Graph.commands c.args.graph.now in (
      (λ h. let found = some_there c.place_of.result (sym c.is_some.ensures ∙ h) in place_held cs c.args.id.now found.0 (sym c.place_of.ensures ∙ found.1)),
      (λ h. let found = held_place cs c.args.id.now h in c.is_some.ensures ∙ ap is_some (c.place_of.ensures ∙ found.1)),
    )
