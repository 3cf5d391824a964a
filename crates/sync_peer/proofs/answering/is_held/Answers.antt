use Rattle.std.proofs.Common.{◌≡◌, ℕ, true, Option, None, Some, is_some, refl, ap, ◌∙◌}
use Rattle.std.specs.Bool.{one_answer}
use Rattle.command.specs.Closed.{has_id, place_of}
use Rattle.command.proofs.PlaceFacts.{held_place, place_held}
use Rattle.sync_peer.proofs.answering.is_held.Goals as goal

some_there : (o : Option ℕ) → is_some o ≡ true → (p : ℕ) × (o ≡ Some p)
some_there None h = absurd cc
some_there (Some p) h = (p, refl)

pub returns : goal.returns
returns g c =
    let cs = g.G.Graph.commands c.args.graph.now in
    let id = c.args.id.now in
    c.is_some.ensures
    ∙ ap is_some c.place_of.ensures
    ∙ one_answer (is_some (place_of cs id)) (has_id cs id)
    ((λ h. let found = some_there (place_of cs id) h in place_held cs id found.0 found.1), (λ h. let found = held_place cs id h in ap is_some found.1))
    ((λ h. h), (λ h. h))
