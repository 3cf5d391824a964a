use Rattle.std.proofs.Common.{ℕ, ◌↔◌, IsTrue, subst, ◌∙◌}
use Rattle.std.specs.List.{Contains}
use Rattle.braid_run.proofs.AboveFacts.{covered}
use Rattle.braid_run.proofs.facts.covers.Goals as goal

pub returns : goal.returns
returns g c =
    let cs = g.G.Graph.commands c.args.graph.now in
    let told = subst (λ l. IsTrue c.are_among.result ↔ ((p : ℕ) → Contains l p → Contains c.args.tips.now p)) (c.as_slice.ensures ∙ c.in_ok-heads.ensures) c.are_among.ensures in
    let both = covered cs (g.met.G.Graph.closed c.args.graph.now) c.args.tips.now in
    ((λ h. both.0 (told.0 h)), (λ all. told.1 (both.1 all)))
