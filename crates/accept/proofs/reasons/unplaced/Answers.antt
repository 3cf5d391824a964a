use Rattle.std.proofs.Common.{rules, ◌≡◌, true, ◌∙◌, subst}
use Rattle.accept.specs.Admission.{IsFirstBeside}
use Rattle.accept.proofs.ReasonFacts.{unplaced_beside, unplaced_line}
use Rattle.command.specs.Kinds.{is_finalize}
use Rattle.accept.proofs.reasons.unplaced.Goals as goal

pub returns-in-Some : goal.returns-in-Some
returns-in-Some g c =
    let final : is_finalize c.args.command.now ≡ true = search rules in
    unplaced_beside (g.G.Graph.commands c.args.graph.now) c.args.command.now final c.in-Some.id
    (subst (IsFirstBeside (g.G.Graph.commands c.args.graph.now) c.args.command.now) c.in-Some.is (c.in_ok-id-in-Finalize.ensures c.args.command.now (search rules)))

pub returns-in-None : goal.returns-in-None
returns-in-None g c = λ beside other.
    let final : is_finalize c.args.command.now ≡ true = search rules in
    c.full.ensures
    ∙ unplaced_line (g.G.Graph.commands c.args.graph.now) c.args.command.now final
    (subst (IsFirstBeside (g.G.Graph.commands c.args.graph.now) c.args.command.now) c.in-None.is (c.in_ok-id-in-Finalize.ensures c.args.command.now (search rules))) beside other
