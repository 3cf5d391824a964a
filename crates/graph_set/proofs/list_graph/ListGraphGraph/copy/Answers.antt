use Rattle.std.proofs.Common.{◌++◌, ◌∷◌, [], take, sym, ap, subst, ◌∙◌}
use Rattle.command.specs.Closed.{IsHeld}
use Rattle.command.specs.Wire.{IsInForm, command_id}
use Rattle.command.proofs.PlaceFacts.{next_at, take_one_more}
use Rattle.indexmap.specs.IndexMap.{values}
use Rattle.graph_set.proofs.list_graph.ListGraphGraph.copy.Goals as goal

pub put-requires-clause-formed : goal.put-requires-clause-formed
put-requires-clause-formed c =
    let next = next_at (values c.args.self.now.commands) c.args.self.now.graph.closed c.loop-place.place c.at.result.now c.at.ensures in
    subst IsInForm (sym c.in_ok-command.ensures) next.formed.in_form

pub put-requires-clause-fresh : goal.put-requires-clause-fresh
put-requires-clause-fresh c = λ held.
    let next = next_at (values c.args.self.now.commands) c.args.self.now.graph.closed c.loop-place.place c.at.result.now c.at.ensures in
    next.fresh (subst (λ l. IsHeld l (command_id c.at.result.now)) c.loop-place.invariant.same (subst (λ z. IsHeld (values c.loop-place.commands) (command_id z)) c.in_ok-command.ensures held))

pub loop-place-preserved : goal.loop-place-preserved
loop-place-preserved c = record {
  named = c.in_ok-put.ensures.keys;
  same =
      c.in_ok-put.ensures.values ∙ ap (λ l. l ++ c.in_ok-command.command ∷ []) c.loop-place.invariant.same
      ∙ ap (λ z. take c.loop-place.place (values c.args.self.now.commands) ++ z ∷ []) c.in_ok-command.ensures
      ∙ sym (take_one_more (values c.args.self.now.commands) c.loop-place.place c.at.result.now c.at.ensures);
}
