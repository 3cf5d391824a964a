use Rattle.std.proofs.Common.{ap, ◌∙◌}
use Rattle.state_texts.specs.States.{graph_text}
use Rattle.world.proofs.showing.graph_line.Goals as goal

pub returns : goal.returns
returns g c = record {
  line = (
    c.replica_of.result.now,
    c.replica_of.ensures,
    c.in_ok-graph_text.ensures ∙ ap (λ commands. graph_text c.args.name.now commands) (c.graph.ensures.commands ∙ ap (λ held. held.commands) c.state-state.ensures.held),
  );
}
