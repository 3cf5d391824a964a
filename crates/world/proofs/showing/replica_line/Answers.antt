use Rattle.std.proofs.Common.{ap, length, ◌∙◌}
use Rattle.script_texts.specs.Replies.{replica_text}
use Rattle.world.proofs.showing.replica_line.Goals as goal

pub returns : goal.returns
returns g c = record {
  line = (
    c.replica_of.result.now,
    c.replica_of.ensures,
    c.in_ok-replica_text.ensures
        ∙ ap (λ n. replica_text c.args.name.now n) (c.len.ensures ∙ ap length (c.graph.ensures.commands ∙ ap (λ held. held.commands) c.state-state.ensures.held)),
  );
}
