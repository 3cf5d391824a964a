use Rattle.std.proofs.Common.{◌≡◌, ◌++◌, drop, map}
use Rattle.script_texts.specs.Replies.{refused_commands_text}
use Rattle.world.specs.Reasons.{shown_refusals}
use Rattle.world.proofs.replies.with_refused.Given as goal

abbrev pub invariant-loop-one : goal.invariant-loop-one
invariant-loop-one l =
    l.whole ++ refused_commands_text (shown_refusals (map (λ r. record { id = r.0; why = r.1 }) (drop l.one-index l.refused)))
    ≡ l.fn.text ++ refused_commands_text (shown_refusals (map (λ r. record { id = r.0; why = r.1 }) l.refused))
