use Rattle.std.proofs.Common.{◌≤◌, ◌∙◌, arith, length, length-drop, ℕ, drop}
use Rattle.policy_lex.proofs.Drops.{dropped_whole}
use Rattle.policy_lex.proofs.Texts.{text_broken, text_closed, text_ended, text_passed}
use Rattle.policy_lex.proofs.quoted.text_from.Goals as goal

pub returns-in-Closes-clause-text : goal.returns-in-Closes-clause-text
returns-in-Closes-clause-text c =
    text_closed c.loop-place.text c.args.bytes.now c.loop-place.place (rw dropped_whole at c.in-Closes.ensures.step) ∙ c.loop-place.invariant.text

pub returns-in-Breaks-clause-text : goal.returns-in-Breaks-clause-text
returns-in-Breaks-clause-text c =
    text_broken c.loop-place.text c.args.bytes.now c.loop-place.place (rw dropped_whole at c.in-Breaks.ensures.step) ∙ c.loop-place.invariant.text

pub loop-place-preserved : goal.loop-place-preserved
loop-place-preserved c =
    let within : c.in-Means.size ≤ length (drop c.loop-place.place c.args.bytes.now) = rw dropped_whole at c.in-Means.ensures.within.1 in
    record {
      text = rw c.in_ok-push-in-Means.ensures.ok
          (text_passed c.loop-place.text c.args.bytes.now c.loop-place.place c.in-Means.byte c.in-Means.size (rw dropped_whole at c.in-Means.ensures.step)
          ∙ c.loop-place.invariant.text);
      within = omega (arith, within, length-drop {A = ℕ});
    }

pub returns-clause-text : goal.returns-clause-text
returns-clause-text c = text_ended c.loop-place.text c.args.bytes.now c.loop-place.place (omega arith) ∙ c.loop-place.invariant.text
