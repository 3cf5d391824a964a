use Rattle.std.proofs.Common.{ap, subst, sym}
use Rattle.policy_meaning.proofs.TypedFacts.{typed_none}
use Rattle.policy_meaning.specs.Typed.{AreTyped}
use Rattle.eval_tests.proofs.player.played.Goals as goal

pub played_on-requires-clause-typed : goal.played_on-requires-clause-typed
played_on-requires-clause-typed g c =
    let policy = g.R.Runner.rules c.args.runner.now in subst (λ rows. AreTyped policy rows) (sym (ap (λ held. held.rows) c.in_ok-state.ensures.held)) (typed_none policy)
