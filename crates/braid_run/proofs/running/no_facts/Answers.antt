use Rattle.std.proofs.Common.{subst, sym}
use Rattle.policy_meaning.specs.Typed.{AreTyped}
use Rattle.policy_meaning.proofs.TypedFacts.{typed_none}
use Rattle.braid_run.proofs.running.no_facts.Goals as goal

pub returns-clause-typed : goal.returns-clause-typed
returns-clause-typed g c = subst (λ rows. AreTyped (g.R.Runner.rules c.args.runner.now) rows) (sym c.empty.ensures) (typed_none (g.R.Runner.rules c.args.runner.now))
