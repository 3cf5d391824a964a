use Rattle.std.proofs.Common.{ap, subst, sym, ◌∙◌}
use Rattle.policy_meaning.specs.Typed.{AreEffectsOf}
use Rattle.policy_meaning.proofs.TypedFacts.{effects_none}
use Rattle.braid_run.proofs.running.void.Goals as goal

pub returns-clause-typed : goal.returns-clause-typed
returns-clause-typed c = λ policy. subst (λ effects. AreEffectsOf policy effects) (sym (ap (λ e. e.effects) c.entry.ensures ∙ c.new.ensures)) (effects_none policy)
