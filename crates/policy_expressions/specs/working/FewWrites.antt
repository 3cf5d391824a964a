-- How far changes are made of which at most one is a write.
use Rattle.std.specs.Prelude.{◌≡◌, ◌≤◌, ◌⊎◌, List}
use Rattle.fact_store.specs.declared.row.Row.{Row}
use Rattle.policy_expressions.specs.Applying.{with_effects, write_count}
use Rattle.policy_meaning.specs.Applying.{applied}
use Rattle.policy_meaning.specs.Finish.{Change}
use Rattle.policy_meaning.specs.declared.effect.Effect.{Effect}

-- What is left ends the block as all do; the facts are as before, or no write is left.
pub record FewSoFar (all left : List Change) (first now : List Row) (effects : List Effect) : Type 0 where
  pub rest : with_effects effects (applied left now) ≡ applied all first
  pub few : write_count left ≤ 1
  pub same : (now ≡ first) ⊎ (write_count left ≡ 0)
