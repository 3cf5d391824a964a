-- What is known of typed facts and typed commands without opening what they are.
use Rattle.std.proofs.Common.{List, [], refl}
use Rattle.policy_ast.specs.declared.policy.PlacedItem.{PlacedItem}
use Rattle.policy_meaning.specs.Typed.{AreEffectsOf, AreTyped}

-- No facts are typed.
pub typed_none : (policy : List PlacedItem) → AreTyped policy []
unfolding AreTyped
typed_none policy = refl

-- No effects are.
pub effects_none : (policy : List PlacedItem) → AreEffectsOf policy []
unfolding AreEffectsOf
effects_none policy = refl
