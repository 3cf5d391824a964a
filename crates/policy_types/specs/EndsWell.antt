-- How the policy and recall blocks of a well-typed policy end, and what a command of it comes to.
use Rattle.std.specs.Prelude.{◌≡◌, List, None}
use Rattle.policy_ast.specs.declared.policy.PlacedItem.{PlacedItem}
use Rattle.policy_meaning.specs.Applying.{Ended, Passes, Checks, Faults, Sticks}
use Rattle.policy_meaning.specs.Commands.{Judged, Pass, Recalled, Void}
use Rattle.policy_meaning.specs.Typed.{AreEffectsOf, AreTyped}

-- A block passes, with typed facts behind it and typed effects, or a check fails, which names no recall, or there is a fault. It isn't stuck.
abbrev pub EndsWell : List PlacedItem → Ended → Type 0
EndsWell policy (Passes rows effects) = AreTyped policy rows × AreEffectsOf policy effects
EndsWell policy (Checks recall) = recall ≡ None
EndsWell policy (Faults kind) = Unit {0}
EndsWell policy Sticks = ⊥

-- A command passes or is recalled, with typed facts behind it and typed effects, or it is void. It isn't stuck.
abbrev pub JudgedWell : List PlacedItem → Judged → Type 0
JudgedWell policy (Pass rows effects) = AreTyped policy rows × AreEffectsOf policy effects
JudgedWell policy (Recalled rows effects) = AreTyped policy rows × AreEffectsOf policy effects
JudgedWell policy Void = Unit {0}
JudgedWell policy Judged.Sticks = ⊥
