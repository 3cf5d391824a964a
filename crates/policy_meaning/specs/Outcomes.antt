-- How an evaluation ends: with a value and the turns left, or for a reason.
use Rattle.std.specs.Prelude.{ℕ, ◌-◌, ◌==◌, Bool, true, false, if◌then◌else◌, List, [], ◌∷◌, Option, Some, None}
use Rattle.policy_meaning.specs.declared.ends.FaultKind.{FaultKind}
use Rattle.policy_meaning.specs.declared.ends.FaultKind.TheVariants as fault
use Rattle.policy_rules.specs.Names.{Name}

-- Why an evaluation ends early: a check failed, with the name of the recall that it asks for, where it names one; a fault; or the tree asks for
-- what isn't there, as no well-typed tree does.
pub data Halt : Type 0 where
  Check : Option Name → Halt
  Fault : FaultKind → Halt
  Stuck : Halt

-- A value and the turns left, or why there is none.
pub data Out (A : Type 0) : Type 0 where
  Done : A → ℕ → Out A
  Ends : Halt → Out A

infixl 10 ◌>>=◌
-- One evaluation and then the next; where the first ends early, so does the whole.
abbrev pub ◌>>=◌ : {A B : Type 0} → Out A → (A → ℕ → Out B) → Out B
(Done x turns) >>= next = next x turns
(Ends halt) >>= next = Ends halt

-- A value that is looked up, and stuck where it isn't there.
abbrev pub or_stuck : {A : Type 0} → Option A → ℕ → Out A
or_stuck (Some x) turns = Done x turns
or_stuck None turns = Ends Stuck

-- One turn is taken; where none is left it is a fault.
abbrev pub with_turn : {A : Type 0} → (ℕ → Out A) → ℕ → Out A
with_turn next turns = if turns == 0 then Ends (Fault fault.Turns) else next (turns - 1)

-- What depends on a test, and is stuck where the test has no answer.
abbrev pub branch : {A : Type 0} → Option Bool → (ℕ → Out A) → (ℕ → Out A) → ℕ → Out A
branch (Some true) first second turns = first turns
branch (Some false) first second turns = second turns
branch None first second turns = Ends Stuck

-- Evaluations in order, and the list of their values.
abbrev pub all_in_order : {E A : Type 0} → List (E → ℕ → Out A) → E → ℕ → Out (List A)
all_in_order [] env turns = Done [] turns
all_in_order (first ∷ more) env turns = first env turns >>= λ x turns. all_in_order more env turns >>= λ xs turns. Done (x ∷ xs) turns
