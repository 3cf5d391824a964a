-- Evaluations one after another that give what is asked for.
use Rattle.std.proofs.Common.{◌≡◌, ◌==◌, ◌-◌, ℕ, Bool, true, false, cond, Option, Some, sym, subst}
use Rattle.policy_meaning.specs.Outcomes.{Check, Fault, Stuck, Out, Done, Ends, ◌>>=◌, branch, or_stuck, with_turn}
use Rattle.policy_meaning.specs.declared.ends.FaultKind.TheVariants as fault
use Rattle.policy_types.specs.Endings.{Gives}

module _ {A B : Type 0} where
  pub gives_then : (good : A → Type 0) (best : B → Type 0) (out : Out A) (next : A → ℕ → Out B) → Gives good out → ((x : A) (turns : ℕ) → good x → Gives best (next x turns)) → Gives best (out >>= next)
  gives_then good best (Done x turns) next is go = go x turns is
  gives_then good best (Ends (Check recall)) next is go = is
  gives_then good best (Ends (Fault kind)) next is go = is
  gives_then good best (Ends Stuck) next is go = absurd is

module _ {A : Type 0} (good : A → Type 0) where
  turn_by : (next : ℕ → Out A) (turns : ℕ) → ((turns : ℕ) → Gives good (next turns)) → (b : Bool) → Gives good (cond b (Ends (Fault fault.Turns)) (next (turns - 1)))
  turn_by next turns go true = tt
  turn_by next turns go false = go (turns - 1)

  pub turn_gives : (next : ℕ → Out A) (turns : ℕ) → ((turns : ℕ) → Gives good (next turns)) → Gives good (with_turn next turns)
  turn_gives next turns go = turn_by next turns go (turns == 0)

  branch_by : (b : Bool) (first second : ℕ → Out A) (turns : ℕ) → Gives good (first turns) → Gives good (second turns) → Gives good (branch (Some b) first second turns)
  branch_by true first second turns one other = one
  branch_by false first second turns one other = other

  pub branch_gives : (test : Option Bool) → ((b : Bool) × (test ≡ Some b)) → (first second : ℕ → Out A) (turns : ℕ) → Gives good (first turns) → Gives good (second turns)
      → Gives good (branch test first second turns)
  branch_gives test known first second turns one other = subst (λ test. Gives good (branch test first second turns)) (sym known.1) (branch_by known.0 first second turns one other)

  pub there_gives : (found : Option A) → ((x : A) × (found ≡ Some x) × good x) → (turns : ℕ) → Gives good (or_stuck found turns)
  there_gives found has turns = subst (λ o. Gives good (or_stuck o turns)) (sym has.1) has.2
