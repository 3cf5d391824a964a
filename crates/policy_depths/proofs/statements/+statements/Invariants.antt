use Rattle.std.proofs.Common.{◌≡◌, ◌&&◌, ℕ, Bool, drop}
use Rattle.std.specs.List.{list_all}
use Rattle.policy_depths.specs.working.Gathering.{statement_passes}
use Rattle.policy_depths.proofs.statements.+statements.Given as goal

abbrev pub invariant-push_statements-loop-s : goal.invariant-push_statements-loop-s
invariant-push_statements-loop-s l =
    (test : ℕ → Bool) → (list_all test l.numbers && list_all (λ s. statement_passes l.heads test s) (drop l.s-index l.all))
    ≡ (list_all test l.initial.numbers && list_all (λ s. statement_passes l.heads test s) l.all)

abbrev pub invariant-push_else-loop-s : goal.invariant-push_else-loop-s
invariant-push_else-loop-s l =
    (test : ℕ → Bool) → (list_all test l.numbers && list_all (λ s. statement_passes l.heads test s) (drop l.s-index l.s-items))
    ≡ (list_all test l.initial.numbers && list_all (λ s. statement_passes l.heads test s) l.s-items)

abbrev pub invariant-push_arms-loop-arm : goal.invariant-push_arms-loop-arm
invariant-push_arms-loop-arm l =
    (test : ℕ → Bool) → (list_all test l.numbers && list_all (λ a. list_all (λ s. statement_passes l.heads test s) a.body) (drop l.arm-index l.arms))
    ≡ (list_all test l.initial.numbers && list_all (λ a. list_all (λ s. statement_passes l.heads test s) a.body) l.arms)

abbrev pub invariant-push_arms-loop-s : goal.invariant-push_arms-loop-s
invariant-push_arms-loop-s l =
    (test : ℕ → Bool) → (list_all test l.numbers && list_all (λ s. statement_passes l.heads test s) (drop l.s-index l.s-items))
    ≡ (list_all test l.initial.numbers && list_all (λ s. statement_passes l.heads test s) l.s-items)
