use Rattle.std.proofs.Common.{◌≡◌, ◌&&◌, ℕ, Bool, drop}
use Rattle.std.specs.List.{list_all}
use Rattle.policy_depths.specs.working.Gathering.{finish_passes}
use Rattle.policy_depths.proofs.statements.push_finishes.Given as goal

abbrev pub invariant-loop-s : goal.invariant-loop-s
invariant-loop-s l =
    (test : ℕ → Bool) → (list_all test l.numbers && list_all (λ s. finish_passes l.heads test s) (drop l.s-index l.all))
    ≡ (list_all test l.initial.numbers && list_all (λ s. finish_passes l.heads test s) l.all)
