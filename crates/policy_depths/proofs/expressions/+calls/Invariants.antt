use Rattle.std.proofs.Common.{◌≡◌, ◌&&◌, ℕ, Bool, drop}
use Rattle.std.specs.List.{list_all}
use Rattle.policy_rules.specs.Expressions.{value_part}
use Rattle.policy_depths.specs.working.Gathering.{expression_passes, gap_passes}
use Rattle.policy_depths.proofs.expressions.+calls.Given as goal

abbrev pub invariant-push_binds-loop-bind : goal.invariant-push_binds-loop-bind
invariant-push_binds-loop-bind l =
    (test : ℕ → Bool) → (list_all test l.numbers && list_all (λ b. expression_passes l.heads test b.value) (drop l.bind-index l.binds))
    ≡ (list_all test l.initial.numbers && list_all (λ b. expression_passes l.heads test b.value) l.binds)

abbrev pub invariant-push_expressions-loop-e : goal.invariant-push_expressions-loop-e
invariant-push_expressions-loop-e l =
    (test : ℕ → Bool) → (list_all test l.numbers && list_all (λ e. expression_passes l.heads test e) (drop l.e-index l.all))
    ≡ (list_all test l.initial.numbers && list_all (λ e. expression_passes l.heads test e) l.all)

abbrev pub invariant-push_otherwise-loop-one : goal.invariant-push_otherwise-loop-one
invariant-push_otherwise-loop-one l =
    (test : ℕ → Bool) → (list_all test l.numbers && list_all (λ b. expression_passes l.heads test b.value) (drop l.one-index l.block.lets))
    ≡ (list_all test l.initial.numbers && list_all (λ b. expression_passes l.heads test b.value) l.block.lets)

abbrev pub invariant-push_pattern-loop-key : goal.invariant-push_pattern-loop-key
invariant-push_pattern-loop-key l =
    (test : ℕ → Bool) → (list_all test l.numbers && list_all (λ f. gap_passes l.heads test f.value) (drop l.key-index l.p.keys))
    ≡ (list_all test l.initial.numbers && list_all (λ f. gap_passes l.heads test f.value) l.p.keys)

abbrev pub invariant-push_pattern-loop-value : goal.invariant-push_pattern-loop-value
invariant-push_pattern-loop-value l =
    (test : ℕ → Bool) → (list_all test l.numbers && list_all (λ f. gap_passes l.heads test f.value) (drop l.value-index (value_part l.p.values)))
    ≡ (list_all test l.initial.numbers && list_all (λ f. gap_passes l.heads test f.value) (value_part l.p.values))

abbrev pub invariant-push_then-loop-one : goal.invariant-push_then-loop-one
invariant-push_then-loop-one l =
    (test : ℕ → Bool) → (list_all test l.numbers && list_all (λ b. expression_passes l.heads test b.value) (drop l.one-index l.x.then.lets))
    ≡ (list_all test l.initial.numbers && list_all (λ b. expression_passes l.heads test b.value) l.x.then.lets)
