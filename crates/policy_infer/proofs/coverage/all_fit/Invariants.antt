use Rattle.std.proofs.Common.{◌≡◌, drop, map}
use Rattle.std.specs.List.{list_all}
use Rattle.policy_rules.specs.Coverage.{pattern_type, some_fits}
use Rattle.policy_infer.proofs.coverage.all_fit.Given as goal

abbrev pub invariant-loop-value : goal.invariant-loop-value
invariant-loop-value l =
    list_all (λ p. some_fits (pattern_type l.heads p) l.t) (map (λ p. p.now) (drop l.value-index l.values))
    ≡ list_all (λ p. some_fits (pattern_type l.heads p) l.t) (map (λ p. p.now) l.values)
