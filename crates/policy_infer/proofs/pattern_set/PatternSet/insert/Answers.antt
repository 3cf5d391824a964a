use Rattle.std.proofs.Common.{◌∙◌, ap, not}
use Rattle.std.specs.List.{list_any}
use Rattle.policy_rules.specs.Coverage.{same_pattern}
use Rattle.policy_infer.proofs.ListedFacts.{any_listed}
use Rattle.policy_infer.specs.working.Listed.{listed_value}
use Rattle.policy_infer.proofs.pattern_set.PatternSet.insert.Goals as goal

pub returns-clause-is_new : goal.returns-clause-is_new
returns-clause-is_new c =
    c.in_ok-insert.ensures.added
    ∙ ap not
    (any_listed c.value_of.result c.self.inside.values.keys ∙ ap (list_any (same_pattern (listed_value c.value_of.result))) c.self.view_is
    ∙ ap (λ p. list_any (same_pattern p) c.args.self.now) c.value_of.ensures)
