use Rattle.std.proofs.Common.{◌≡◌, drop}
use Rattle.policy_meaning.specs.working.Resolutions.{given_names}
use Rattle.policy_rules.specs.FieldLists.{are_distinct}
use Rattle.policy_meaning.proofs.given.are_distinct.Given as goal

abbrev pub invariant-loop-i : goal.invariant-loop-i
invariant-loop-i l = are_distinct (given_names (drop l.i l.given)) ≡ are_distinct (given_names l.given)
