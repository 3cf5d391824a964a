use Rattle.std.proofs.Common.{◌≡◌, drop}
use Rattle.policy_meaning.specs.working.Resolutions.{given_names}
use Rattle.policy_rules.specs.Names.{is_among}
use Rattle.policy_meaning.proofs.given.is_given.Given as goal

abbrev pub invariant-loop-other : goal.invariant-loop-other
invariant-loop-other l = is_among l.name (given_names (drop l.other-index l.given)) ≡ is_among l.name (given_names l.given)
