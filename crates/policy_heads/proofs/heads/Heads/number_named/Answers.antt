use Rattle.std.proofs.Common.{rules}
use Rattle.policy_rules.specs.Names.{is_named}
use Rattle.policy_heads.proofs.Numbers.{place_within}
use Rattle.policy_heads.proofs.heads.Heads.number_named.Goals as goal

pub returns-clause-within : goal.returns-clause-within
returns-clause-within c = place_within (is_named c.args.name.now) c.args.self.now c.copied.result (search rules)
