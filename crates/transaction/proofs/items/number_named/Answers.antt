use Rattle.std.proofs.Common.{◌∙◌, sym}
use Rattle.policy_rules.specs.Names.{is_named}
use Rattle.policy_meaning.proofs.Positions.{position_behind}
use Rattle.transaction.proofs.items.number_named.Goals as goal

pub returns : goal.returns
returns c = c.position_named.ensures ∙ sym (position_behind (is_named c.args.name.now) (λ p. p.item) c.args.items.now)
