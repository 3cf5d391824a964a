use Rattle.std.proofs.Common.{◌≡◌, ◌∙◌, Some, None, sym}
use Rattle.policy_heads.proofs.Numbers.{first_of_name}
use Rattle.policy_heads.proofs.heads.Heads.is_first.Goals as goal

pub returns-in-Some : goal.returns-in-Some
returns-in-Some c = first_of_name c.args.self.now c.args.number c.args.name.now c.requires (Some c.in-Some.first) (sym c.number_named.ensures.number ∙ c.in-Some.is)

pub returns-in-None : goal.returns-in-None
returns-in-None c = absurd (first_of_name c.args.self.now c.args.number c.args.name.now c.requires None (sym c.number_named.ensures.number ∙ c.in-None.is))
