use Rattle.std.proofs.Common.{rules}
use Rattle.accept.proofs.FormFacts.{merge_is_none}
use Rattle.accept.proofs.forms.form_of.Goals as goal

pub returns-in_default : goal.returns-in_default
returns-in_default c = merge_is_none c.args.policy.now c.args.command.now (search rules)
