use Rattle.std.proofs.Common.{◌∙◌, ap}
use Rattle.policy_rules.specs.Scopes.{type_in}
use Rattle.policy_infer.proofs.ScopeFacts.{looked_up}
use Rattle.policy_infer.proofs.scope.Scope.type_in.Goals as goal

pub returns : goal.returns
returns c =
    c.get.ensures.value ∙ looked_up c.as_str.result.now c.self.inside.names.entries ∙ ap (λ scope. type_in scope c.as_str.result.now) c.self.view_is
    ∙ ap (type_in c.args.self.now) c.as_str.ensures.text
