use Rattle.std.proofs.Common.{◌∙◌, ap, sym, take}
use Rattle.std.proofs.lemmas.List.{take-map}
use Rattle.policy_infer.specs.working.ScopeViews.{named, scope_of}
use Rattle.policy_infer.proofs.scope.Scope.truncate.Goals as goal

pub returns : goal.returns
returns c =
    ap scope_of c.truncate.ensures.entries ∙ sym (take-map named c.args.len c.self.inside.names.entries) ∙ ap (take c.args.len) c.self.view_is
