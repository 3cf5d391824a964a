use Rattle.std.proofs.Common.{◌∙◌, ap, sym, take}
use Rattle.std.proofs.lemmas.List.{take-map}
use Rattle.policy_expressions.specs.Views.{bound_of, env_of}
use Rattle.policy_expressions.proofs.env.Env.truncate.Goals as goal

pub returns : goal.returns
returns c = ap env_of c.truncate.ensures.items ∙ sym (take-map bound_of c.args.len c.self.inside.bindings.items) ∙ ap (take c.args.len) c.self.view_is
