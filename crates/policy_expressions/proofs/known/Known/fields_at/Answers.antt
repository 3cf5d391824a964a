use Rattle.std.proofs.Common.{◌∙◌, ap, sym, [], arith, unwrap_or}
use Rattle.std.specs.Option.{option_copied}
use Rattle.policy_expressions.proofs.FieldFacts.{names_beyond, names_there}
use Rattle.policy_expressions.specs.Policies.{names_at}
use Rattle.policy_rules.specs.Scopes.{names_in}
use Rattle.policy_expressions.proofs.known.Known.fields_at.Goals as goal

pub returns-in-Some : goal.returns-in-Some
returns-in-Some c =
    sym (ap (λ o. names_in (unwrap_or (option_copied o) [])) c.in-Some.is)
    ∙ names_there c.self.inside.heads c.args.number (omega (arith, c.len.ensures, c.if-number-len.true)) c.struct_at.result c.struct_at.ensures
    ∙ ap (λ items. names_at items c.args.number) c.self.view_is

pub returns-else-number-len : goal.returns-else-number-len
returns-else-number-len c =
    names_beyond c.self.inside.heads c.args.number (omega (arith, c.len.ensures, c.if-number-len.false)) ∙ ap (λ items. names_at items c.args.number) c.self.view_is
