use Rattle.std.proofs.Common.{◌∙◌, ap, sym, None, Some, get_or}
use Rattle.policy_rules.specs.Names.{is_named}
use Rattle.policy_heads.proofs.Numbers.{position_finds}
use Rattle.policy_heads.proofs.heads.Heads.head_named.Goals as goal

pub returns-in-Some : goal.returns-in-Some
returns-in-Some c =
    let found = position_finds (is_named c.args.name.now) c.args.self.now (Some c.in-Some.number) (sym c.number_named.ensures.number ∙ c.in-Some.is) in
    sym (found.1 c.index.result.now ∙ ap Some (ap (λ items. get_or items c.in-Some.number c.index.result.now) (sym c.self.view_is) ∙ sym c.index.ensures))

pub returns-in-None : goal.returns-in-None
returns-in-None c = sym (position_finds (is_named c.args.name.now) c.args.self.now None (sym c.number_named.ensures.number ∙ c.in-None.is))
