use Rattle.std.proofs.Common.{◌∙◌, ap, if◌then◌else◌, None, Some, get_or}
use Rattle.std.specs.Option.{option_or}
use Rattle.policy_rules.specs.Names.{is_named}
use Rattle.policy_heads.proofs.Numbers.{number_more}
use Rattle.policy_heads.proofs.heads.numbers_of.Goals as goal

pub loop-number-preserved : goal.loop-number-preserved
loop-number-preserved c = λ q.
    c.in_ok-put_number.ensures q
    ∙ ap (λ o. option_or o (if is_named q (get_or c.args.items.now c.loop-number.number c.index-items-number.result).item then Some c.loop-number.number else None)) (c.loop-number.invariant q)
    ∙ number_more c.args.items.now c.loop-number.number c.index-items-number.result q c.loop-number-test.true
