use Rattle.std.proofs.Common.{◌∙◌, ap, [], ◌∷◌, ◌||◌}
use Rattle.policy_rules.specs.Names.{is_among}
use Rattle.policy_rules.specs.Scopes.{let_names}
use Rattle.policy_heads.proofs.Numbers.{lets_more}
use Rattle.policy_heads.proofs.heads.lets_of.Goals as goal

pub loop-placed-preserved : goal.loop-placed-preserved
loop-placed-preserved c = λ q.
    c.in_ok-put_let.ensures q
    ∙ ap (λ b. b || is_among q (let_names (c.placed-item.result.item ∷ []))) (c.loop-placed.invariant q)
    ∙ lets_more c.args.items.now c.loop-placed.placed-index c.placed-item.result q c.loop-placed-test.true c.placed-item.is
