use Rattle.std.proofs.Common.{◌∙◌}
use Rattle.policy_check.proofs.Verdicts.{judged}
use Rattle.policy_check.proofs.judge.Judge.is_item.Goals as goal

pub returns : goal.returns
returns c = λ i there.
    let own = rw (← c.self.view_is) at there in
    c.all_hold.ensures
    ∙ rw (← c.self.view_is)
    (judged c.self.inside.heads c.self.inside.nestings c.self.inside.chains c.args.number c.item_at-item.result.now i c.is_free_name-is_free.result c.in_ok-is_of_kind.is_of_kind
    c.holds-nests.result c.holds-chains.result (c.self.invariant.0) (c.self.invariant.1) c.item_at-item.ensures own c.is_free_name-is_free.ensures c.in_ok-is_of_kind.ensures
    (rw c.as_slice.ensures at c.holds-nests.ensures) (rw c.as_slice-2.ensures at c.holds-chains.ensures))
