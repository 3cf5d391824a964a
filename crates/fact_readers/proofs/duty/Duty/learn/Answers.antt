use Rattle.std.proofs.Common.{rules, le_refl, subst, List}
use mathlib.Core.List.{IsPrefix}
use Rattle.fact_readers.specs.declared.change.RowChange.{RowChange}
use Rattle.fact_readers.proofs.Lessons.{learns}
use Rattle.fact_readers.proofs.duty.Duty.learn.Goals as goal

pub invariant_of-result : goal.invariant_of-result
invariant_of-result g c =
    let d = c.self.inside in
    let that : IsPrefix c.args.told.now.0 c.longer-longest.result = subst (λ (z : List (List RowChange)). IsPrefix z c.longer-longest.result) c.front.ensures c.longer-longest.ensures.that in
    rw (c.again-seen.ensures, c.with-learnt.ensures) (learns d.longest c.longer-longest.result d.seen d.learnt c.args.told.now d.most d.fewest d.most d.fewest c.self.invariant c.longer-longest.ensures.this (le_refl _) (le_refl _) (that, search rules))

pub invariant_of-result-2 : goal.invariant_of-result-2
invariant_of-result-2 g c =
    let d = c.self.inside in
    let that : IsPrefix c.args.told.now.0 c.longer-longest.result = subst (λ (z : List (List RowChange)). IsPrefix z c.longer-longest.result) c.front.ensures c.longer-longest.ensures.that in
    rw (c.again-seen.ensures, c.with-learnt.ensures) (learns d.longest c.longer-longest.result d.seen d.learnt c.args.told.now d.most d.fewest c.max.result c.min.result c.self.invariant c.longer-longest.ensures.this (search rules) (search rules) (that, λ last. (search rules, search rules)))
