use Rattle.std.proofs.Common.{rules, ◌≡◌, ◌++◌, ◌∷◌, [], Some, sym, ap, ◌∙◌, subst, List}
use Rattle.fact_readers.specs.declared.change.RowChange.{RowChange}
use Rattle.fact_readers.specs.working.Book.{last_of}
use Rattle.fact_readers.proofs.Fronts.{last_is}
use Rattle.fact_readers.proofs.writer.lay.Goals as goal

pub laid-requires : goal.laid-requires
laid-requires g c =
    let queued = c.in-Some-pop_front.queued in
    let front = c.args.front.now in
    let added : c.add.new.self ≡ front ++ c.next.inside.changes.items ∷ [] = search rules in
    let same : c.in-Some.next.now ≡ queued = search rules in
    let is : c.again.result ≡ front ++ queued ∷ [] = c.again.ensures ∙ (added ∙ ap (λ q. front ++ q ∷ []) (c.next.view_is ∙ same)) in
    subst (λ (z : List (List RowChange)). last_of z ≡ Some queued) (sym is) (last_is front queued)
