use Rattle.std.proofs.Common.{◌≡◌, ℕ, ◌<◌, Bool, true, false, List, length, get_or, set, subst, sym, ◌∙◌}
use Rattle.std.proofs.lemmas.Option.{get_or_from_slice_get, slice_get-get_or}
use Rattle.graph_set.specs.working.Walks.{MarksWhere}
use Rattle.graph_set.proofs.WalkFacts.{none_new, one_new}
use Rattle.graph_over.proofs.walk.Walk.add.Goals as goal

read_mark : (marks : List Bool) (number : ℕ) (mark : Bool) → number < length marks → mark ≡ get_or marks number mark → get_or marks number false ≡ mark
read_mark marks number mark lt is = get_or_from_slice_get marks number (get_or marks number mark) false (slice_get-get_or marks number mark lt) ∙ sym is

pub returns-then-index : goal.returns-then-index
returns-then-index c =
    let marks = c.args.self.now.marks.items in
    let mark = read_mark marks c.args.number c.index.result.now c.requires c.index.ensures ∙ c.if-index.true in
    none_new (λ k. k ≡ c.args.number) marks c.args.self.now.due.items (λ k same. subst (λ n. get_or marks n false ≡ true) (sym same) mark)

pub returns : goal.returns
returns c =
    let marks = c.args.self.now.marks.items in
    let due = c.args.self.now.due.items in
    subst (λ l. MarksWhere (λ k. k ≡ c.args.number) marks due (set marks c.args.number true) l) (sym c.in_ok-push.ensures.items)
    (one_new marks due c.args.number c.requires (read_mark marks c.args.number c.index.result.now c.requires c.index.ensures ∙ c.if-index.false))
