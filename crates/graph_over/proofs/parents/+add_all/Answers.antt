use Rattle.std.proofs.Common.{subst, sym}
use Rattle.graph_over.specs.working.Ids.{AreAdded}
use Rattle.graph_over.proofs.AddedIds.{first_added}
use Rattle.graph_over.proofs.parents.+add_all.Goals as goal

pub returns : goal.returns
returns t c =
    subst (λ all. AreAdded c.args.ids.now.keys all c.add_all.new.ids.keys) (sym c.in-Some.ensures.cases.0)
    (first_added c.args.ids.now.keys c.add.new.ids.keys c.add_all.new.ids.keys c.in-Some.first.now c.in-Some.rest.now c.in_ok-add.ensures c.in_ok-add_all.ensures)
