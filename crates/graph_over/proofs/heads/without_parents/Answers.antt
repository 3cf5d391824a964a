use Rattle.std.proofs.Common.{ℕ, ◌+◌, Bool, List, ◌++◌, drop, get_or, sym, ap, ◌∙◌}
use Rattle.std.specs.List.{list_any}
use Rattle.std.specs.Str.{bytes_eq}
use Rattle.std.proofs.lemmas.List.{drop_more}
use Rattle.graph_over.specs.working.Heads.{places_left}
use Rattle.graph_over.proofs.HeadFacts.{left_next}
use Rattle.graph_over.proofs.heads.without_parents.Goals as goal

pub loop-place-preserved : goal.loop-place-preserved
loop-place-preserved g c =
    let test : List ℕ → Bool = λ id. list_any (bytes_eq id) c.args.parents.now.keys in
    let cs = g.G.Graph.commands c.args.graph.now in
    let i = c.loop-place.place-index in
    let places = c.args.places.now in
    left_next test cs c.loop-place.left c.add_head.new.heads (get_or places i 0) (drop (i + 1) places) (places_left test cs places) c.id_at.result c.id_at.ensures
    (ap (λ l. c.loop-place.left ++ places_left test cs l) (sym (drop_more places i 0 c.loop-place-test.true)) ∙ c.loop-place.invariant) c.in_ok-add_head.ensures
