use Rattle.std.specs.Prelude.{◌≡◌, ℕ, Bool, List, ◌++◌, drop}
use Rattle.std.specs.List.{list_any}
use Rattle.std.specs.Str.{bytes_eq}
use Rattle.graph_over.specs.working.Heads.{places_left}
use Rattle.graph_over.proofs.heads.without_parents.Given as goal

abbrev pub invariant-loop-place : goal.invariant-loop-place
invariant-loop-place g l =
    let test : List ℕ → Bool = λ id. list_any (bytes_eq id) l.parents.keys in
    l.left ++ places_left test (g.G.Graph.commands l.graph) (drop l.place-index l.places) ≡ places_left test (g.G.Graph.commands l.graph) l.places
