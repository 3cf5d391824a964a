use Rattle.std.specs.Prelude.{◌≡◌, ℕ, Bool, List, ◌++◌, drop, length}
use Rattle.std.specs.List.{list_any}
use Rattle.std.specs.Str.{bytes_eq}
use Rattle.command.specs.Ancestors.{places_without}
use Rattle.graph_over.proofs.over.Over.add_heads.Given as goal

abbrev pub invariant-loop-place : goal.invariant-loop-place
invariant-loop-place g l =
    let test : List ℕ → Bool = λ id. list_any (bytes_eq id) l.parents.keys in
    let below = g.G.Graph.commands l.self.base.now in
    l.heads ++ places_without test l.place (drop l.place (below ++ l.self.added.items)) ≡ l.initial.heads ++ places_without test (length below) l.self.added.items
