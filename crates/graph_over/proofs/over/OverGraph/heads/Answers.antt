use Rattle.std.proofs.Common.{ℕ, ◌<◌, Bool, List, ◌++◌, length, sym, ap, subst, ◌∙◌}
use Rattle.std.specs.List.{All, list_any}
use Rattle.std.specs.Str.{bytes_eq}
use Rattle.command.specs.Ancestors.{is_parent, places_without}
use Rattle.graph_over.specs.working.Heads.{places_left}
use Rattle.graph_over.proofs.HeadFacts.{heads_inside, heads_over}
use Rattle.graph_over.proofs.over.OverGraph.heads.Goals as goal

pub without_parents-requires : goal.without_parents-requires
without_parents-requires g c =
    let below = g.G.Graph.commands c.args.self.now.base.now in
    subst (λ l. All (λ place. place < length below) l) (sym (c.as_slice-2.ensures ∙ c.in_ok-below.ensures)) (heads_inside below)

pub returns : goal.returns
returns g c =
    let s = c.args.self.now in
    let below = g.G.Graph.commands s.base.now in
    let test : List ℕ → Bool = λ id. list_any (bytes_eq id) c.in_ok-parents.parents.keys in
    c.in_ok-add_heads.ensures
    ∙ ap (λ l. l ++ places_without test (length below) s.added.items) (c.in_ok-heads.ensures ∙ ap (λ l. places_left test below l) (c.as_slice-2.ensures ∙ c.in_ok-below.ensures))
    ∙ heads_over below s.added.items test s.graph.closed (λ id. c.in_ok-parents.ensures id ∙ ap (λ l. is_parent l id) c.as_slice.ensures.value)
