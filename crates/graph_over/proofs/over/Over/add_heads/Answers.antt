use Rattle.std.proofs.Common.{ℕ, Bool, List, ◌++◌, drop, length, refl, ap, ◌∙◌, arith}
use Rattle.std.specs.List.{list_any}
use Rattle.std.specs.Str.{bytes_eq}
use Rattle.std.proofs.lemmas.List.{drop_at}
use Rattle.command.specs.Ancestors.{places_without}
use Rattle.graph_over.proofs.GatheredHeads.{next_place, last_place}
use Rattle.graph_over.proofs.over.Over.add_heads.Goals as goal

pub loop-place-init : goal.loop-place-init
loop-place-init g c =
    let test : List ℕ → Bool = λ id. list_any (bytes_eq id) c.args.parents.now.keys in
    let below = g.G.Graph.commands c.args.self.now.base.now in
    let added = c.args.self.now.added.items in
    ap (λ n. c.args.heads.now ++ places_without test n (drop n (below ++ added))) c.len-place.ensures
    ∙ ap (λ l. c.args.heads.now ++ places_without test (length below) l) (drop_at below added (length below) refl)

pub loop-place-preserved : goal.loop-place-preserved
loop-place-preserved g c =
    let test : List ℕ → Bool = λ id. list_any (bytes_eq id) c.args.parents.now.keys in
    let below = g.G.Graph.commands c.args.self.now.base.now in
    let added = c.args.self.now.added.items in
    next_place (below ++ added) test c.loop-place.heads c.add_head.new.heads c.loop-place.place c.id_at.result (c.args.heads.now ++ places_without test (length below) added) c.id_at.ensures c.loop-place.invariant c.in_ok-add_head.ensures

pub returns : goal.returns
returns g c =
    let test : List ℕ → Bool = λ id. list_any (bytes_eq id) c.args.parents.now.keys in
    let below = g.G.Graph.commands c.args.self.now.base.now in
    let added = c.args.self.now.added.items in
    last_place (below ++ added) test c.loop-place.heads c.loop-place.place (c.args.heads.now ++ places_without test (length below) added) (omega (arith, c.loop-place-test.false, c.len-place-end.ensures)) c.loop-place.invariant
