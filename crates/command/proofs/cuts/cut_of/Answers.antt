use Rattle.std.proofs.Common.{◌≡◌, ℕ, zero, suc, ◌+◌, ◌<◌, ◌++◌, ◌∷◌, [], List, length, get_or, take, rules, sym, ap, subst, ◌∙◌, arith, length-take}
use Rattle.command.specs.Cuts.{cuts, next_cut}
use Rattle.command.specs.Kinds.{parents_of}
use Rattle.command.proofs.CutFacts.{cut_in_front, cut_low, cuts_front, front_places, length-cuts}
use Rattle.command.proofs.cuts.cut_of.Goals as goal

pub next_cut-cut-requires : goal.next_cut-cut-requires
next_cut-cut-requires g c =
    let cs = g.G.Graph.commands c.args.graph.now in
    let size = length-take c.loop-next.next cs in
    let few = g.met.G.Graph.few c.args.graph.now in
    let lt = c.loop-next-test.true in
    record {
      small = λ place.
          let low = cut_low (take c.loop-next.next cs) place in
          let is : get_or c.as_slice.result.now place 0 ≡ get_or (cuts (take c.loop-next.next cs)) place 0 = ap (λ l. get_or l place 0) (search rules ∙ c.loop-next.invariant) in
          omega (arith, size, few, lt, low, is, c.requires);
    }

pub loop-next-preserved : goal.loop-next-preserved
loop-next-preserved g c =
    let cs = g.G.Graph.commands c.args.graph.now in
    let n = c.loop-next.next in
    let x = c.at.result.now in
    let value : c.next_cut-cut.result ≡ next_cut (take n cs) (cuts (take n cs)) (parents_of x) =
    search rules ∙ front_places cs (g.met.G.Graph.closed c.args.graph.now) n x c.at.ensures (cuts (take n cs))
    in
    search rules ∙ ap (λ l. l ++ c.next_cut-cut.result ∷ []) c.loop-next.invariant ∙ ap (λ k. cuts (take n cs) ++ k ∷ []) value ∙ sym (cuts_front cs n x c.at.ensures)

pub index-requires : goal.index-requires
index-requires g c =
    let cs = g.G.Graph.commands c.args.graph.now in
    omega (arith, c.loop-next.numbers.ok.0, ap length c.loop-next.invariant, length-cuts (take c.loop-next.next cs), length-take c.loop-next.next cs, c.loop-next-test.false, c.requires)

pub returns : goal.returns
returns g c =
    let cs = g.G.Graph.commands c.args.graph.now in
    let n = c.loop-next.next in
    let within = c.requires in
    let lt = c.loop-next-test.false in
    let there : c.args.place < length c.loop-next.numbers.items = omega (arith, ap length c.loop-next.invariant, length-cuts (take n cs), length-take n cs, lt, within) in
    read c.loop-next.numbers.items c.args.place c.index.result.now there c.index.ensures
    ∙ ap (λ l. get_or l c.args.place 0) c.loop-next.invariant ∙ cut_in_front cs n c.args.place (omega (arith, lt)) within
  where
    read : (numbers : List ℕ) (p k : ℕ) → p < length numbers → k ≡ get_or numbers p k → k ≡ get_or numbers p 0
    read [] p k lt is = absurd (omega (arith, lt))
    read (m ∷ numbers) zero k lt is = is
    read (m ∷ numbers) (suc p) k lt is = read numbers p k (omega (arith, lt)) is
