use Rattle.std.proofs.Common.{◌<◌, ◌++◌, length, sym, ◌∙◌, arith}
use Rattle.command.proofs.AncestorFacts.{kept}
use Rattle.command.proofs.PlaceFacts.{older_first}
use Rattle.graph_over.proofs.PlaceFacts.{ancestor_below, at_front}
use Rattle.graph_over.proofs.over.OverGraph.is_ancestor.Goals as goal

pub returns-then-newer-older : goal.returns-then-newer-older
returns-then-newer-older g c = λ x y at there.
    let s = c.args.self.now in
    ((λ h. absurd cc), (λ a. absurd (older_first (g.G.Graph.commands s.base.now ++ s.added.items) s.graph.closed c.args.older c.args.newer x y at there c.if-newer-older.true a)))

pub returns-then-newer-len : goal.returns-then-newer-len
returns-then-newer-len g c = λ x y at there.
    let s = c.args.self.now in
    let below = g.G.Graph.commands s.base.now in
    let second : c.args.newer < length below = omega (arith, c.if-newer-len.true, c.len.ensures) in
    let first : c.args.older < length below = omega (arith, c.if-newer-older.false, second) in
    let found = c.in_ok-found.ensures x y (sym (at_front below s.added.items c.args.older first) ∙ at) (sym (at_front below s.added.items c.args.newer second) ∙ there) in
    ((λ h. kept below s.added.items x y (found.0 h)), (λ a. found.1 (ancestor_below below s.added.items s.graph.closed c.args.newer x y second there a)))
