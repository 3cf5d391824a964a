use Rattle.std.proofs.Common.{◌≡◌, take}
use Rattle.command.specs.Cuts.{cuts}
use Rattle.command.proofs.cuts.cut_of.Given as goal

abbrev pub invariant-loop-next : goal.invariant-loop-next
invariant-loop-next g l = l.numbers.items ≡ cuts (take l.next (g.G.Graph.commands l.graph))
