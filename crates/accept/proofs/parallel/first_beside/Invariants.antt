use Rattle.std.proofs.Common.{◌≤◌, drop, length}
use Rattle.accept.specs.Admission.{IsFirstFinalizeWithout}
use Rattle.command.specs.Ancestors.{IsAt, IsUpTo}
use Rattle.command.specs.declared.command.Command.{Command}
use Rattle.accept.proofs.parallel.first_beside.Given as goal

-- What was found so far is the first of those that were looked at.
abbrev pub invariant-loop-place : goal.invariant-loop-place
invariant-loop-place g l = record {
  within : l.place ≤ length (g.G.Graph.commands l.graph);
  first : (p : Command) → IsAt (g.G.Graph.commands l.graph) l.tip p → IsFirstFinalizeWithout (IsUpTo (g.G.Graph.commands l.graph) p) (drop l.place (g.G.Graph.commands l.graph)) l.first;
}

abbrev pub decreases-loop-place : goal.decreases-loop-place
decreases-loop-place g l = l.place
