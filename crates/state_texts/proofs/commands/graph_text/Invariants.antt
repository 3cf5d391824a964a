use Rattle.std.proofs.Common.{◌≡◌, ◌++◌, drop, flat_map}
use Rattle.state_texts.specs.States.{command_line, graph_text}
use Rattle.state_texts.proofs.commands.graph_text.Given as goal

abbrev pub invariant-loop-place : goal.invariant-loop-place
invariant-loop-place g l = l.text ++ flat_map command_line (drop l.place (g.G.Graph.commands l.graph)) ≡ graph_text l.name (g.G.Graph.commands l.graph)
