use Rattle.std.specs.Prelude.{◌≡◌, ◌+◌, ◌++◌, length}
use Rattle.std.specs.Vec.Iter.{into_iter_items, into_iter_len}
use Rattle.braid_run.proofs.state.append_all.Given as goal

-- What is appended and what is left are what there was and what was given.
abbrev pub invariant-loop-command : goal.invariant-loop-command
invariant-loop-command g l = record {
  whole : g.G.Graph.commands l.graph ++ into_iter_items l.command-iterator ≡ g.G.Graph.commands l.fn.graph ++ l.fn.commands.items;
  room : g.G.Graph.room l.graph + length l.fn.commands.items ≡ g.G.Graph.room l.fn.graph + length (into_iter_items l.command-iterator);
  counted : into_iter_len l.command-iterator ≡ length (into_iter_items l.command-iterator);
}
