use Rattle.std.specs.Prelude.{◌≡◌, ◌++◌, length}
use Rattle.std.specs.Vec.Iter.{into_iter_items, into_iter_len}
use Rattle.graph_over.proofs.room.gathered.Given as goal

-- What is moved and what is left are what there was.
abbrev pub invariant-loop-command : goal.invariant-loop-command
invariant-loop-command l = record {
  whole : l.all ++ into_iter_items l.command-iterator ≡ l.fn.commands.items;
  counted : into_iter_len l.command-iterator ≡ length (into_iter_items l.command-iterator);
}
