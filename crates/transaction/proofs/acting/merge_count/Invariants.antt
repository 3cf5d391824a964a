use Rattle.std.proofs.Common.{◌≡◌, ◌≤◌, length, take}
use Rattle.std.specs.Prelude.{filter}
use Rattle.command.specs.Kinds.{is_merge}
use Rattle.transaction.proofs.acting.merge_count.Given as goal

abbrev pub invariant-loop-command : goal.invariant-loop-command
invariant-loop-command l = (l.count ≡ length (filter is_merge (take l.command-index l.commands))) × (l.count ≤ l.command-index)
