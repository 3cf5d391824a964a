use Rattle.std.specs.Prelude.{◌≡◌, ◌+◌, drop}
use Rattle.std.specs.List.{common_prefix_len}
use Rattle.replica.specs.working.Changes.{same_entry}
use Rattle.replica.proofs.front.shared_front.Given as goal

abbrev pub invariant-loop-place : goal.invariant-loop-place
invariant-loop-place l = common_prefix_len same_entry l.olds l.news ≡ l.place + common_prefix_len same_entry (drop l.place l.olds) (drop l.place l.news)
