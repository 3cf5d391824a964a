use Rattle.std.proofs.Common.{◌≡◌, ◌++◌, replicate}
use Rattle.fact_readers.specs.Readers.{seen_only}
use Rattle.fact_readers.proofs.opening.seat.Given as goal

abbrev pub invariant-loop : goal.invariant-loop
invariant-loop g l = l.readers.items ≡ l.initial.readers.items ++ replicate l.counter (seen_only l.front)
