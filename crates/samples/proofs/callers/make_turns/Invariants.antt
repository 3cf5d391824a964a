use Rattle.turn_lock.specs.Callers.{IsAtRest}
use Rattle.samples.proofs.callers.make_turns.Given as goal

abbrev pub invariant-loop-at : goal.invariant-loop-at
invariant-loop-at g l = IsAtRest l.fn.lock l.pass
