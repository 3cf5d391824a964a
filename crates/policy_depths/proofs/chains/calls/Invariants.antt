use Rattle.std.proofs.Common.{take}
use Rattle.policy_depths.specs.working.Gathering.{AreGathered, item_passes}
use Rattle.policy_depths.proofs.chains.calls.Given as goal

abbrev pub invariant-loop-number : goal.invariant-loop-number
invariant-loop-number l = AreGathered (item_passes l.heads) (take l.number l.heads) l.all
