use Rattle.std.proofs.Common.{take}
use Rattle.policy_depths.specs.working.Gathering.{AreGathered, structs_pass}
use Rattle.policy_depths.proofs.nestings.structs.Given as goal

abbrev pub invariant-loop-number : goal.invariant-loop-number
invariant-loop-number l = AreGathered (structs_pass l.heads) (take l.number l.heads) l.all
