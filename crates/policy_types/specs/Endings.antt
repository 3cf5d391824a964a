-- How evaluations of well-typed trees end.
use Rattle.std.specs.Prelude.{◌≡◌, None}
use Rattle.policy_meaning.specs.Outcomes.{Halt, Check, Fault, Stuck, Out, Done, Ends}

-- Why an evaluation of a well-typed tree may end early: a check fails, which names no recall, or there is a fault.
abbrev pub MayHalt : Halt → Type 0
MayHalt (Check recall) = recall ≡ None
MayHalt (Fault kind) = Unit {0}
MayHalt Stuck = ⊥

-- An evaluation gives something that is as asked for, or it ends early for such a reason. So it isn't stuck.
abbrev pub Gives : {A : Type 0} → (A → Type 0) → Out A → Type 0
Gives good (Done x turns) = good x
Gives good (Ends halt) = MayHalt halt
