-- What contracts see of the schedule of an object in memory.
use Rattle.std.specs.Prelude.{◌≡◌, ◌≤◌}
use Rattle.outside.specs.Causes.{next_count}
use Rattle.outside.specs.Count.{count_of}
use Rattle.outside.specs.Plan.{Plan}
use Rattle.outside.specs.declared.schedule.Schedule.{Schedule}

-- its plan
abbrev pub plan_of : Schedule → Plan
plan_of schedule =
    record { failing = schedule.failing.items; calls = schedule.calls; faults = count_of schedule.faults }

-- a call was counted, and no fault
pub record CountsCall (old new : Plan) : Type 0 where
  pub failing : new.failing ≡ old.failing
  pub calls : new.calls ≡ next_count old.calls
  pub faults : new.faults ≡ old.faults

-- a fault was counted, and no call
pub record CountsFault (old new : Plan) : Type 0 where
  pub failing : new.failing ≡ old.failing
  pub calls : new.calls ≡ old.calls
  pub faults : new.faults ≡ next_count old.faults
  pub later : old.faults ≤ new.faults
