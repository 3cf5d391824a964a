-- Which calls of an object in memory are to fail.
use Rattle.std.specs.Prelude.{ℕ, List, Contains, Result}
use Rattle.outside.specs.Causes.{next_count, faults_after, read_faults_after}
use Rattle.outside.specs.declared.faults.Failed.{Failed}
use Rattle.outside.specs.declared.faults.ReadFail.{ReadFail}

-- the numbers, from 1, of the calls that are to fail, and how many calls there were and failed so far
pub record Plan : Type 0 where
  pub failing : List ℕ
  pub calls : ℕ
  pub faults : ℕ

-- the plan of an object that had no call yet
abbrev pub plan_at_start : List ℕ → Plan
plan_at_start failing = record { failing = failing; calls = 0; faults = 0 }

-- the next call is one of those that are to fail
abbrev pub IsDue : Plan → Type 0
IsDue plan = Contains plan.failing (next_count plan.calls)

-- the plan after a call
abbrev pub plan_after : {T : Type 0} → Result T Failed → Plan → Plan
plan_after result plan =
    record { failing = plan.failing; calls = next_count plan.calls; faults = faults_after result plan.faults }

-- the plan after a read
abbrev pub plan_after_read : {T : Type 0} → Result T ReadFail → Plan → Plan
plan_after_read result plan =
    record { failing = plan.failing; calls = next_count plan.calls; faults = read_faults_after result plan.faults }
