-- Calls on a disk that look at it, one after another.
use Rattle.std.proofs.Common.{◌∙◌, ℕ, ◌≤◌, Bool, Option, Result, Ok, Err, refl, arith}
use Rattle.outside.specs.Causes.{Rose}
use Rattle.outside.specs.Disk.{Content}
use Rattle.outside.specs.declared.faults.DiskStep.{DiskStep}
use Rattle.journal.specs.working.Scanning.{FailsNever, FailsWith, Keeps, Looks}
use Rattle.journal.specs.declared.stop.Stop.{Stop}
use Rattle.journal.specs.declared.stop.Stop.TheVariants as stop

-- a count that rose from a later number rose from an earlier one
pub rose_before : (before mid now : ℕ) → before ≤ mid → Rose mid now → Rose before now
rose_before before mid now le rose = omega (arith, le, rose)

pub fails_before : {X : Type 0} (result : Result X Stop) (before mid now : ℕ) (last : Option DiskStep) → before ≤ mid → FailsWith result mid now last → FailsWith result before now last
fails_before (Ok x) before mid now last le is = tt
fails_before (Err stop.Malformed) before mid now last le is = tt
fails_before (Err (stop.Disk step)) before mid now last le is = (rose_before before mid now le is.0, is.1)
fails_before (Err stop.NoMemory) before mid now last le is = tt

pub never_fails : {X : Type 0} (result : Result X Stop) (before now : ℕ) (last : Option DiskStep) → FailsNever result → FailsWith result before now last
never_fails (Ok x) before now last is = tt
never_fails (Err stop.Malformed) before now last is = tt
never_fails (Err (stop.Disk step)) before now last is = absurd is
never_fails (Err stop.NoMemory) before now last is = tt

module _ {D : Type 0} {tells : Bool} {content : D → Content} {honest : D → Bool} {faults : D → ℕ} where
  pub keeps_itself : (disk : D) → Keeps tells content honest faults disk disk
  keeps_itself disk = record { reads = λ told. refl; same = λ told is. refl; honesty = refl; later = omega arith }

  pub keeps_then : (old mid new : D) → Keeps tells content honest faults old mid → Keeps tells content honest faults mid new → Keeps tells content honest faults old new
  keeps_then old mid new first second = record {
    reads = λ told. second.reads told ∙ first.reads told;
    same = λ told is. second.same told (first.honesty ∙ is) ∙ first.same told is;
    honesty = second.honesty ∙ first.honesty;
    later = omega (arith, first.later, second.later);
  }

  module _ {last_step : D → Option DiskStep} {X : Type 0} where
    -- a call behind others
    pub looks_then : (old mid new : D) (result : Result X Stop) → Keeps tells content honest faults old mid → Looks tells content honest faults last_step mid new result → Looks tells content honest faults last_step old new result
    looks_then old mid new result first second = record {
      kept = keeps_then old mid new first second.kept;
      cause = fails_before result (faults old) (faults mid) (faults new) (last_step new) first.later second.cause;
    }

    -- an answer that no disk is asked for
    pub looks_no_more : (old new : D) (result : Result X Stop) → Keeps tells content honest faults old new → FailsNever result → Looks tells content honest faults last_step old new result
    looks_no_more old new result kept never = record { kept = kept; cause = never_fails result (faults old) (faults new) (last_step new) never }
