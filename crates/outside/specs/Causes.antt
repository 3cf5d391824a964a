-- Counts of faults: what it is that one rose, and which answers need that it did.
use Rattle.std.specs.Prelude.{◌≡◌, ℕ, ◌+◌, ◌-◌, ◌^◌, ◌≤◌, min, Result, Ok, Err, OnErr, OnOk}
use Rattle.outside.specs.declared.faults.Failed.{Failed}
use Rattle.outside.specs.declared.faults.ReadFail.{ReadFail}
use Rattle.outside.specs.declared.faults.ReadFail.TheVariants as fail

-- one more, and no more than a number of 64 bits holds
abbrev pub next_count : ℕ → ℕ
next_count n = min (n + 1) (2 ^ 64 - 1)

-- the count rose: it is greater now than before, or stands at the greatest number of 64 bits
abbrev pub Rose : ℕ → ℕ → Type 0
Rose before now = next_count before ≤ now

-- a call's count of faults before and after: it doesn't fall; where the call failed it rose, and else it stays
pub record HasCause {T : Type 0} (before now : ℕ) (result : Result T Failed) : Type 0 where
  pub later : before ≤ now
  pub failed : OnErr result (Rose before now)
  pub same : OnOk result (now ≡ before)

-- the same of a read, which may also lack memory: then the count stays too
pub record ReadHasCause {T : Type 0} (before now : ℕ) (result : Result T ReadFail) : Type 0 where
  pub later : before ≤ now
  pub failed : result ≡ Err fail.Failed → Rose before now
  pub no_memory : result ≡ Err fail.NoMemory → now ≡ before
  pub same : OnOk result (now ≡ before)

-- the count after a call, of an object that counts its failed calls one by one
abbrev pub faults_after : {T : Type 0} → Result T Failed → ℕ → ℕ
faults_after (Ok x) before = before
faults_after (Err e) before = next_count before

-- the same of a read
abbrev pub read_faults_after : {T : Type 0} → Result T ReadFail → ℕ → ℕ
read_faults_after (Ok x) before = before
read_faults_after (Err fail.Failed) before = next_count before
read_faults_after (Err fail.NoMemory) before = before
