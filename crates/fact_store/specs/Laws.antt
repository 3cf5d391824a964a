-- What the laws of rows speak of.
use Rattle.std.specs.Prelude.{◌≡◌, ℕ, Bool, false, IsTrue, IfOk, List}
use Rattle.std.specs.List.{filter}
use Rattle.base_bytes.specs.declared.value.Value.{Value}
use Rattle.fact_store.specs.declared.row.Row.{Row}
use Rattle.fact_store.specs.Matching.{is_at}
use Rattle.fact_store.specs.Rows.{are_keys, is_base}
use Rattle.fact_store.specs.Writes.{Outcome}

-- Where the write comes through, the rows are those of a base.
abbrev pub LeavesBase : Outcome → Type 0
LeavesBase outcome = IfOk outcome (λ after. IsTrue (is_base after))

-- Where the write comes through, the test takes the same rows before it and after it.
abbrev pub LeavesTaken : (Row → Bool) → List Row → Outcome → Type 0
LeavesTaken test rows outcome = IfOk outcome (λ after. filter test after ≡ filter test rows)

-- The test holds of no row of this fact and just these keys.
abbrev pub IsElsewhere : (Row → Bool) → ℕ → List Value → Type 0
IsElsewhere test fact keys = (row : Row) → IsTrue (is_at fact keys row) → test row ≡ false

-- Where the write comes through, these are the rows of this fact and just these keys.
abbrev pub LeavesAt : ℕ → List Value → List Row → Outcome → Type 0
LeavesAt fact keys rows outcome = IfOk outcome (λ after. filter (is_at fact keys) after ≡ rows)

-- At each place of key values the two lists hold the same.
abbrev pub HoldsSame : List Row → List Row → Type 0
HoldsSame rows others = (fact : ℕ) (keys : List Value) → IsTrue (are_keys keys) → filter (is_at fact keys) rows ≡ filter (is_at fact keys) others
