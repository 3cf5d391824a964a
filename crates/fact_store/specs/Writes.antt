-- What create, update and delete make of the rows, or why they change nothing.
use Rattle.std.specs.Prelude.{◌≡◌, ℕ, Bool, ◌&&◌, not, if◌then◌else◌, List, ◌∷◌, ◌++◌, map, Result, Ok, Err, ◌⊎◌}
use Rattle.std.specs.List.{filter, list_any}
use Rattle.base_bytes.specs.declared.value.Value.{Value}
use Rattle.fact_store.specs.declared.row.Row.{Row}
use Rattle.fact_store.specs.declared.wanted.Wanted.{Wanted}
use Rattle.fact_store.specs.declared.write_fault.WriteFault.{WriteFault}
use Rattle.fact_store.specs.declared.write_fault.WriteFault.TheVariants as fault
use Rattle.fact_store.specs.Matching.{has_named, is_at}
use Rattle.fact_store.specs.Rows.{is_before}

-- The rows after a write, or why it changes nothing.
abbrev pub Outcome : Type 0
Outcome = Result (List Row) WriteFault

-- A row of this fact and just these keys is there.
abbrev pub is_there : ℕ → List Value → List Row → Bool
is_there fact keys rows = list_any (is_at fact keys) rows

-- The rows with one more, at its place in fact order.
abbrev pub with_row : Row → List Row → List Row
with_row row rows = filter (λ other. is_before other row) rows ++ row ∷ filter (is_before row) rows

-- The row with these values, if it is of this fact and just these keys.
abbrev pub revalued : ℕ → List Value → List Value → Row → Row
revalued fact keys values row = if is_at fact keys row then record row { values = values } else row

-- The row of this fact and just these keys lacks a named value.
abbrev pub is_other : Wanted → Row → Bool
is_other old row = is_at old.fact old.keys row && not (has_named old.values row.values)

-- A new row, unless one of its fact and keys is there.
abbrev pub created : Row → List Row → Outcome
created row rows = if is_there row.fact row.keys rows then Err fault.Exists else Ok (with_row row rows)

-- New values for the row of just these keys, where it is there and has the named old values.
abbrev pub updated : Wanted → List Value → List Row → Outcome
updated old values rows =
    if not (is_there old.fact old.keys rows) then Err fault.Missing
    else if list_any (is_other old) rows then Err fault.Differs
    else Ok (map (revalued old.fact old.keys values) rows)

-- The rows without the one of just these keys, where it is there.
abbrev pub deleted : ℕ → List Value → List Row → Outcome
deleted fact keys rows = if is_there fact keys rows then Ok (filter (λ row. not (is_at fact keys row)) rows) else Err fault.Missing

-- A write of this outcome leaves the new rows and answers Ok, or leaves the old ones and answers why. Running out of memory may come instead of either, and leaves the old ones.
abbrev pub Writes : Outcome → List Row → Result (Unit {0}) WriteFault → List Row → Type 0
Writes outcome old (Ok done) new = outcome ≡ Ok new
Writes outcome old (Err why) new = (new ≡ old) × ((why ≡ fault.NoMemory) ⊎ (outcome ≡ Err why))
