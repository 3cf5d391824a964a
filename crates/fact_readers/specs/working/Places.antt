-- The place of a row, and the refusals of a write.
use Rattle.std.specs.Prelude.{Bool, true, false, []}
use Rattle.fact_store.specs.declared.row.Row.{Row}
use Rattle.fact_store.specs.declared.wanted.Wanted.{Wanted}
use Rattle.fact_store.specs.declared.write_fault.WriteFault.{WriteFault}
use Rattle.fact_store.specs.declared.write_fault.WriteFault.TheVariants as fault

-- The query of a row's keys that names no value.
abbrev pub place_of : Row → Wanted
place_of row = record { fact = row.fact; keys = row.keys; values = [] }

-- There was no row at the place.
abbrev pub is_missing : WriteFault → Bool
is_missing fault.Exists = false
is_missing fault.Missing = true
is_missing fault.Differs = false
is_missing fault.NoMemory = false
