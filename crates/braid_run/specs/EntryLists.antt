-- A list of entries as contracts see it.
use Rattle.std.specs.Prelude.{ℕ, List}
use Rattle.braid_run.specs.declared.entry.Entry.{Entry}

-- The entries, and how many more can be added without memory.
pub record EntryList : Type 0 where
  pub all : List Entry
  pub room : ℕ
