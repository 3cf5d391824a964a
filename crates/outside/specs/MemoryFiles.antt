-- What contracts see of the files in memory.
use Rattle.std.specs.Prelude.{ℕ, List, find, Option}
use Rattle.std.specs.Option.{option_map}
use Rattle.std.specs.Str.{bytes_eq}
use Rattle.outside.specs.Files.{Holding}
use Rattle.outside.specs.Plan.{Plan}
use Rattle.outside.specs.Schedule.{plan_of}
use Rattle.outside.specs.declared.memory_files.MemoryFiles.{MemoryFiles}

-- the files of a list of names and bytes: at each name, the first that has it
abbrev pub held_in : List (List ℕ × List ℕ) → Holding
held_in files name = option_map (λ file. file.1) (find (λ file. bytes_eq file.0 name) files)

-- the files that it holds
abbrev pub files_held : MemoryFiles → Holding
files_held files = held_in files.files.items

-- the name of the latest read that failed
abbrev pub files_last : MemoryFiles → Option (List ℕ)
files_last files = files.last

-- its calls, counted, and those that are to fail
abbrev pub files_plan : MemoryFiles → Plan
files_plan files = plan_of files.schedule
