-- The moments of a disk in memory, by its calls and what its writes replaced.
use Rattle.std.specs.Prelude.{ℕ, ◌+◌, List, [], ◌∷◌, ◌++◌, take, drop}
use Rattle.outside.specs.Disk.{Moment, at_rest, with_range}
use Rattle.outside.specs.declared.call.Call.{Call}
use Rattle.outside.specs.declared.call.Call.TheVariants as call
use Rattle.outside.specs.declared.replaced.Replaced.{Replaced}

-- the bytes before a write, of those after it
abbrev pub undone : Replaced → List ℕ → List ℕ
undone write bytes = take write.at bytes ++ write.under ++ drop (write.at + write.written_length) bytes

-- the moment after these calls, of which the latest stands first and left these bytes
abbrev pub moment_after : List Call → List ℕ → Moment
moment_after [] bytes = at_rest bytes
moment_after (call.Wrote write ∷ before) bytes = with_range write.at write.range_length (moment_after before (undone write bytes))
moment_after (call.Synced ∷ before) bytes = at_rest bytes

-- the moments before it, the newest first
abbrev pub past_after : List Call → List ℕ → List Moment
past_after [] bytes = []
past_after (call.Wrote write ∷ before) bytes = moment_after before (undone write bytes) ∷ past_after before (undone write bytes)
past_after (call.Synced ∷ before) bytes = moment_after before bytes ∷ past_after before bytes
