-- What contracts see of a counter of faults.
use Rattle.std.specs.Prelude.{ℕ}
use Rattle.outside.specs.declared.count.Count.{Count}

-- the number that it stands at
abbrev pub count_of : Count → ℕ
count_of count = count.number
