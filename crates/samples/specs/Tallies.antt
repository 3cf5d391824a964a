-- A counter, and the turns on it.
use Rattle.std.specs.Prelude.{ℕ, ◌+◌, ◌%◌, ◌^◌, ◌==◌, ◌&&◌, Bool, true, List, [], ◌∷◌}
use Rattle.samples.specs.declared.turn.Turn.{Turn}

-- the counter after an amount
abbrev pub plus : ℕ → ℕ → ℕ
plus count amount = (count + amount) % 2 ^ 64

-- the counter after these turns
abbrev pub counted : ℕ → List Turn → ℕ
counted start [] = start
counted start (t ∷ ts) = counted (plus start t.amount) ts

-- each caller was told the counter behind its turn
abbrev pub is_legal : ℕ → List Turn → Bool
is_legal start [] = true
is_legal start (t ∷ ts) = (t.reply == plus start t.amount) && is_legal (plus start t.amount) ts

abbrev pub turn : ℕ → ℕ → ℕ → ℕ → Turn
turn caller idle amount reply = record { caller = caller; idle = idle; amount = amount; reply = reply }
