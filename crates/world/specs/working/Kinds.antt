-- Lines by what they may change.
use Rattle.std.specs.Prelude.{◌≡◌, Bool, true, false, ◌||◌, not, Result, Ok, Err}
use Rattle.script.specs.declared.line.Line.{Line}
use Rattle.script.specs.declared.line.Line.TheVariants as line
use Rattle.script_texts.specs.Bytes.{Bytes}
use Rattle.world.specs.Worlds.{Site, with_message}
use Rattle.world.specs.declared.said.Said.{Said}
use Rattle.world.specs.declared.stop.RunStop.{RunStop}
use Rattle.world.specs.declared.stop.RunStop.TheVariants as stop

-- Those that have a number.
abbrev pub is_making : Line → Bool
is_making (line.Ask a) = true
is_making (line.Next a n) = true
is_making (line.Answer a n) = true
is_making (line.Inject bytes) = true
is_making other = false

-- Those that tell what is held.
abbrev pub is_showing : Line → Bool
is_showing (line.Replica a) = true
is_showing (line.Facts a) = true
is_showing (line.Effects a) = true
is_showing (line.Graph a) = true
is_showing line.Blank = true
is_showing other = false

-- The others, which may change a replica.
abbrev pub is_changing : Line → Bool
is_changing one = not (is_making one || is_showing one)

-- The message of a line is kept, or there is no memory for it.
abbrev pub Keeping : {D : Type 0} → Site D → Said → Result Bytes RunStop → Site D → Type 0
Keeping old said (Ok text) new = (text ≡ said.text) × (new ≡ record old { messages = with_message old.messages said.message })
Keeping old said (Err why) new = (why ≡ stop.NoMemory) × (new ≡ old)
