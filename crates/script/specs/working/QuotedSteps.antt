-- Texts between quotation marks, step by step.
use Rattle.std.specs.Prelude.{◌≡◌, ◌<◌, Bool, false, [], length, Some, None}
use Rattle.script.specs.Pieces.{Bytes}
use Rattle.script.specs.working.ReadingTokens.{onto, text_from}
use Rattle.script.specs.declared.quoted.Step.{Step}
use Rattle.script.specs.declared.quoted.Step.TheVariants.{Closes, Breaks, Means}

-- what bytes begin with, perhaps behind a backslash
abbrev pub IsStep : Bool → Bytes → Step → Type 0
IsStep is_escaped bytes (Closes rest) = text_from is_escaped bytes ≡ Some ([], rest.now)
IsStep is_escaped bytes Breaks = text_from is_escaped bytes ≡ None
IsStep is_escaped bytes (Means byte rest) = (text_from is_escaped bytes ≡ onto byte (text_from false rest.now)) × (length rest.now < length bytes)
