-- A policy's file is judged, and what it was taken for is told.
use Rattle.std.specs.Prelude.{◌≡◌, ◌⊎◌, ℕ, List, length, Option, Some, Result}
use Rattle.script_texts.specs.Modes.{checked_text, too_large_text}
use Rattle.script_texts.specs.declared.words.Input.TheVariants as input
use Rattle.aranyad.specs.Loading.{IsLoaded}
use Rattle.aranyad.specs.Printing.{HaltsAtOnce, Says}
use Rattle.aranyad.specs.declared.ending.Ending.{Ending}
use Rattle.aranyad.specs.declared.ending.Ending.TheVariants as ending
use Rattle.aranyad.specs.declared.ending.Halt.{Halt}
use Rattle.aranyad.specs.declared.loading.Loaded.{Loaded}
use Rattle.aranyad.specs.declared.loading.Loaded.TheVariants as loaded

-- A part of a run that reads a file first. A failed read, or want of memory for what is read, ends the run before anything is printed, and then `same` holds.
abbrev pub ReadsOr : Type 0 → Option (Option (List ℕ)) → (Option (List ℕ) → Result Ending Halt → List (List ℕ) → Type 0) → Result Ending Halt → List (List ℕ) → Type 0
ReadsOr same file goes result texts = (HaltsAtOnce result texts × same) ⊎ ((bytes : Option (List ℕ)) × (file ≡ Some bytes) × goes bytes result texts)

-- `check`: the number of items is told, or why there is no policy.
abbrev pub Checks : Loaded → Result Ending Halt → List (List ℕ) → Type 0
Checks loaded.TooLarge = Says ending.TooLarge (too_large_text input.Policy)
Checks (loaded.Refused line) = Says ending.PolicyRefused line
Checks (loaded.Whole digest policy) = Says ending.Done (checked_text (length policy))

abbrev pub ChecksFile : Option (Option (List ℕ)) → Result Ending Halt → List (List ℕ) → Type 0
ChecksFile file result texts = ReadsOr (Unit {0}) file (λ bytes r ts. (is : Loaded) × IsLoaded bytes is × Checks is r ts) result texts
