-- The words behind `run`, as they are heard one after another.
use Rattle.std.specs.Prelude.{◌≡◌, ℕ, if◌then◌else◌, List, drop, Option, Some, None, Result, Ok, Err}
use Rattle.aranyad.specs.Modes.{is_store_word}
use Rattle.aranyad.specs.declared.choose.ChooseFault.{ChooseFault}
use Rattle.aranyad.specs.declared.choose.ChooseFault.TheVariants as fault

-- What was heard, or that the words are no words of a mode. Want of memory tells nothing of them.
abbrev pub Hears : {T : Type 0} → Option T → Result T ChooseFault → Type 0
Hears heard (Ok said) = heard ≡ Some said
Hears heard (Err fault.Usage) = heard ≡ None
Hears heard (Err fault.NoMemory) = Unit {0}

-- The folder of journals in a word that begins with `--store=`.
abbrev pub folder_in : List ℕ → Option (List ℕ)
folder_in word = if is_store_word word then Some (drop 8 word) else None
