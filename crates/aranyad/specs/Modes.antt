-- Which words are read as which mode.
use Rattle.std.specs.Prelude.{ℕ, ◌==◌, ◌&&◌, not, Bool, true, false, if◌then◌else◌, List, [], ◌∷◌, ◌++◌, drop, take, length, slice_index, codes, Option, Some, None, option_and_then}
use Rattle.std.specs.Option.{is_some}
use Rattle.std.specs.Str.{byte, bytes_eq}
use Rattle.aranyad.specs.declared.mode.Mode.{Mode}
use Rattle.aranyad.specs.declared.mode.Mode.TheVariants.{Check, Run}

-- the name of a file or a folder: it isn't empty, and doesn't begin with a dash
abbrev pub is_file_name : List ℕ → Bool
is_file_name word = not (length word == 0) && not (slice_index word 0 == byte "-")

-- ---- the words behind `run`

-- What they said so far: the names of files, in order; the folder of journals; and whether the next word is that folder.
pub record RunWords : Type 0 where
  pub files : List (List ℕ)
  pub store : Option (List ℕ)
  pub asks : Bool

abbrev pub no_words : RunWords
no_words = record { files = []; store = None; asks = false }

-- With the folder, which is a name; once at most.
abbrev pub with_store : RunWords → List ℕ → Option RunWords
with_store said folder = if is_some said.store then None else if is_file_name folder then Some (record { files = said.files; store = Some folder; asks = false }) else None

-- With the name of a file; no other word begins with a dash.
abbrev pub with_file : RunWords → List ℕ → Option RunWords
with_file said word = if is_file_name word then Some (record said { files = said.files ++ word ∷ [] }) else None

-- `--store=DIR`
abbrev pub is_store_word : List ℕ → Bool
is_store_word word = bytes_eq (take 8 word) (codes "--store=")

-- `--store=DIR`, or the name of a file
abbrev pub with_other : RunWords → List ℕ → Option RunWords
with_other said word = if is_store_word word then with_store said (drop 8 word) else with_file said word

-- `--store`, and then DIR
abbrev pub with_word : RunWords → List ℕ → Option RunWords
with_word said word =
    if said.asks then with_store said word
    else if bytes_eq word (codes "--store") then Some (record said { asks = true })
    else with_other said word

abbrev pub run_words : RunWords → List (List ℕ) → Option RunWords
run_words said [] = Some said
run_words said (word ∷ words) = option_and_then (λ more. run_words more words) (with_word said word)

abbrev pub run_of_files : List (List ℕ) → Option (List ℕ) → Option Mode
run_of_files (policy ∷ script ∷ []) store = Some (Run policy script store)
run_of_files other store = None

-- A policy and a script, and no folder that is still to come.
abbrev pub run_mode : RunWords → Option Mode
run_mode said = if said.asks then None else run_of_files said.files said.store

-- ---- all words

abbrev pub check_mode : List (List ℕ) → Option Mode
check_mode (policy ∷ []) = if is_file_name policy then Some (Check policy) else None
check_mode other = None

-- `check POLICY`, and `run POLICY SCRIPT` with at most one `--store DIR` or `--store=DIR` anywhere behind `run`; no other words are read yet
abbrev pub mode_by : List ℕ → List (List ℕ) → Option Mode
mode_by verb words =
    if bytes_eq verb (codes "check") then check_mode words
    else if bytes_eq verb (codes "run") then option_and_then run_mode (run_words no_words words)
    else None

abbrev pub mode_of : List (List ℕ) → Option Mode
mode_of [] = None
mode_of (verb ∷ words) = mode_by verb words
