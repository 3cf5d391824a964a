-- What was printed: whole texts, one after another; and where a write failed, the last one in part.
use Rattle.std.specs.Prelude.{◌≡◌, ℕ, List, [], ◌∷◌, ◌++◌, Option, Result, Ok, Err}
use Rattle.std.specs.Io.KnownBytes.{append_known}
use Rattle.std.specs.List.{concat}
use Rattle.aranyad.specs.Written.{WritesFront}
use Rattle.aranyad.specs.declared.ending.Ending.{Ending}
use Rattle.aranyad.specs.declared.ending.Halt.{Halt}
use Rattle.aranyad.specs.declared.ending.Halt.TheVariants as halt

-- All texts but the last are whole, and of the last there is a front.
pub record BreaksLast (texts : List (List ℕ)) (old new : Option (List ℕ)) : Type 0 where
  pub before : List (List ℕ)
  pub last : List ℕ
  pub whole : texts ≡ before ++ last ∷ []
  pub front : WritesFront last (append_known old (concat before)) new

-- These texts were printed by a run that ended so. A sink may not tell what was written.
abbrev pub Prints : Result Ending Halt → List (List ℕ) → Option (List ℕ) → Option (List ℕ) → Type 0
Prints (Ok ending) texts old new = new ≡ append_known old (concat texts)
Prints (Err halt.Read) texts old new = new ≡ append_known old (concat texts)
Prints (Err halt.Write) texts old new = BreaksLast texts old new
Prints (Err halt.Disk) texts old new = new ≡ append_known old (concat texts)
Prints (Err halt.Seal) texts old new = new ≡ append_known old (concat texts)
Prints (Err halt.Memory) texts old new = new ≡ append_known old (concat texts)

-- A run of a part of the program: how it ends and what it prints is as the model says of that part.
pub record Goes (model : Result Ending Halt → List (List ℕ) → Type 0) (result : Result Ending Halt) (old new : Option (List ℕ)) : Type 0 where
  pub texts : List (List ℕ)
  pub is : model result texts
  pub printed : Prints result texts old new

-- It ends with one line; a failed write breaks it, and without memory there is none.
abbrev pub Says : Ending → List ℕ → Result Ending Halt → List (List ℕ) → Type 0
Says ending line (Ok end) texts = (end ≡ ending) × (texts ≡ line ∷ [])
Says ending line (Err halt.Read) texts = ⊥
Says ending line (Err halt.Write) texts = texts ≡ line ∷ []
Says ending line (Err halt.Disk) texts = ⊥
Says ending line (Err halt.Seal) texts = ⊥
Says ending line (Err halt.Memory) texts = texts ≡ []

-- It ends before anything is printed, by a failed read or a failed disk, or since memory ran out.
abbrev pub HaltsAtOnce : Result Ending Halt → List (List ℕ) → Type 0
HaltsAtOnce (Ok end) texts = ⊥
HaltsAtOnce (Err halt.Read) texts = texts ≡ []
HaltsAtOnce (Err halt.Write) texts = ⊥
HaltsAtOnce (Err halt.Disk) texts = texts ≡ []
HaltsAtOnce (Err halt.Seal) texts = ⊥
HaltsAtOnce (Err halt.Memory) texts = texts ≡ []
