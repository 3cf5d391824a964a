-- Lists that hold the same commands, and the laws of their braids.
use Rattle.std.specs.Prelude.{◌≡◌, ℕ, ◌↔◌, true, false, List, [], ◌∷◌, ◌++◌}
use Rattle.std.specs.List.{Contains}
use Rattle.command.specs.declared.command.Command.{Command}
use Rattle.command.specs.Ancestors.{IsAt, IsUnder, heads}
use Rattle.command.specs.Closed.{IsClosed}
use Rattle.command.specs.Kinds.{is_merge}
use Rattle.command.specs.Wire.{command_id}
use Rattle.braid.specs.Braids.{IsBraid, IsBraidTo, IsBraidUnder}

-- two lists have the same commands but for the merges, and no id is one merge in one list and another in the other
pub record Agree (one other : List Command) : Type 0 where
  pub same : (x : Command) → is_merge x ≡ false → Contains one x ↔ Contains other x
  pub merges : (x y : Command) → Contains one x → Contains other y → is_merge x ≡ true → is_merge y ≡ true → command_id x ≡ command_id y → x ≡ y

-- a closed list has exactly one braid
pub record HasOneBraid (cs : List Command) : Type 0 where
  pub some : (braid : List Command) × IsBraid cs braid
  pub one : (a b : List Command) → IsBraid cs a → IsBraid cs b → a ≡ b

-- lists that agree have the same braid, whatever their merges and their orders
abbrev pub HaveOneBraid : List Command → List Command → Type 0
HaveOneBraid one other = (a b : List Command) → IsBraid one a → IsBraid other b → a ≡ b

-- a closed list of the commands that are tips or ancestors of one
pub record IsClosure (cs : List Command) (tips : List ℕ) (part : List Command) : Type 0 where
  pub closed : IsClosed part
  pub holds : (x : Command) → Contains part x ↔ (Contains cs x × IsUnder cs tips x)

-- The braid under tips is one, and is the braid of their closure as a list of its own, which there is. That under one tip is the
-- braid of the closure of the command there, and that under the heads is the braid of the list.
pub record ClosuresHaveOneBraid (cs : List Command) : Type 0 where
  pub some : (tips : List ℕ) → (part : List Command) × IsClosure cs tips part
  pub own : (tips : List ℕ) (part : List Command) → IsClosure cs tips part → (braid : List Command) → IsBraid part braid ↔ IsBraidUnder cs tips braid
  pub one : (tips : List ℕ) (a b : List Command) → IsBraidUnder cs tips a → IsBraidUnder cs tips b → a ≡ b
  pub tip : (place : ℕ) (f : Command) → IsAt cs place f → (braid : List Command) → IsBraidTo cs f braid ↔ IsBraidUnder cs (place ∷ []) braid
  pub all : (braid : List Command) → IsBraid cs braid ↔ IsBraidUnder cs (heads cs) braid

-- The braid of a finalize's closure begins the whole braid, where finalize commands are in line.
abbrev pub IsFinal : List Command → Command → Type 0
IsFinal cs f = (braid : List Command) → IsBraid cs braid → (part : List Command) × (rest : List Command) × IsBraidTo cs f part × (braid ≡ part ++ rest)

-- The braid of a command's closure is one, and is the same after an append.
pub record Stays (cs : List Command) (f : Command) : Type 0 where
  pub one : (a b : List Command) → IsBraidTo cs f a → IsBraidTo cs f b → a ≡ b
  pub kept : (more braid : List Command) → IsClosed (cs ++ more) → IsBraidTo cs f braid ↔ IsBraidTo (cs ++ more) f braid

-- The braid under tips, which are places of the list, is the same after an append.
abbrev pub StaysUnder : List Command → List ℕ → Type 0
StaysUnder cs tips = (more braid : List Command) → IsClosed (cs ++ more) → IsBraidUnder cs tips braid ↔ IsBraidUnder (cs ++ more) tips braid
