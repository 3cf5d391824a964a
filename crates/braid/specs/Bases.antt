-- Bases: commands at which a braid parts, so that what stands behind them is ordered, and run, by itself.
use Rattle.std.specs.Prelude.{◌≡◌, ℕ, ◌⊎◌, true, false, List, ◌++◌}
use Rattle.std.specs.List.{Contains}
use Rattle.command.specs.declared.command.Command.{Command}
use Rattle.command.specs.Ancestors.{Ancestor, IsParent, IsUnder, IsUpTo}
use Rattle.command.specs.Kinds.{is_finalize, is_merge}
use Rattle.braid.specs.Braids.{IsBraidOf, IsBraidTo, IsBraidUnder}

-- x is of the tips' closure, and not of that of the bases
abbrev pub IsRest : List Command → List ℕ → List ℕ → Command → Type 0
IsRest cs bases tips x = IsUnder cs tips x × ¬ IsUnder cs bases x

-- x is of the tips' closure, and is neither the command f nor an ancestor of it
abbrev pub IsAbove : List Command → List ℕ → Command → Command → Type 0
IsAbove cs tips f x = IsUnder cs tips x × ¬ IsUpTo cs f x

-- f is of the tips' closure, and no merge. What stands above it there descends from it; or f is a finalize, and what stands beside it is none.
pub record IsBase (cs : List Command) (tips : List ℕ) (f : Command) : Type 0 where
  pub under : IsUnder cs tips f
  pub plain : is_merge f ≡ false
  pub beside : (x : Command) → IsAbove cs tips f x → Ancestor cs f x ⊎ ((is_finalize f ≡ true) × (is_finalize x ≡ false))

-- a waist: each command of the list is f, an ancestor of it, or a descendant
abbrev pub IsWaist : List Command → Command → Type 0
IsWaist cs f = (x : Command) → Contains cs x → IsUpTo cs f x ⊎ Ancestor cs f x

-- what stands above f has parents, and those of them that don't stand above it are f itself
pub record IsStraight (cs : List Command) (tips : List ℕ) (f : Command) : Type 0 where
  pub at_f : (m x : Command) → IsParent cs m x → IsAbove cs tips f x → IsUpTo cs f m → m ≡ f
  pub parents : (x : Command) → IsAbove cs tips f x → (m : Command) × IsParent cs m x

-- the braid under the tips is the braid of f's closure, and behind it the braid of what stands above f
pub record PartsAt (cs : List Command) (tips : List ℕ) (f : Command) : Type 0 where
  pub joined : (front rest : List Command) → IsBraidTo cs f front → IsBraidOf cs (IsAbove cs tips f) rest → IsBraidUnder cs tips (front ++ rest)
  pub parted : (braid : List Command) → IsBraidUnder cs tips braid
      → (front : List Command) × (rest : List Command) × IsBraidTo cs f front × IsBraidOf cs (IsAbove cs tips f) rest × (braid ≡ front ++ rest)
