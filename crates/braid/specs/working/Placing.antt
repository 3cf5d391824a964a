-- What the steps of the braid's body keep. This serves the contracts of its private functions; what a braid is stands in Braids.
use Rattle.std.specs.Prelude.{◌≡◌, ℕ, ◌==◌, ◌<◌, ◌⊎◌, ◌↔◌, not, Bool, true, false, List, ◌++◌, length, reverse, Some, filter}
use Rattle.std.specs.List.{All, Contains, list_any}
use Rattle.std.specs.Cmp.Lexicographic.{slice_cmp}
use Rattle.std.specs.Ordering.{bool_cmp, nat_cmp, ordering_then}
use Rattle.std.specs.Str.{bytes_eq}
use Rattle.std.specs.declared.cmp.Ordering.{Ordering}
use Rattle.std.specs.declared.cmp.Ordering.TheVariants.{Less}
use Rattle.command.specs.declared.command.Command.{Command}
use Rattle.command.specs.Ancestors.{IsAt, IsParent, IsUnder}
use Rattle.command.specs.Closed.{place_of}
use Rattle.command.specs.Each.{EachAfter}
use Rattle.command.specs.Kinds.{is_finalize, is_merge, parents_of, priority_of}
use Rattle.command.specs.Wire.{command_id}
use Rattle.braid.specs.Bases.{IsRest}
use Rattle.braid.specs.Braids.{IsPlaced, picked}

-- the command stands at one of these places
abbrev pub IsAmong : List Command → List ℕ → Command → Type 0
IsAmong cs places z = (place : ℕ) × Contains places place × IsAt cs place z

-- whether the command has this parent
abbrev pub has_parent : List ℕ → Command → Bool
has_parent id y = list_any (bytes_eq id) (parents_of y)

-- a command at one of these places has this parent
abbrev pub HasChild : List Command → List ℕ → List ℕ → Type 0
HasChild cs places id = (y : Command) × IsAmong cs places y × (has_parent id y ≡ true)

-- the command at the place is the parent of none at these places
abbrev pub IsFree : List Command → List ℕ → ℕ → Type 0
IsFree cs places place = (z : Command) → IsAt cs place z → HasChild cs places (command_id z) → ⊥

-- the places of those ids that meet a condition were put behind the others
pub record AddsWhere (P : List ℕ → Type 0) (cs : List Command) (ids : List (List ℕ)) (old new : List ℕ) : Type 0 where
  pub more : List ℕ
  pub grown : new ≡ old ++ more
  pub has : (id : List ℕ) (place : ℕ) → Contains ids id → P id → place_of cs id ≡ Some place → Contains new place
  pub only : (place : ℕ) → Contains more place → (id : List ℕ) × Contains ids id × P id × (place_of cs id ≡ Some place)

-- the order of two commands, as the code compares them: ids byte by byte, the second with the first
abbrev pub rank_order : Command → Command → Ordering
rank_order x y =
    ordering_then (bool_cmp (is_finalize x) (is_finalize y)) (ordering_then (nat_cmp (priority_of x) (priority_of y)) (slice_cmp nat_cmp (command_id y) (command_id x)))

-- merges are taken first, and then the lowest
abbrev pub pick_order : Command → Command → Ordering
pick_order x y = ordering_then (bool_cmp (is_merge y) (is_merge x)) (rank_order x y)

abbrev pub IsBefore : Command → Command → Type 0
IsBefore x y = pick_order x y ≡ Less

-- the place is one of these, and no command at any of them is to be taken before
pub record IsFirst (cs : List Command) (places : List ℕ) (first : ℕ) : Type 0 where
  pub among : Contains places first
  pub lowest : (x y : Command) → IsAmong cs places x → IsAt cs first y → IsBefore x y → ⊥

-- the places without one
abbrev pub struck : ℕ → List ℕ → List ℕ
struck place places = filter (λ p. not (p == place)) places

-- how far the braid is: places that remain, those of them that are the parent of none that remains, and those that are placed, the
-- highest first. The commands that remain and are no merges, in some order, may still be placed before the others.
pub record Placing (cs : List Command) (bases tips remaining tops placed : List ℕ) : Type 0 where
  pub within : (place : ℕ) → Contains remaining place → place < length cs
  pub free : (place : ℕ) → Contains tops place ↔ (Contains remaining place × IsFree cs remaining place)
  pub down : (m y : Command) → IsParent cs m y → IsAmong cs remaining y → ¬ IsUnder cs bases m → IsAmong cs remaining m
  pub left : (z : Command) → IsAmong cs remaining z → ¬ IsUnder cs bases z
  pub plain : List Command
  pub plain_is : (z : Command) → Contains plain z ↔ (IsAmong cs remaining z × (is_merge z ≡ false))
  pub order : EachAfter (IsPlaced cs) plain (picked cs (reverse placed))
  pub holds : (x : Command) → (Contains plain x ⊎ Contains (picked cs (reverse placed)) x) ↔ (Contains cs x × IsRest cs bases tips x × (is_merge x ≡ false))
  pub done : All (λ place. place < length cs) placed

-- p is of the places; or it is the tip, and that is left
abbrev pub HasOrIs : Bool → ℕ → List ℕ → ℕ → Type 0
HasOrIs skipped tip places p = Contains places p ⊎ ((tip ≡ p) × (skipped ≡ false))
