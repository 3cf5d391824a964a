-- Commands of a closure by numbers, the numbers of their parents, and how often a number or a place stands in a list.
use Rattle.std.specs.Prelude.{◌≡◌, ℕ, ◌+◌, ◌==◌, ◌<◌, ◌≤◌, ◌↔◌, if◌then◌else◌, Bool, true, false, not, List, [], ◌∷◌, ◌++◌, filter, length, Option, Some, None, slice_get}
use Rattle.std.specs.List.{All, filter_map}
use Rattle.command.specs.declared.command.Command.{Command}
use Rattle.command.specs.Ancestors.{IsAt, IsUnder}
use Rattle.command.specs.Closed.{place_of}
use Rattle.command.specs.Kinds.{parents_of}
use Rattle.braid.specs.declared.closure.Links.{Links}
use Rattle.braid.specs.Bases.{IsRest}
use Rattle.braid.specs.working.Placing.{IsAmong}

-- the places of the commands with these ids
abbrev pub places_of : List Command → List (List ℕ) → List ℕ
places_of cs ids = filter_map (place_of cs) ids

abbrev pub parent_places : List Command → Option Command → List ℕ
parent_places cs None = []
parent_places cs (Some y) = places_of cs (parents_of y)

-- the places of the parents of the command at a place
abbrev pub parents_at : List Command → ℕ → List ℕ
parents_at cs place = parent_places cs (slice_get cs place)

-- the test tells which places hold a command under the bases
abbrev pub Skips : List Command → List ℕ → (ℕ → Bool) → Type 0
Skips cs bases skip = (place : ℕ) (x : Command) → IsAt cs place x → (skip place ≡ true) ↔ IsUnder cs bases x

-- those of the places that it leaves
abbrev pub left_of : (ℕ → Bool) → List ℕ → List ℕ
left_of skip places = filter (λ p. not (skip p)) places

abbrev pub parents_left : List Command → (ℕ → Bool) → ℕ → List ℕ
parents_left cs skip place = left_of skip (parents_at cs place)

-- the command of this id is left
abbrev pub IsLeftId : List Command → (ℕ → Bool) → List ℕ → Type 0
IsLeftId cs skip id = (place : ℕ) → place_of cs id ≡ Some place → skip place ≡ false

-- those places, by their numbers
abbrev pub AreNumbers : List ℕ → List ℕ → List ℕ → Type 0
AreNumbers places [] [] = Unit {0}
AreNumbers places [] (p ∷ ps) = ⊥
AreNumbers places (n ∷ ns) [] = ⊥
AreNumbers places (n ∷ ns) (p ∷ ps) = (slice_get places n ≡ Some p) × AreNumbers places ns ps

abbrev pub listed : Option ℕ → List ℕ
listed None = []
listed (Some number) = number ∷ []

abbrev pub listed_links : Links → List ℕ
listed_links links = listed links.left ++ listed links.right

-- each of the links are the numbers of the parents of the command at its place
abbrev pub AreLinked : List Command → (ℕ → Bool) → List ℕ → List Links → List ℕ → Type 0
AreLinked cs skip places [] [] = Unit {0}
AreLinked cs skip places [] (p ∷ ps) = ⊥
AreLinked cs skip places (them ∷ more) [] = ⊥
AreLinked cs skip places (them ∷ more) (p ∷ ps) = AreNumbers places (listed_links them) (parents_left cs skip p) × AreLinked cs skip places more ps

-- how often it stands there
abbrev pub times : ℕ → List ℕ → ℕ
times p [] = 0
times p (x ∷ xs) = (if p == x then 1 else 0) + times p xs

abbrev pub sum_of : {X : Type 0} → (X → ℕ) → List X → ℕ
sum_of f [] = 0
sum_of f (x ∷ xs) = f x + sum_of f xs

-- the places of the commands of the tips' closure that are under no base, each once, and the links of each
pub record IsClosureWith (cs : List Command) (skip : ℕ → Bool) (bases tips places : List ℕ) (links : List Links) : Type 0 where
  pub once : (p : ℕ) → times p places ≤ 1
  pub within : All (λ p. p < length cs) places
  pub under : (z : Command) → IsAmong cs places z ↔ IsRest cs bases tips z
  pub linked : AreLinked cs skip places links places
  pub few : length places ≤ length cs
