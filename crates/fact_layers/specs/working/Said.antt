-- What layers say of one place.
use Rattle.std.specs.Prelude.{◌≡◌, Bool, IsTrue, cond, List, [], ◌∷◌, Option, Some, None, Result, Ok, Err}
use Rattle.std.specs.List.{list_all}
use Rattle.std.specs.Map.{lookup}
use Rattle.std.specs.Ordering.{is_eq}
use Rattle.fact_store.specs.declared.wanted.Wanted.{Wanted}
use Rattle.fact_store.specs.Rows.{are_keys}
use Rattle.fact_store.specs.working.Orders.{wanted_order}
use Rattle.fact_layers.specs.Layers.{Entries, Said}

-- The keys of each place are key values.
abbrev pub are_keyed : Entries → Bool
are_keyed layer = list_all (λ e. are_keys e.0.keys) layer

abbrev pub are_all_keyed : List Entries → Bool
are_all_keyed layers = list_all are_keyed layers

abbrev pub at : Wanted → Wanted → Bool
at place other = is_eq (wanted_order place other)

-- What the layer says of the place, if it speaks of it.
abbrev pub said : Wanted → Entries → Option Said
said place layer = lookup (at place) layer

-- What is said, and else what stands below.
abbrev pub above : Option Said → Said → Said
above None below = below
above (Some says) below = says

-- What stands at the place in these layers over others.
abbrev pub held_over : Wanted → List Entries → Said → Said
held_over place [] below = below
held_over place (layer ∷ layers) below = above (said place layer) (held_over place layers below)

-- What stands at the place.
abbrev pub held : Wanted → List Entries → Said
held place layers = held_over place layers None

-- What may stand below a layer: nothing below the lowest.
abbrev pub MayBeBelow : Bool → Said → Type 0
MayBeBelow is_lowest below = IsTrue is_lowest → below ≡ None

-- Over whatever may stand below, the new layer says this of the place, and else what the old one says.
abbrev pub Puts : Bool → Wanted → Said → Entries → Entries → Type 0
Puts is_lowest place says old new = (q : Wanted) (below : Said) → MayBeBelow is_lowest below → above (said q new) below ≡ cond (at place q) says (above (said q old) below)

-- Over whatever may stand below, the new layer says what the upper one says over the old one.
abbrev pub FoldsOver : Bool → Entries → Entries → Entries → Type 0
FoldsOver is_lowest upper old new = (q : Wanted) (below : Said) → MayBeBelow is_lowest below → above (said q new) below ≡ above (said q upper) (above (said q old) below)

-- The one layer says what these say, over whatever may stand below.
pub record IsFolded (is_lowest : Bool) (layers : List Entries) (layer : Entries) : Type 0 where
  pub keyed : IsTrue (are_keyed layer)
  pub says : (q : Wanted) (below : Said) → MayBeBelow is_lowest below → above (said q layer) below ≡ held_over q layers below

-- The new layers say this of the place, and else what the old ones say.
pub record Replaces (place : Wanted) (says : Said) (old new : List Entries) : Type 0 where
  pub keyed : IsTrue (are_all_keyed new)
  pub stands : (q : Wanted) → held q new ≡ cond (at place q) says (held q old)

-- What is put goes into the layer, or comes back.
abbrev pub PutsOwn : {E : Type 0} → Bool → Wanted → Said → Entries → Entries → Result (Option (Wanted × Said)) E → Type 0
PutsOwn is_lowest place says old new (Ok None) = Puts is_lowest place says old new × (IsTrue (are_keys place.keys) → IsTrue (are_keyed old) → IsTrue (are_keyed new))
PutsOwn is_lowest place says old new (Ok (Some left)) = (left ≡ (place, says)) × (new ≡ old)
PutsOwn is_lowest place says old new (Err why) = new ≡ old

-- What is put goes into the newest layer, or comes back.
abbrev pub PutsNewest : {E : Type 0} → Wanted → Said → List Entries → List Entries → Result (Option (Wanted × Said)) E → Type 0
PutsNewest place says old new (Ok None) = Replaces place says old new
PutsNewest place says old new (Ok (Some left)) = (left ≡ (place, says)) × (new ≡ old)
PutsNewest place says old new (Err why) = new ≡ old
