-- What one step of opening a draft leaves.
use Rattle.std.specs.Prelude.{◌≡◌, ℕ, List, [], ◌∷◌, drop, Option, Some, None, Result, Ok, Err}
use Rattle.transaction.specs.Drafts.{Draft}
use Rattle.transaction.specs.declared.fault.ActFault.{ActFault}
use Rattle.transaction.specs.declared.opening.Turn.{Turn}
use Rattle.transaction.specs.declared.opening.Turn.TheVariants as turn

-- The first head, where there is one.
abbrev pub IsTip : Option (List ℕ) → List (List ℕ) → Type 0
IsTip None heads = heads ≡ []
IsTip (Some id) heads = heads ≡ id ∷ drop 1 heads

-- What follows one turn of merging.
abbrev pub stepped : Turn → Draft → (Draft → Result Draft (List ℕ)) → Result Draft (List ℕ)
stepped turn.Merged new more = more new
stepped turn.Whole new more = Ok new
stepped (turn.Known id) new more = Err id

-- All heads are merged, or the id of a merge is known.
abbrev pub Merges : Result Draft (List ℕ) → Option (List ℕ) → Draft → Type 0
Merges (Ok draft) None new = new ≡ draft
Merges (Err id) (Some known) new = known ≡ id
Merges other known new = ⊥

-- The draft is opened, or there is a fault.
abbrev pub Opens : Result Draft ActFault → Option ActFault → Draft → Type 0
Opens (Ok draft) None new = new ≡ draft
Opens (Err why) (Some told) new = told ≡ why
Opens other told new = ⊥
