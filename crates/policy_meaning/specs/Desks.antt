-- What a desk's publish and a runner's action tell: the list of postings, and that the action's meaning with these answers is this end.
use Rattle.std.specs.Prelude.{◌≡◌, ℕ, ◌+◌, List, [], ◌∷◌, map, Some}
use Rattle.std.specs.List.{sum_by}
use Rattle.base_bytes.specs.declared.value.Value.{Value}
use Rattle.fact_store.specs.declared.row.Row.{Row}
use Rattle.policy_ast.specs.declared.policy.PlacedItem.{PlacedItem}
use Rattle.policy_meaning.specs.Actions.{Answer, Brought, acted, deed_end, world_of}
use Rattle.policy_meaning.specs.declared.ends.ActionEnd.{ActionEnd}
use Rattle.policy_meaning.specs.declared.ends.Posted.{Posted}
use Rattle.policy_meaning.specs.declared.ends.Posted.TheVariants as posted
use Rattle.policy_rules.specs.WellTyped.{items_of}

-- One publish: what was brought, the answer, the facts behind it, and the ticks that it took.
pub record Posting : Type 0 where
  pub command : ℕ
  pub fields : List Value
  pub posted : Posted
  pub rows : List Row
  pub ticks : ℕ

abbrev pub brought : Posting → Brought
brought p = record { command = p.command; fields = p.fields }

abbrev pub answer : Posting → Answer
answer p = record { posted = p.posted; rows = p.rows }

-- One call of a desk is a posting of its relation, with just its ticks.
pub record Publishes {D : Type 0} (publishes : D → List Row → Posting → D → Type 0) (old : D) (rows : List Row) (command : ℕ) (fields : List Value) (posted : Posted)
    (before now : ℕ) (new : D) (last : List Row) : Type 0 where
  pub ticks : ℕ
  pub counted : now ≡ before + ticks
  pub told : publishes old rows (record { command = command; fields = fields; posted = posted; rows = last; ticks = ticks }) new

-- The facts behind a publish that the desk didn't take are as before.
abbrev pub Stay : Posted → List Row → List Row → Type 0
Stay posted.Taken old new = Unit {0}
Stay other old new = new ≡ old

-- Postings one after another, from one desk and its facts to another; one that isn't taken leaves the facts.
abbrev pub Chain : {D : Type 0} → (D → List Row → Posting → D → Type 0) → D → List Row → List Posting → D → List Row → Type 0
Chain publishes old rows [] new last = (new ≡ old) × (last ≡ rows)
Chain {D} publishes old rows (p ∷ more) new last = (mid : D) × publishes old rows p mid × Stay p.posted rows p.rows × Chain publishes mid p.rows more new last

-- With just these answers the action publishes just this, and ends so.
pub record IsActed (policy : List PlacedItem) (action : ℕ) (arguments : List Value) (device : List ℕ) (rows : List Row) (postings : List Posting) (end : ActionEnd) : Type 0 where
  pub ends : deed_end (acted (items_of policy) action arguments device rows (map answer postings)) ≡ Some end
  pub made : (world_of (acted (items_of policy) action arguments device rows (map answer postings))).made ≡ map brought postings
  pub used : (world_of (acted (items_of policy) action arguments device rows (map answer postings))).left ≡ []

-- The source meaning of an action. No desk stands in it.
unfoldable pub Acts : List PlacedItem → ℕ → List Value → List ℕ → List Row → List Posting → ActionEnd → Type 0
Acts policy action arguments device rows postings end = IsActed policy action arguments device rows postings end

abbrev pub total : List Posting → ℕ
total postings = sum_by (λ p. p.ticks) postings

-- A run of an action at a desk with this relation.
pub record ActionRun {D : Type 0} (publishes : D → List Row → Posting → D → Type 0) (policy : List PlacedItem) (action : ℕ) (arguments : List Value) (device : List ℕ)
    (old : D) (rows : List Row) (end : ActionEnd) (before now : ℕ) (new : D) (last : List Row) : Type 0 where
  pub postings : List Posting
  pub chain : Chain publishes old rows postings new last
  pub acts : Acts policy action arguments device rows postings end
  pub counted : now ≡ before + total postings
