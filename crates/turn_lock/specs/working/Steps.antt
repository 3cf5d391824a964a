-- What a seat knows before and after each step, and what the step tells it.
use Rattle.std.specs.Prelude.{◌≡◌, ◌≢◌, ℕ, ◌+◌, ◌-◌, ◌^◌, ◌<◌, Bool, true, false, List, [], ◌∷◌, ◌++◌, Option, Some, None}
use Rattle.atomic_table.specs.Table.{Me, Step}
use Rattle.turn_lock.specs.declared.view.View.{View}
use Rattle.turn_lock.specs.declared.view.Past.{Past}
use Rattle.turn_lock.specs.Turns.{longer, IsIn, turns_by, count_of, Continues}
use Rattle.turn_lock.specs.Seats.{past}
use Rattle.turn_lock.specs.Rule.{Told}

module _ {X O : Type 0} where
  -- a view with no number and no ticket
  abbrev pub blank : List ℕ → List X → List O → View X O
  blank known seen o = record { mine = past [] seen; other = past [] []; known = known; ticket = None; inside = false; idle = 0; opening = o }

  abbrev pub spent_view : View X O
  spent_view = blank [] [] []

  abbrev pub numbered : View X O → ℕ → View X O
  numbered v n = record v { mine = past (n ∷ []) v.mine.seen }

  abbrev pub with_ticket : View X O → ℕ → View X O
  with_ticket v n = record v { ticket = Some n }

  abbrev pub inside_view : View X O → List X → ℕ → View X O
  inside_view v xs n = record v { mine = past v.mine.numbers xs; inside = true; idle = n }

  abbrev pub left_view : View X O → List X → View X O
  left_view v xs = record v { mine = past v.mine.numbers xs; ticket = None; inside = false; idle = 0 }

  -- the new seat knows the old one's numbers, and has none yet
  abbrev pub split_view : View X O → View X O
  split_view v = blank v.mine.numbers v.mine.seen v.opening

  -- the other seat's past is kept beside this one's
  abbrev pub joined : View X O → View X O → View X O
  joined v w = record v { other = w.mine }

  -- both pasts are one
  abbrev pub merged : View X O → View X O
  merged v = record v { mine = past (v.mine.numbers ++ v.other.numbers) (longer v.mine.seen v.other.seen); other = past [] [] }

module _ {T X O : Type 0} (k : Told T X O) where
  abbrev pub Knows : Type 0
  Knows = Me (Option T) (View X O)

  -- a number was drawn, if the word was as expected: none of those that the seat knows, and no turn that it has seen has it
  abbrev pub numbering : Step (Option T) → Knows → ℕ → Knows → Type 0
  numbering st m n m' = (n ≡ st.first → (m' ≡ (numbered m.0 n, m.1)) × ¬ IsIn n m.0.known × (turns_by k.caller n m.0.mine.seen ≡ [])) × (n ≢ st.first → m' ≡ m)

  -- a ticket was drawn, if the word was as expected
  abbrev pub ticketing : Step (Option T) → Knows → ℕ → Knows → Type 0
  ticketing st m n m' = (n ≡ st.first → m' ≡ (with_ticket m.0 n, m.1)) × (n ≢ st.first → m' ≡ m)

  -- the turn has come: the seat has the value in hand
  pub record Takes (m : Knows) (m' : Knows) : Type 0 where
    pub value : T
    pub hand : m' ≡ (inside_view m.0 (k.turns value) (k.idle value), (0, Some value) ∷ m.1)
    pub goes_on : Continues k.caller m.0.mine.numbers m.0.mine.seen (k.turns value)
    pub few : count_of k.before (k.turns value) + k.idle value < 2 ^ 64 - 1
    pub opening : (o : O) → m.0.opening ≡ o ∷ [] → k.opening value ≡ o

  -- the value is taken where the word of turns is the seat's ticket
  abbrev pub looking : Step (Option T) → Knows → ℕ → Knows → Type 0
  looking st m n m' = (t : ℕ) → m.0.ticket ≡ Some t → (n ≡ t → Takes m m') × (n ≢ t → m' ≡ m)

  -- the value that the seat has in hand goes home
  abbrev pub releasing : Step (Option T) → Knows → ℕ → Knows → Type 0
  releasing st m n m' = (y : T) → m.1 ≡ (0, Some y) ∷ [] → m' ≡ (left_view m.0 (k.turns y), [])

  -- the longer list is kept, which both pasts continue to
  abbrev pub settling : Step (Option T) → Knows → ℕ → Knows → Type 0
  settling st m n m' = (m' ≡ (merged m.0, m.1)) × Continues k.caller m.0.mine.numbers m.0.mine.seen (merged m.0).mine.seen × Continues k.caller m.0.other.numbers m.0.other.seen (merged m.0).mine.seen
