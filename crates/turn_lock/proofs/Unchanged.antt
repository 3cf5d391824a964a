-- A step that changes nothing keeps the rule.
use Rattle.std.proofs.Common.{◌≡◌, ℕ, List, get_or, set, Option, sym, refl, subst}
use mathlib.Core.Option.{some}
use lib.ListN.{get_elem?}
use Rattle.std.proofs.lemmas.List.{set-get_or}
use Rattle.atomic_table.specs.Table.{State, Me, keeps, Allows}
use Rattle.atomic_table.proofs.Lists.{set_again}
use Rattle.turn_lock.specs.declared.view.View.{View}
use Rattle.turn_lock.specs.Rule.{Told, Fits, Turning}

-- the table as plain data, and what a seat at it knows and holds
abbrev pub Table : Type 0 → Type 0 → Type 0 → Type 0
Table T X O = State (Option T) (View X O)

abbrev pub Seat : Type 0 → Type 0 → Type 0 → Type 0
Seat T X O = Me (Option T) (View X O)

module _ {T X O : Type 0} (k : Told T X O) (origin : O) where
  -- what holds of the seat `by` in a table under the rule
  abbrev pub In : {s : Table T X O} → Turning k origin s → ℕ → View X O → Type 0
  In r by v = Fits k origin r.history r.idle r.tickets r.turns r.callers r.out r.owner r.holder by v

  -- a step that changes nothing
  pub unchanged : (s : Table T X O) (i id : ℕ) (v : View X O) → Turning k origin s → get_elem? s.views id ≡ some v → Turning k origin record { words = set s.words i (get_or s.words i 0); homes = s.homes; views = set s.views id v }
  unchanged s i id v r at = subst (λ (ws : List ℕ). Turning k origin record { words = ws; homes = s.homes; views = set s.views id v }) (sym (set-get_or s.words i 0))
      (subst (λ (vs : List (View X O)). Turning k origin record { words = s.words; homes = s.homes; views = vs }) (sym (set_again s.views id v at)) r)

  pub same_allowed : (slots id i : ℕ) (me : Seat T X O) → Allows (Turning k origin) slots id me i (λ n. n) (λ n m'. m' ≡ me)
  same_allowed slots id i me s r len at small = (me.0, keeps, tt, unchanged s i id me.0 r at, refl)
