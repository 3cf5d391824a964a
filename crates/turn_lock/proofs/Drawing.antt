-- A seat that draws a caller's number or a ticket keeps the rule.
use Rattle.std.proofs.Common.{◌≡◌, ℕ, ◌+◌, ◌^◌, ◌<◌, ◌≤◌, false, true≢false, eqb, length, set, Option, Some, None, ⊎_elim, inl, sym, refl, ap, ◌∙◌, subst, length-set, arith}
use mathlib.Core.Option.{some, none}
use mathlib.Core.Logic.{dite}
use native.Mathlib.Decide.{ℕ_discrete}
use prog.Atomic.{either}
use lib.ListN.{get_elem?}
use Rattle.std.specs.Prelude.{slice_index}
use Rattle.std.proofs.lemmas.Option.{none-some, same_Some}
use Rattle.atomic_table.specs.Table.{Act, keeps, Valid, step, stepped, carried_after, Allows}
use Rattle.atomic_table.proofs.Lists.{set_here, exchanged}
use Rattle.turn_lock.specs.declared.view.View.{View}
use Rattle.turn_lock.specs.Turns.{IsIn}
use Rattle.turn_lock.specs.Rule.{Told, Fits, Holds, Turning}
use Rattle.turn_lock.specs.working.Steps.{numbered, with_ticket, numbering, ticketing}
use Rattle.turn_lock.proofs.Lists.{at_below, seats_stay, put, put_here, put_else}
use Rattle.turn_lock.proofs.Pasts.{new_number, unseen}
use Rattle.turn_lock.proofs.Others.{served_stay, served_else, others_number, others_ticket}
use Rattle.turn_lock.proofs.Unchanged.{Table, Seat, unchanged}

module _ {T X O : Type 0} (k : Told T X O) (origin : O) where
  -- a seat that has drawn a number
  own_number : (s : Table T X O) (r : Turning k origin s) (old id : ℕ) (v : View X O) → r.callers ≡ old → get_elem? s.views id ≡ some v
      → Fits k origin r.history r.idle r.tickets r.turns (old + 1) r.out (put r.owner old id) r.holder id (numbered v old)
  own_number s r old id v is at = let f = r.seats id v at in let none_yet = r.fresh old (omega arith) in record {
    mine = new_number k.caller v.mine.numbers old v.mine.seen r.history none_yet f.mine;
    other = f.other;
    drawn = λ n i. ⊎_elim (λ e. (omega arith, put_here r.owner old id n e)) (λ no_such. absurd no_such) i;
    drawn_other = λ n i. let d = f.drawn_other n i in let less = d.0 in (omega arith, put_else r.owner old id n (λ e. omega arith) ∙ d.1);
    known = λ n i. let less = f.known n i in omega arith;
    ticketed = f.ticketed;
    numbered = λ t e. (old, inl refl);
    inside = f.inside;
    entered = f.entered;
    opened = f.opened;
  }

  number_drawn : (s : Table T X O) (r : Turning k origin s) (old id : ℕ) (v : View X O) → r.callers ≡ old → old + 1 < 2 ^ 32 → get_elem? s.views id ≡ some v
      → Turning k origin record { words = set s.words 2 (old + 1); homes = s.homes; views = set s.views id (numbered v old) }
  number_drawn s r old id v is few at = record {
    history = r.history;
    idle = r.idle;
    tickets = r.tickets;
    turns = r.turns;
    callers = old + 1;
    out = r.out;
    owner = put r.owner old id;
    holder = r.holder;
    words = ap (λ ws. set ws 2 (old + 1)) r.words;
    count = r.count;
    reached = (r.reached.0, r.reached.1, few);
    fresh = λ n le. r.fresh n (omega arith);
    home = r.home;
    away = λ o. let a = r.away o in (a.0, a.1, subst (λ (n : ℕ). r.holder r.turns < n) (sym (length-set s.views id (numbered v old))) a.2);
    served = λ t le lt. served_stay s.views id v (numbered v old) (r.holder t) t at refl (r.served t le lt);
    seats = seats_stay (λ by d. Fits k origin r.history r.idle r.tickets r.turns (old + 1) r.out (put r.owner old id) r.holder by d) s.views id (numbered v old) (own_number s r old id v is at)
        (λ by d other there. others_number k origin r.history r.idle r.tickets r.turns r.callers r.out r.owner r.holder old id by d is (r.seats by d there));
  }

  pub number_allowed : (slots id old : ℕ) (me : Seat T X O) → old + 1 < 2 ^ 32 → Allows (Turning k origin) slots id me 2 (λ n. either (eqb n old) (old + 1) n) (numbering k (step slots 2 old (old + 1) none) me)
  number_allowed slots id old me few s r len at small =
      let n : ℕ = slice_index s.words 2 in
      let is : n ≡ r.callers = ap (λ ws. slice_index ws 2) r.words in
      let v : View X O = me.0 in
      let f = r.seats id v at in
      exchanged n old (old + 1) (λ c. (w : View X O) × (a : Act (Option T)) × Valid s.homes me.1 a × Turning k origin (stepped s 2 c id me.1 w a) × numbering k (step slots 2 old (old + 1) none) me n (w, carried_after me.1 a))
      (λ hit. (
        numbered v old,
        keeps,
        tt,
        number_drawn s r old id v (sym is ∙ hit) few at,
        ((λ _. (ap (λ (j : ℕ). (numbered v j, me.1)) (sym hit), (λ i. let less = f.known n i in omega arith), unseen k.caller v.mine.numbers n v.mine.seen r.history (r.fresh n (omega arith)) f.mine)), (λ ne. absurd (ne hit))),
      ))
      (λ miss. (v, keeps, tt, unchanged k origin s 2 id v r at, ((λ e. absurd (miss e)), (λ _. refl))))

  -- a seat that has drawn a ticket
  own_ticket : (s : Table T X O) (r : Turning k origin s) (old id number : ℕ) (v : View X O) → r.tickets ≡ old → v.inside ≡ false → IsIn number v.mine.numbers → get_elem? s.views id ≡ some v
      → Fits k origin r.history r.idle (old + 1) r.turns r.callers r.out r.owner (put r.holder old id) id (with_ticket v old)
  own_ticket s r old id number v is outside has at = let f = r.seats id v at in let le = r.reached.0 in record {
    mine = f.mine;
    other = f.other;
    drawn = f.drawn;
    drawn_other = f.drawn_other;
    known = f.known;
    ticketed = λ t e. let q = same_Some old t e in (omega arith, omega arith, put_here r.holder old id t (sym q));
    numbered = λ t e. (number, has);
    inside = λ i. absurd (true≢false (sym i ∙ outside));
    entered = λ o at_turn. let less = (r.away o).1 in f.entered o (sym (put_else r.holder old id r.turns (λ q. omega arith)) ∙ at_turn);
    opened = f.opened;
  }

  -- each ticket that is drawn is held after one more
  ticket_served : (s : Table T X O) (r : Turning k origin s) (old id : ℕ) (v : View X O) → r.tickets ≡ old → v.ticket ≡ None → get_elem? s.views id ≡ some v → (t : ℕ) → r.turns ≤ t → t < old + 1
      → Holds (set s.views id (with_ticket v old)) (put r.holder old id t) t
  ticket_served s r old id v is without at t le lt = dite (ℕ_discrete t old)
      (λ e. (with_ticket v old, ap (λ (i : ℕ). get_elem? (set s.views id (with_ticket v old)) i) (put_here r.holder old id t e) ∙ set_here s.views id (with_ticket v old) (at_below s.views id v at), ap (λ (n : ℕ). Some n) (sym e)))
      (λ ne. subst (λ (j : ℕ). Holds (set s.views id (with_ticket v old)) j t) (sym (put_else r.holder old id t ne))
      (served_else s.views id v (with_ticket v old) (r.holder t) t at (λ e. none-some t (sym without ∙ e)) (r.served t le (omega arith))))

  ticket_drawn : (s : Table T X O) (r : Turning k origin s) (old id number : ℕ) (v : View X O) → r.tickets ≡ old → v.ticket ≡ None → v.inside ≡ false → IsIn number v.mine.numbers → old + 1 < 2 ^ 64 → get_elem? s.views id ≡ some v
      → Turning k origin record { words = set s.words 0 (old + 1); homes = s.homes; views = set s.views id (with_ticket v old) }
  ticket_drawn s r old id number v is without outside has few at = record {
    history = r.history;
    idle = r.idle;
    tickets = old + 1;
    turns = r.turns;
    callers = r.callers;
    out = r.out;
    owner = r.owner;
    holder = put r.holder old id;
    words = ap (λ ws. set ws 0 (old + 1)) r.words;
    count = r.count;
    reached = (let le = r.reached.0 in omega arith, few, r.reached.2);
    fresh = r.fresh;
    home = r.home;
    away = λ o. let a = r.away o in let less = a.1 in let same : put r.holder old id r.turns ≡ r.holder r.turns = put_else r.holder old id r.turns (λ q. omega arith) in
        (a.0, omega arith, subst (λ (n : ℕ). n < length (set s.views id (with_ticket v old))) (sym same) (subst (λ (n : ℕ). r.holder r.turns < n) (sym (length-set s.views id (with_ticket v old))) a.2));
    served = ticket_served s r old id v is without at;
    seats = seats_stay (λ by d. Fits k origin r.history r.idle (old + 1) r.turns r.callers r.out r.owner (put r.holder old id) by d) s.views id (with_ticket v old) (own_ticket s r old id number v is outside has at)
        (λ by d other there. others_ticket k origin r.history r.idle r.tickets r.turns r.callers r.out r.owner r.holder old id by d is (λ o. (r.away o).1) (r.seats by d there));
  }

  pub ticket_allowed : (slots id old number : ℕ) (me : Seat T X O) → me.0.ticket ≡ None → me.0.inside ≡ false → IsIn number me.0.mine.numbers → old + 1 < 2 ^ 64
      → Allows (Turning k origin) slots id me 0 (λ n. either (eqb n old) (old + 1) n) (ticketing k (step slots 0 old (old + 1) none) me)
  ticket_allowed slots id old number me without outside has few s r len at small =
      let n : ℕ = slice_index s.words 0 in
      let is : n ≡ r.tickets = ap (λ ws. slice_index ws 0) r.words in
      let v : View X O = me.0 in
      exchanged n old (old + 1) (λ c. (w : View X O) × (a : Act (Option T)) × Valid s.homes me.1 a × Turning k origin (stepped s 0 c id me.1 w a) × ticketing k (step slots 0 old (old + 1) none) me n (w, carried_after me.1 a))
      (λ hit. (
        with_ticket v old,
        keeps,
        tt,
        ticket_drawn s r old id number v (sym is ∙ hit) without outside has few at,
        ((λ _. ap (λ (j : ℕ). (with_ticket v j, me.1)) (sym hit)), (λ ne. absurd (ne hit))),
      ))
      (λ miss. (v, keeps, tt, unchanged k origin s 0 id v r at, ((λ e. absurd (miss e)), (λ _. refl))))
