-- The table opens under the rule, and seats that split and join keep it.
use Rattle.std.proofs.Common.{◌≡◌, ◌≢◌, ℕ, zero, suc, ◌<◌, false, true≢false, List, [], ◌∷◌, ◌++◌, length, get_or, set, Some, None, ⊎_elim, sym, refl, ap, ◌∙◌, subst, length-set, length-append, arith}
use mathlib.Core.Option.{some, none, some-injective, some-ne-none}
use lib.ListN.{get_elem?}
use Rattle.std.proofs.lemmas.Bool.{false≢true}
use Rattle.std.proofs.lemmas.Option.{none-some}
use Rattle.std.proofs.lemmas.List.{set-get_or}
use Rattle.atomic_table.specs.Table.{keeps, step, Allows, Splits, Joins, opening}
use Rattle.atomic_table.proofs.Lists.{set_again, set_else, at_longer}
use Rattle.turn_lock.specs.declared.view.View.{View}
use Rattle.turn_lock.specs.Rule.{Told, Fits, Turning}
use Rattle.turn_lock.specs.working.Steps.{blank, spent_view, split_view, joined, merged, settling}
use Rattle.turn_lock.proofs.Lists.{at_end, seats_stay, cons_same, shift, shift_here, shift_else}
use Rattle.turn_lock.proofs.Pasts.{in_either, in_front, from_nothing, no_number, settled}
use Rattle.turn_lock.proofs.Others.{served_stay, served_else, others_join}
use Rattle.turn_lock.proofs.Unchanged.{Table, Seat, In}

module _ {T X O : Type 0} (k : Told T X O) (origin : O) where
  -- a new seat
  own_split : (s : Table T X O) (r : Turning k origin s) (id : ℕ) (v : View X O) → get_elem? s.views id ≡ some v → In k origin r (length s.views) (split_view v)
  own_split s r id v at = let f = r.seats id v at in record {
    mine = no_number k.caller v.mine.numbers v.mine.seen r.history f.mine;
    other = from_nothing k.caller r.history;
    drawn = λ n i. absurd i;
    drawn_other = λ n i. absurd i;
    known = λ n i. (f.drawn n i).0;
    ticketed = λ t e. absurd (none-some t e);
    numbered = λ t e. absurd (none-some t e);
    inside = λ e. absurd (false≢true e);
    entered = λ o e. let less = (r.away o).2 in absurd (omega arith);
    opened = f.opened;
  }

  seat_split : (s : Table T X O) (r : Turning k origin s) (id : ℕ) (v : View X O) → get_elem? s.views id ≡ some v → Turning k origin record { words = s.words; homes = s.homes; views = s.views ++ split_view v ∷ [] }
  seat_split s r id v at = record {
    history = r.history;
    idle = r.idle;
    tickets = r.tickets;
    turns = r.turns;
    callers = r.callers;
    out = r.out;
    owner = r.owner;
    holder = r.holder;
    words = r.words;
    count = r.count;
    reached = r.reached;
    fresh = r.fresh;
    home = r.home;
    away = λ o. let a = r.away o in let less = a.2 in (a.0, a.1, let long = length-append s.views (split_view v ∷ []) in omega arith);
    served = λ t le lt. let u = r.served t le lt in (u.0, at_longer s.views (split_view v ∷ []) (r.holder t) u.0 u.1, u.2);
    seats = λ by d there. ⊎_elim (λ old. r.seats by d old)
        (λ new. subst (λ (z : ℕ × View X O). Fits k origin r.history r.idle r.tickets r.turns r.callers r.out r.owner r.holder z.0 z.1) (λ i. (sym new.0 i, new.1 i)) (own_split s r id v at))
        (at_end s.views (split_view v) d by there);
  }

  pub split_allowed : (id : ℕ) (v : View X O) → Splits (Turning k origin) id v v (split_view v)
  split_allowed id v s r at = subst (λ (vs : List (View X O)). Turning k origin record { words = s.words; homes = s.homes; views = vs ++ split_view v ∷ [] }) (sym (set_again s.views id v at)) (seat_split s r id v at)

  -- what holds of a seat after `id` took in `other`
  abbrev Joined : {s : Table T X O} → Turning k origin s → ℕ → ℕ → ℕ → View X O → Type 0
  Joined r id other by v = Fits k origin r.history r.idle r.tickets r.turns r.callers r.out (shift r.owner other id) r.holder by v

  -- a seat that has taken in another one
  own_join : (s : Table T X O) (r : Turning k origin s) (id other : ℕ) (v w : View X O) → other ≢ id → get_elem? s.views id ≡ some v → get_elem? s.views other ≡ some w
      → Joined r id other id (joined v w)
  own_join s r id other v w ne at there = let f = r.seats id v at in let g = r.seats other w there in record {
    mine = f.mine;
    other = g.mine;
    drawn = λ n i. let d = f.drawn n i in (d.0, shift_else r.owner other id n (λ e. ne (sym e ∙ d.1)) ∙ d.1);
    drawn_other = λ n i. let d = g.drawn n i in (d.0, shift_here r.owner other id n d.1);
    known = f.known;
    ticketed = f.ticketed;
    numbered = f.numbered;
    inside = f.inside;
    entered = f.entered;
    opened = f.opened;
  }

  -- a seat that was taken in
  spent_join : (s : Table T X O) (r : Turning k origin s) (id other : ℕ) (w : View X O) → w.inside ≡ false → get_elem? s.views other ≡ some w
      → Joined r id other other (spent_view {X = X} {O = O})
  spent_join s r id other w outside there = record {
    mine = from_nothing k.caller r.history;
    other = from_nothing k.caller r.history;
    drawn = λ n i. absurd i;
    drawn_other = λ n i. absurd i;
    known = λ n i. absurd i;
    ticketed = λ t e. absurd (none-some t e);
    numbered = λ t e. absurd (none-some t e);
    inside = λ e. absurd (false≢true e);
    entered = λ o e. absurd (true≢false (sym ((r.seats other w there).entered o e) ∙ outside));
    opened = λ o e. absurd (let n = ap length e in omega arith);
  }

  seats_joined : (s : Table T X O) (r : Turning k origin s) (id other : ℕ) (v w : View X O) → other ≢ id → w.inside ≡ false → w.ticket ≡ None → get_elem? s.views id ≡ some v → get_elem? s.views other ≡ some w
      → get_elem? (set s.views id (joined v w)) other ≡ some w → Turning k origin record { words = s.words; homes = s.homes; views = set (set s.views id (joined v w)) other spent_view }
  seats_joined s r id other v w ne outside without at there there_now = record {
    history = r.history;
    idle = r.idle;
    tickets = r.tickets;
    turns = r.turns;
    callers = r.callers;
    out = r.out;
    owner = shift r.owner other id;
    holder = r.holder;
    words = r.words;
    count = r.count;
    reached = r.reached;
    fresh = r.fresh;
    home = r.home;
    away = λ o. let a = r.away o in (a.0, a.1, subst (λ (n : ℕ). r.holder r.turns < n) (sym (length-set (set s.views id (joined v w)) other spent_view ∙ length-set s.views id (joined v w))) a.2);
    served = λ t le lt. served_else (set s.views id (joined v w)) other w spent_view (r.holder t) t there_now (λ e. none-some t (sym without ∙ e)) (served_stay s.views id v (joined v w) (r.holder t) t at refl (r.served t le lt));
    seats = seats_stay (λ by d. Joined r id other by d) (set s.views id (joined v w)) other spent_view (spent_join s r id other w outside there)
        (λ by d apart d_there. seats_stay (λ j x. j ≢ other → Joined r id other j x) s.views id (joined v w) (λ _. own_join s r id other v w ne at there)
        (λ j x j_apart x_there not_other. others_join k origin r.history r.idle r.tickets r.turns r.callers r.out r.owner r.holder id other j x not_other (r.seats j x x_there)) by d d_there apart);
  }

  pub join_allowed : (id other : ℕ) (v w : View X O) → w.inside ≡ false → w.ticket ≡ None → Joins (Turning k origin) id v other w (joined v w) spent_view
  join_allowed id other v w outside without s r at ne there = seats_joined s r id other v w ne outside without at (sym (set_else s.views id other (joined v w) ne) ∙ there) there

  -- a seat whose two pasts have become one
  own_settle : (s : Table T X O) (r : Turning k origin s) (id : ℕ) (v : View X O) → v.inside ≡ false → get_elem? s.views id ≡ some v → In k origin r id (merged v)
  own_settle s r id v outside at = let f = r.seats id v at in record {
    mine = (settled k.caller v.mine.numbers v.other.numbers v.mine.seen v.other.seen r.history f.mine f.other).both;
    other = from_nothing k.caller r.history;
    drawn = λ n i. ⊎_elim (λ l. f.drawn n l) (λ o. f.drawn_other n o) (in_either n v.mine.numbers v.other.numbers i);
    drawn_other = λ n i. absurd i;
    known = f.known;
    ticketed = f.ticketed;
    numbered = λ t e. let u = f.numbered t e in (u.0, in_front u.0 v.mine.numbers v.other.numbers u.1);
    inside = λ i. absurd (true≢false (sym i ∙ outside));
    entered = f.entered;
    opened = f.opened;
  }

  seat_settled : (s : Table T X O) (r : Turning k origin s) (id : ℕ) (v : View X O) → v.inside ≡ false → get_elem? s.views id ≡ some v → Turning k origin record { words = set s.words 0 (get_or s.words 0 0); homes = s.homes; views = set s.views id (merged v) }
  seat_settled s r id v outside at = record {
    history = r.history;
    idle = r.idle;
    tickets = r.tickets;
    turns = r.turns;
    callers = r.callers;
    out = r.out;
    owner = r.owner;
    holder = r.holder;
    words = set-get_or s.words 0 0 ∙ r.words;
    count = r.count;
    reached = r.reached;
    fresh = r.fresh;
    home = r.home;
    away = λ o. let a = r.away o in (a.0, a.1, subst (λ (n : ℕ). r.holder r.turns < n) (sym (length-set s.views id (merged v))) a.2);
    served = λ t le lt. served_stay s.views id v (merged v) (r.holder t) t at refl (r.served t le lt);
    seats = seats_stay (λ by d. In k origin r by d) s.views id (merged v) (own_settle s r id v outside at) (λ by d other there. r.seats by d there);
  }

  pub settle_allowed : (slots id : ℕ) (me : Seat T X O) → me.0.inside ≡ false → Allows (Turning k origin) slots id me 0 (λ n. n) (settling k (step slots 0 0 0 none) me)
  settle_allowed slots id me outside s r len at small =
      let v : View X O = me.0 in
      let f = r.seats id v at in
      let one = settled k.caller v.mine.numbers v.other.numbers v.mine.seen v.other.seen r.history f.mine f.other in
      (merged v, keeps, tt, seat_settled s r id v outside at, (refl, one.first, one.second))

  -- the one seat of a table that opens
  own_opens : (by : ℕ) (d : View X O) → get_elem? (blank [] [] (origin ∷ []) ∷ []) by ≡ some d → Fits k origin [] 0 0 0 0 false (λ _. 0) (λ _. 0) by d
  own_opens zero d e = subst (λ (x : View X O). Fits k origin [] 0 0 0 0 false (λ _. 0) (λ _. 0) 0 x) (some-injective (blank [] [] (origin ∷ [])) d e) record {
    mine = from_nothing k.caller [];
    other = from_nothing k.caller [];
    drawn = λ n i. absurd i;
    drawn_other = λ n i. absurd i;
    known = λ n i. absurd i;
    ticketed = λ t q. absurd (none-some t q);
    numbered = λ t q. absurd (none-some t q);
    inside = λ q. absurd (false≢true q);
    entered = λ q _. absurd (false≢true q);
    opened = λ o q. sym (cons_same origin o [] [] q).0;
  }
  own_opens (suc by) d e = absurd (some-ne-none d (sym e))

  pub opens : (y : T) → k.turns y ≡ [] → k.idle y ≡ 0 → k.opening y ≡ origin → Turning k origin (opening (0 ∷ 0 ∷ 0 ∷ []) (Some y ∷ []) (blank [] [] (origin ∷ [])))
  opens y no_turns no_idle is = record {
    history = [];
    idle = 0;
    tickets = 0;
    turns = 0;
    callers = 0;
    out = false;
    owner = λ _. 0;
    holder = λ _. 0;
    words = refl;
    count = refl;
    reached = (omega arith, omega arith, omega arith);
    fresh = λ _ _. refl;
    home = λ _. (y, refl, record { turns = no_turns; idles = no_idle; origin_is = is });
    away = λ e. absurd (false≢true e);
    served = λ t le lt. absurd (omega arith);
    seats = own_opens;
  }
