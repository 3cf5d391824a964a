-- A seat that looks for its turn, and one that ends it, keep the rule.
use Rattle.std.proofs.Common.{◌≡◌, ℕ, ◌+◌, ◌%◌, ◌^◌, ◌<◌, Bool, true, false, true≢false, List, [], ◌∷◌, ◌++◌, length, set, Option, Some, sym, refl, ap, ◌∙◌, subst, length-set, mod-eq_of_lt, arith}
use mathlib.Core.Option.{some, none}
use mathlib.Core.Logic.{dite}
use native.Mathlib.Decide.{ℕ_discrete}
use lib.ListN.{get_elem?}
use Rattle.std.specs.Prelude.{slice_index}
use Rattle.std.proofs.lemmas.Bool.{false≢true}
use Rattle.std.proofs.lemmas.Option.{none-some, same_Some}
use Rattle.atomic_table.specs.Table.{Act, keeps, takes, gives, Valid, step, stepped, carried_after, put_back, rest, Allows}
use Rattle.turn_lock.specs.declared.view.View.{View}
use Rattle.turn_lock.specs.Turns.{IsIn, count_of, Continues, AddsOne}
use Rattle.turn_lock.specs.Rule.{Told, Fits, IsKept, Turning}
use Rattle.turn_lock.specs.working.Steps.{inside_view, left_view, Takes, looking, releasing}
use Rattle.turn_lock.proofs.Lists.{at_below, seats_stay, cons_same}
use Rattle.turn_lock.proofs.Pasts.{itself, further, still_none, Grown, grown}
use Rattle.turn_lock.proofs.Others.{served_stay, served_else, others_take, others_release}
use Rattle.turn_lock.proofs.Unchanged.{Table, Seat, unchanged}

module _ {T X O : Type 0} (k : Told T X O) (origin : O) where
  -- a seat that has taken the value
  own_take : (s : Table T X O) (r : Turning k origin s) (id : ℕ) (v : View X O) (y : T) → r.holder r.turns ≡ id → v.ticket ≡ Some r.turns → IsKept k origin r.history r.idle y → get_elem? s.views id ≡ some v
      → Fits k origin r.history r.idle r.tickets r.turns r.callers true r.owner r.holder id (inside_view v (k.turns y) (k.idle y))
  own_take s r id v y holds has kept at = let f = r.seats id v at in record {
    mine = subst (λ (xs : List X). Continues k.caller v.mine.numbers xs r.history) (sym kept.turns) (itself k.caller v.mine.numbers r.history);
    other = f.other;
    drawn = f.drawn;
    drawn_other = f.drawn_other;
    known = f.known;
    ticketed = f.ticketed;
    numbered = f.numbered;
    inside = λ _. (refl, has, kept.turns, kept.idles);
    entered = λ _ _. refl;
    opened = f.opened;
  }

  value_taken : (s : Table T X O) (r : Turning k origin s) (id n : ℕ) (v : View X O) (y : T) → n ≡ r.turns → r.out ≡ false → r.holder r.turns ≡ id → v.ticket ≡ Some r.turns → r.turns < r.tickets → s.homes ≡ some (Some y) ∷ [] → IsKept k origin r.history r.idle y → get_elem? s.views id ≡ some v
      → Turning k origin record { words = set s.words 1 n; homes = set s.homes 0 none; views = set s.views id (inside_view v (k.turns y) (k.idle y)) }
  value_taken s r id n v y is home holds has less there kept at = record {
    history = r.history;
    idle = r.idle;
    tickets = r.tickets;
    turns = r.turns;
    callers = r.callers;
    out = true;
    owner = r.owner;
    holder = r.holder;
    words = ap (λ ws. set ws 1 n) r.words ∙ ap (λ (j : ℕ). r.tickets ∷ j ∷ r.callers ∷ []) is;
    count = r.count;
    reached = r.reached;
    fresh = r.fresh;
    home = λ e. absurd (true≢false e);
    away = λ _. (ap (λ hs. set hs 0 none) there, less, subst (λ (j : ℕ). r.holder r.turns < j) (sym (length-set s.views id (inside_view v (k.turns y) (k.idle y)))) (subst (λ (j : ℕ). j < length s.views) (sym holds) (at_below s.views id v at)));
    served = λ t le lt. served_stay s.views id v (inside_view v (k.turns y) (k.idle y)) (r.holder t) t at refl (r.served t le lt);
    seats = seats_stay (λ by d. Fits k origin r.history r.idle r.tickets r.turns r.callers true r.owner r.holder by d) s.views id (inside_view v (k.turns y) (k.idle y)) (own_take s r id v y holds has kept at)
        (λ by d other d_there. others_take k origin r.history r.idle r.tickets r.turns r.callers r.out r.owner r.holder id by d home holds other (r.seats by d d_there));
  }

  -- what taking the value tells
  take_told : (s : Table T X O) (r : Turning k origin s) (id : ℕ) (me : Seat T X O) (y : T) → r.turns < r.tickets → IsKept k origin r.history r.idle y → get_elem? s.views id ≡ some me.0
      → Takes k me (inside_view me.0 (k.turns y) (k.idle y), (0, Some y) ∷ me.1)
  take_told s r id me y less kept at = let f = r.seats id me.0 at in record {
    value = y;
    hand = refl;
    goes_on = subst (λ (xs : List X). Continues k.caller me.0.mine.numbers me.0.mine.seen xs) (sym kept.turns) f.mine;
    few = let all = ap (λ xs. count_of k.before xs) kept.turns in let rest_is = kept.idles in let c = r.count in let few = r.reached.1 in omega arith;
    opening = λ o e. kept.origin_is ∙ sym (f.opened o e);
  }

  abbrev Looked : (slots id : ℕ) (me : Seat T X O) (s : Table T X O) → Type 0
  Looked slots id me s = (w : View X O) × (a : Act (Option T)) × Valid s.homes me.1 a × Turning k origin (stepped s 1 (slice_index s.words 1) id me.1 w a) × looking k (step slots 1 0 0 none) me (slice_index s.words 1) (w, carried_after me.1 a)

  look_home : (slots id t : ℕ) (me : Seat T X O) (s : Table T X O) (r : Turning k origin s) (b : Bool) → r.out ≡ b → me.0.ticket ≡ Some t → me.0.inside ≡ false → get_elem? s.views id ≡ some me.0 → slice_index s.words 1 ≡ r.turns → r.turns ≡ t → Looked slots id me s
  look_home slots id t me s r true out has outside at is come = let f = r.seats id me.0 at in
      absurd (true≢false (sym (f.entered out (ap r.holder come ∙ (f.ticketed t has).2)) ∙ outside))
  look_home slots id t me s r false out has outside at is come =
      let f = r.seats id me.0 at in
      let there = r.home out in
      let y = there.0 in
      let holds : r.holder r.turns ≡ id = ap r.holder come ∙ (f.ticketed t has).2 in
      let has_it : me.0.ticket ≡ Some r.turns = has ∙ ap (λ (n : ℕ). Some n) (sym come) in
      let less : r.turns < r.tickets = (f.ticketed r.turns has_it).1 in (
        inside_view me.0 (k.turns y) (k.idle y),
        takes 0 (Some y),
        ap (λ hs. get_elem? hs 0) there.1,
        value_taken s r id (slice_index s.words 1) me.0 y is out holds has_it less there.1 there.2 at,
        (λ t' e. ((λ _. take_told s r id me y less there.2 at), (λ ne. absurd (ne (is ∙ come ∙ same_Some t t' (sym has ∙ e)))))),
      )

  pub look_allowed : (slots id t : ℕ) (me : Seat T X O) → me.0.ticket ≡ Some t → me.0.inside ≡ false → Allows (Turning k origin) slots id me 1 (λ n. n) (looking k (step slots 1 0 0 none) me)
  look_allowed slots id t me has outside s r len at small =
      let n : ℕ = slice_index s.words 1 in
      let is : n ≡ r.turns = ap (λ ws. slice_index ws 1) r.words in
      dite (ℕ_discrete n t)
      (λ e. look_home slots id t me s r r.out refl has outside at is (sym is ∙ e))
      (λ ne. (me.0, keeps, tt, unchanged k origin s 1 id me.0 r at, (λ t' e. ((λ e'. absurd (ne (e' ∙ same_Some t' t (sym e ∙ has)))), (λ _. refl)))))

  -- a seat that has ended its turn
  own_release : (s : Table T X O) (r : Turning k origin s) (id : ℕ) (v : View X O) (y : T) (more : List X) → k.turns y ≡ r.history ++ more → v.other.numbers ≡ [] → get_elem? s.views id ≡ some v
      → Fits k origin (k.turns y) (k.idle y) r.tickets (r.turns + 1) r.callers false r.owner r.holder id (left_view v (k.turns y))
  own_release s r id v y more is alone at = let f = r.seats id v at in record {
    mine = itself k.caller v.mine.numbers (k.turns y);
    other = further k.caller v.other.numbers v.other.seen r.history more (k.turns y) is (λ n i. absurd (subst (λ (ns : List ℕ). IsIn n ns) alone i)) f.other;
    drawn = f.drawn;
    drawn_other = f.drawn_other;
    known = f.known;
    ticketed = λ t e. absurd (none-some t e);
    numbered = λ t e. absurd (none-some t e);
    inside = λ e. absurd (false≢true e);
    entered = λ e _. absurd (false≢true e);
    opened = f.opened;
  }

  -- what the seat in its turn knows of the history, and what the value has more
  abbrev Growth : {s : Table T X O} → Turning k origin s → ℕ → T → Type 0
  Growth r n y = Grown k.caller k.before n r.history r.idle (k.turns y) (k.idle y)

  value_released : (s : Table T X O) (r : Turning k origin s) (id n : ℕ) (v : View X O) (c : List (ℕ × Option T)) (y : T) → c ≡ (0, Some y) ∷ [] → v.inside ≡ true → v.other.numbers ≡ [] → IsIn n v.mine.numbers → Growth r n y → k.opening y ≡ origin → get_elem? s.views id ≡ some v
      → Turning k origin record { words = set s.words 1 ((slice_index s.words 1 + 1) % 2 ^ 64); homes = put_back s.homes c; views = set s.views id (left_view v (k.turns y)) }
  value_released s r id n v c y carried inside alone has g opens_is at =
      let f = r.seats id v at in
      let in_turn = f.inside inside in
      let mine = f.ticketed r.turns in_turn.1 in
      let less : r.turns < r.tickets = mine.1 in
      let few : r.tickets < 2 ^ 64 = r.reached.1 in
      let owns = f.drawn n has in
      let found : slice_index s.words 1 ≡ r.turns = ap (λ ws. slice_index ws 1) r.words in
      let small : r.turns + 1 < 2 ^ 64 = omega arith in
      let next : (slice_index s.words 1 + 1) % 2 ^ 64 ≡ r.turns + 1 = ap (λ (j : ℕ). (j + 1) % 2 ^ 64) found ∙ mod-eq_of_lt small in record {
        history = k.turns y;
        idle = k.idle y;
        tickets = r.tickets;
        turns = r.turns + 1;
        callers = r.callers;
        out = false;
        owner = r.owner;
        holder = r.holder;
        words = ap (λ ws. set ws 1 ((slice_index s.words 1 + 1) % 2 ^ 64)) r.words ∙ ap (λ (j : ℕ). r.tickets ∷ j ∷ r.callers ∷ []) next;
        count = let a = r.count in let b = g.count in omega arith;
        reached = (omega arith, few, r.reached.2);
        fresh = λ m le. let lt = owns.0 in still_none k.caller m r.history g.more (k.turns y) g.is (r.fresh m le) (g.apart m (λ q. omega arith));
        home = λ _. (y, ap (λ l. put_back s.homes l) carried ∙ ap (λ hs. set hs 0 (some (Some y))) (r.away in_turn.0).0, record { turns = refl; idles = refl; origin_is = opens_is });
        away = λ e. absurd (false≢true e);
        served = λ t le lt. served_else s.views id v (left_view v (k.turns y)) (r.holder t) t at (λ e. let q = same_Some r.turns t (sym in_turn.1 ∙ e) in omega arith) (r.served t (omega arith) lt);
        seats = seats_stay (λ by d. Fits k origin (k.turns y) (k.idle y) r.tickets (r.turns + 1) r.callers false r.owner r.holder by d) s.views id (left_view v (k.turns y)) (own_release s r id v y g.more g.is alone at)
            (λ by d other there. others_release k origin r.history r.idle r.tickets r.turns r.callers r.out r.owner r.holder id by n (k.idle y) g.more (k.turns y) d owns.1 mine.2 other g.is g.apart (r.seats by d there));
      }

  pub release_allowed : (slots id n : ℕ) (me : Seat T X O) (y : T) → me.1 ≡ (0, Some y) ∷ [] → me.0.inside ≡ true → me.0.other.numbers ≡ [] → IsIn n me.0.mine.numbers
      → AddsOne k.caller k.before n me.0.mine.seen me.0.idle (k.turns y) (k.idle y) → k.opening y ≡ origin → Allows (Turning k origin) slots id me 1 (λ j. (j + 1) % 2 ^ 64) (releasing k (step slots 1 1 0 none) me)
  release_allowed slots id n me y carried inside alone has adds opens_is s r len at small =
      let in_turn = (r.seats id me.0 at).inside inside in
      let adds_to : AddsOne k.caller k.before n r.history r.idle (k.turns y) (k.idle y) = subst (λ (z : List X × ℕ). AddsOne k.caller k.before n z.0 z.1 (k.turns y) (k.idle y)) (λ i. (in_turn.2 i, in_turn.3 i)) adds in
      let g = grown k.caller k.before n r.history r.idle (k.turns y) (k.idle y) adds_to in (
        left_view me.0 (k.turns y),
        gives,
        tt,
        value_released s r id n me.0 me.1 y carried inside alone has g opens_is at,
        (λ y' e. let same : y ≡ y' = same_Some y y' (ap (λ (p : ℕ × Option T). p.1) (cons_same (0, Some y) (0, Some y') [] [] (sym carried ∙ e)).0) in
            λ i. (left_view me.0 (k.turns (same i)), ap (λ l. rest l) carried i)),
      )
