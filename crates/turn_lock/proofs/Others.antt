-- What the other seats keep when one seat steps.
use Rattle.std.proofs.Common.{◌≡◌, ◌≢◌, ℕ, ◌+◌, ◌<◌, Bool, true, false, true≢false, List, [], ◌++◌, set, Some, sym, ap, ◌∙◌, subst, arith}
use mathlib.Core.Option.{some, some-injective}
use mathlib.Core.Logic.{dite}
use native.Mathlib.Decide.{ℕ_discrete}
use lib.ListN.{get_elem?}
use Rattle.std.proofs.lemmas.Bool.{false≢true}
use Rattle.atomic_table.proofs.Lists.{set_here, set_else}
use Rattle.turn_lock.specs.declared.view.View.{View}
use Rattle.turn_lock.specs.Turns.{turns_by}
use Rattle.turn_lock.specs.Rule.{Told, Fits, Holds}
use Rattle.turn_lock.proofs.Lists.{at_below, put, put_else, shift, shift_else}
use Rattle.turn_lock.proofs.Pasts.{further}

module _ {X O : Type 0} where
  -- a seat that keeps its ticket takes nothing from whoever holds one
  pub served_stay : (vs : List (View X O)) (id : ℕ) (v w : View X O) (j t : ℕ) → get_elem? vs id ≡ some v → w.ticket ≡ v.ticket → Holds vs j t → Holds (set vs id w) j t
  served_stay vs id v w j t at same u = dite (ℕ_discrete j id)
      (λ e. (w, subst (λ (i : ℕ). get_elem? (set vs id w) i ≡ some w) (sym e) (set_here vs id w (at_below vs id v at)), same ∙ ap (λ (x : View X O). x.ticket) (some-injective v u.0 (sym at ∙ ap (λ i. get_elem? vs i) (sym e) ∙ u.1)) ∙ u.2))
      (λ ne. (u.0, set_else vs id j w ne ∙ u.1, u.2))

  -- nor does a seat with another ticket, or with none
  pub served_else : (vs : List (View X O)) (id : ℕ) (v w : View X O) (j t : ℕ) → get_elem? vs id ≡ some v → v.ticket ≢ Some t → Holds vs j t → Holds (set vs id w) j t
  served_else vs id v w j t at no_such u = dite (ℕ_discrete j id)
      (λ e. absurd (no_such (ap (λ (x : View X O). x.ticket) (some-injective v u.0 (sym at ∙ ap (λ i. get_elem? vs i) (sym e) ∙ u.1)) ∙ u.2)))
      (λ ne. (u.0, set_else vs id j w ne ∙ u.1, u.2))

module _ {T X O : Type 0} (k : Told T X O) (origin : O) (h : List X) (idle tickets turns callers : ℕ) (out : Bool) (owner holder : ℕ → ℕ) where
  -- the seat `id` draws a caller's number
  pub others_number : (old id by : ℕ) (v : View X O) → callers ≡ old → Fits k origin h idle tickets turns callers out owner holder by v → Fits k origin h idle tickets turns (old + 1) out (put owner old id) holder by v
  others_number old id by v is f = record {
    mine = f.mine;
    other = f.other;
    drawn = λ n i. let d = f.drawn n i in let less = d.0 in (omega arith, put_else owner old id n (λ e. omega arith) ∙ d.1);
    drawn_other = λ n i. let d = f.drawn_other n i in let less = d.0 in (omega arith, put_else owner old id n (λ e. omega arith) ∙ d.1);
    known = λ n i. let less = f.known n i in omega arith;
    ticketed = f.ticketed;
    numbered = f.numbered;
    inside = f.inside;
    entered = f.entered;
    opened = f.opened;
  }

  -- the seat `id` draws a ticket
  pub others_ticket : (old id by : ℕ) (v : View X O) → tickets ≡ old → (out ≡ true → turns < tickets) → Fits k origin h idle tickets turns callers out owner holder by v → Fits k origin h idle (old + 1) turns callers out owner (put holder old id) by v
  others_ticket old id by v is away f = record {
    mine = f.mine;
    other = f.other;
    drawn = f.drawn;
    drawn_other = f.drawn_other;
    known = f.known;
    ticketed = λ t e. let d = f.ticketed t e in let less = d.1 in (d.0, omega arith, put_else holder old id t (λ q. omega arith) ∙ d.2);
    numbered = f.numbered;
    inside = f.inside;
    entered = λ o at. let less = away o in f.entered o (sym (put_else holder old id turns (λ q. omega arith)) ∙ at);
    opened = f.opened;
  }

  -- the seat `id` takes the value
  pub others_take : (id by : ℕ) (v : View X O) → out ≡ false → holder turns ≡ id → by ≢ id → Fits k origin h idle tickets turns callers out owner holder by v → Fits k origin h idle tickets turns callers true owner holder by v
  others_take id by v home holds ne f = record {
    mine = f.mine;
    other = f.other;
    drawn = f.drawn;
    drawn_other = f.drawn_other;
    known = f.known;
    ticketed = f.ticketed;
    numbered = f.numbered;
    inside = λ i. absurd (true≢false (sym (f.inside i).0 ∙ home));
    entered = λ _ at. absurd (ne (sym at ∙ holds));
    opened = f.opened;
  }

  -- the seat `id` ends its turn, after which there is more by its number n alone
  pub others_release : (id by n idle_now : ℕ) (more whole : List X) (v : View X O) → owner n ≡ id → holder turns ≡ id → by ≢ id → whole ≡ h ++ more → ((m : ℕ) → m ≢ n → turns_by k.caller m more ≡ [])
      → Fits k origin h idle tickets turns callers out owner holder by v → Fits k origin whole idle_now tickets (turns + 1) callers false owner holder by v
  others_release id by n idle_now more whole v owns holds ne is apart f = record {
    mine = further k.caller v.mine.numbers v.mine.seen h more whole is (λ m i. apart m (λ e. ne (sym (f.drawn m i).1 ∙ ap owner e ∙ owns))) f.mine;
    other = further k.caller v.other.numbers v.other.seen h more whole is (λ m i. apart m (λ e. ne (sym (f.drawn_other m i).1 ∙ ap owner e ∙ owns))) f.other;
    drawn = f.drawn;
    drawn_other = f.drawn_other;
    known = f.known;
    ticketed = λ t e. let d = f.ticketed t e in let le = d.0 in let apart_from : t ≢ turns = λ q. ne (sym d.2 ∙ ap holder q ∙ holds) in (omega arith, d.1, d.2);
    numbered = f.numbered;
    inside = λ i. absurd (ne (sym (f.ticketed turns (f.inside i).1).2 ∙ holds));
    entered = λ e _. absurd (false≢true e);
    opened = f.opened;
  }

  -- the seat `id` takes in the seat `other`
  pub others_join : (id other by : ℕ) (v : View X O) → by ≢ other → Fits k origin h idle tickets turns callers out owner holder by v → Fits k origin h idle tickets turns callers out (shift owner other id) holder by v
  others_join id other by v ne f = record {
    mine = f.mine;
    other = f.other;
    drawn = λ n i. let d = f.drawn n i in (d.0, shift_else owner other id n (λ e. ne (sym d.1 ∙ e)) ∙ d.1);
    drawn_other = λ n i. let d = f.drawn_other n i in (d.0, shift_else owner other id n (λ e. ne (sym d.1 ∙ e)) ∙ d.1);
    known = f.known;
    ticketed = f.ticketed;
    numbered = f.numbered;
    inside = f.inside;
    entered = f.entered;
    opened = f.opened;
  }
