-- Places by their numbers.
use Rattle.std.proofs.Common.{◌≡◌, ℕ, zero, suc, ◌<◌, ◌≤◌, ◌==◌, Bool, List, [], ◌∷◌, ◌++◌, length, slice_get, get_or, Some, refl, sym, ap, subst, ◌∙◌, arith}
use Rattle.std.specs.Bool.{one_answer}
use Rattle.std.specs.List.{All}
use Rattle.std.proofs.lemmas.Bool.Decides.{Decides-eqb}
use Rattle.std.proofs.lemmas.List.Elements.{All-cons, All-nil}
use Rattle.std.proofs.lemmas.Option.{slice_get_within}
use Rattle.command.specs.declared.command.Command.{Command}
use Rattle.braid.specs.declared.closure.Links.{Links}
use Rattle.braid.specs.working.Links.{AreLinked, AreNumbers, listed_links, parents_left, sum_of, times}
use Rattle.braid.proofs.Counts.{one_number}

-- what stands there stays when more is put behind
pub kept_at : (xs ys : List ℕ) (n p : ℕ) → slice_get xs n ≡ Some p → slice_get (xs ++ ys) n ≡ Some p
kept_at [] ys n p h = absurd (omega (arith, slice_get_within [] n p h))
kept_at (x ∷ xs) ys zero p h = h
kept_at (x ∷ xs) ys (suc n) p h = kept_at xs ys n p h

pub numbers_kept : (places more ns ps : List ℕ) → AreNumbers places ns ps → AreNumbers (places ++ more) ns ps
numbers_kept places more [] [] h = tt
numbers_kept places more [] (p ∷ ps) h = absurd h
numbers_kept places more (n ∷ ns) [] h = absurd h
numbers_kept places more (n ∷ ns) (p ∷ ps) h = (kept_at places more n p h.0, numbers_kept places more ns ps h.1)

pub numbers_join : (places ns ps ms qs : List ℕ) → AreNumbers places ns ps → AreNumbers places ms qs → AreNumbers places (ns ++ ms) (ps ++ qs)
numbers_join places [] [] ms qs h k = k
numbers_join places [] (p ∷ ps) ms qs h k = absurd h
numbers_join places (n ∷ ns) [] ms qs h k = absurd h
numbers_join places (n ∷ ns) (p ∷ ps) ms qs h k = (h.0, numbers_join places ns ps ms qs h.1 k)

pub numbers_split : (places ns ms ps : List ℕ) → AreNumbers places (ns ++ ms) ps → (qs : List ℕ) × (rs : List ℕ) × (ps ≡ qs ++ rs) × AreNumbers places ns qs × AreNumbers places ms rs
numbers_split places [] ms ps h = ([], ps, refl, tt, h)
numbers_split places (n ∷ ns) ms [] h = absurd h
numbers_split places (n ∷ ns) ms (p ∷ ps) h = let r = numbers_split places ns ms ps h.1 in (p ∷ r.0, r.1, ap (λ l. p ∷ l) r.2, (h.0, r.3), r.4)

pub numbers_within : (places ns ps : List ℕ) → AreNumbers places ns ps → All (λ k. k < length places) ns
numbers_within places [] ps h = All-nil (λ k. k < length places)
numbers_within places (n ∷ ns) [] h = absurd h
numbers_within places (n ∷ ns) (p ∷ ps) h = All-cons (λ k. k < length places) n ns (slice_get_within places n p h.0) (numbers_within places ns ps h.1)

module _ (places : List ℕ) (once : (p : ℕ) → times p places ≤ 1) (k p : ℕ) (at : slice_get places k ≡ Some p) where
  same_test : (n q : ℕ) → slice_get places n ≡ Some q → (k == n) ≡ (p == q)
  same_test n q there =
      one_answer (k == n) (p == q) (Decides-eqb k n) (
        (λ h. one_number places once k n q (at ∙ ap Some ((Decides-eqb p q).0 h)) there),
        (λ e. let both : Some p ≡ Some q = sym at ∙ ap (slice_get places) e ∙ there in (Decides-eqb p q).1 cc),
      )

  -- a number stands in a list as often as its place among theirs
  pub numbers_times : (ns ps : List ℕ) → AreNumbers places ns ps → times k ns ≡ times p ps
  numbers_times [] [] h = refl
  numbers_times [] (q ∷ ps) h = absurd h
  numbers_times (n ∷ ns) [] h = absurd h
  numbers_times (n ∷ ns) (q ∷ ps) h = rw (same_test n q h.0, numbers_times ns ps h.1) refl

  pub linked_sum : (cs : List Command) (skip : ℕ → Bool) (links : List Links) (ps : List ℕ) → AreLinked cs skip places links ps → sum_of (λ them. times k (listed_links them)) links ≡ sum_of (λ q. times p (parents_left cs skip q)) ps
  linked_sum cs skip [] [] h = refl
  linked_sum cs skip [] (q ∷ ps) h = absurd h
  linked_sum cs skip (them ∷ links) [] h = absurd h
  linked_sum cs skip (them ∷ links) (q ∷ ps) h = rw (numbers_times (listed_links them) (parents_left cs skip q) h.0, linked_sum cs skip links ps h.1) refl

pub linked_kept : (cs : List Command) (skip : ℕ → Bool) (places more : List ℕ) (links : List Links) (ps : List ℕ) → AreLinked cs skip places links ps → AreLinked cs skip (places ++ more) links ps
linked_kept cs skip places more [] [] h = tt
linked_kept cs skip places more [] (q ∷ ps) h = absurd h
linked_kept cs skip places more (them ∷ links) [] h = absurd h
linked_kept cs skip places more (them ∷ links) (q ∷ ps) h = (numbers_kept places more (listed_links them) (parents_left cs skip q) h.0, linked_kept cs skip places more links ps h.1)

pub linked_more : (cs : List Command) (skip : ℕ → Bool) (places : List ℕ) (links : List Links) (ps : List ℕ) (them : Links) (q : ℕ) → AreLinked cs skip places links ps → AreNumbers places (listed_links them) (parents_left cs skip q) → AreLinked cs skip places (links ++ them ∷ []) (ps ++ q ∷ [])
linked_more cs skip places [] [] them q h one = (one, tt)
linked_more cs skip places [] (p ∷ ps) them q h one = absurd h
linked_more cs skip places (l ∷ links) [] them q h one = absurd h
linked_more cs skip places (l ∷ links) (p ∷ ps) them q h one = (h.0, linked_more cs skip places links ps them q h.1 one)

pub linked_length : (cs : List Command) (skip : ℕ → Bool) (places : List ℕ) (links : List Links) (ps : List ℕ) → AreLinked cs skip places links ps → length links ≡ length ps
linked_length cs skip places [] [] h = refl
linked_length cs skip places [] (p ∷ ps) h = absurd h
linked_length cs skip places (l ∷ links) [] h = absurd h
linked_length cs skip places (l ∷ links) (p ∷ ps) h = ap suc (linked_length cs skip places links ps h.1)

pub linked_at : (cs : List Command) (skip : ℕ → Bool) (places : List ℕ) (links : List Links) (ps : List ℕ) → AreLinked cs skip places links ps → (k p : ℕ) (d : Links) → slice_get ps k ≡ Some p → AreNumbers places (listed_links (get_or links k d)) (parents_left cs skip p)
linked_at cs skip places [] [] h k p d at = absurd (omega (arith, slice_get_within [] k p at))
linked_at cs skip places [] (q ∷ ps) h k p d at = absurd h
linked_at cs skip places (l ∷ links) [] h k p d at = absurd h
linked_at cs skip places (l ∷ links) (q ∷ ps) h zero p d at = let same : q ≡ p = cc in subst (λ z. AreNumbers places (listed_links l) (parents_left cs skip z)) same h.0
linked_at cs skip places (l ∷ links) (q ∷ ps) h (suc k) p d at = linked_at cs skip places links ps h.1 k p d at

pub linked_within : (cs : List Command) (skip : ℕ → Bool) (places : List ℕ) (links : List Links) (ps : List ℕ) → AreLinked cs skip places links ps → All (λ them. All (λ k. k < length places) (listed_links them)) links
linked_within cs skip places [] ps h = All-nil (λ them. All (λ k. k < length places) (listed_links them))
linked_within cs skip places (l ∷ links) [] h = absurd h
linked_within cs skip places (l ∷ links) (p ∷ ps) h =
    All-cons (λ them. All (λ k. k < length places) (listed_links them)) l links (numbers_within places (listed_links l) (parents_left cs skip p) h.0) (linked_within cs skip places links ps h.1)
