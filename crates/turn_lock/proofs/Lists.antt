-- Lists read by place, lists that are two cut in two ways, and functions changed at one place.
use Rattle.std.proofs.Common.{◌≡◌, ◌≢◌, ℕ, zero, suc, ◌<◌, ◌≤◌, ◌⊎◌, inl, inr, ⊎_elim, Bool, List, [], ◌∷◌, ◌++◌, length, set, eqb, eq-eqb, ne_eqb, sym, refl, ap, ◌∙◌, subst, arith}
use mathlib.Core.Option.{some, some-injective, some-ne-none}
use lib.ListN.{get_elem?}
use prog.Atomic.{either}
use Rattle.std.specs.List.{filter}
use Rattle.std.proofs.lemmas.List.Elements.{filter-append}
use Rattle.atomic_table.proofs.Lists.{at_set}

module _ {A : Type 0} where
  pub at_below : (l : List A) (i : ℕ) (a : A) → get_elem? l i ≡ some a → i < length l
  at_below [] i a e = absurd (some-ne-none a (sym e))
  at_below (x ∷ xs) zero a e = omega arith
  at_below (x ∷ xs) (suc i) a e = let h = at_below xs i a e in omega arith

  -- what stands in a list with one more at its end, and where
  pub at_end : (l : List A) (a b : A) (j : ℕ) → get_elem? (l ++ a ∷ []) j ≡ some b → (get_elem? l j ≡ some b) ⊎ ((j ≡ length l) × (a ≡ b))
  at_end [] a b zero e = inr (refl, some-injective a b e)
  at_end [] a b (suc j) e = absurd (some-ne-none b (sym e))
  at_end (x ∷ xs) a b zero e = inl e
  at_end (x ∷ xs) a b (suc j) e = ⊎_elim (λ t. inl t) (λ t. inr (ap suc t.0, t.1)) (at_end xs a b j e)

  -- a fact about every seat, after one of them has changed
  pub seats_stay : (K : ℕ → A → Type 0) (l : List A) (i : ℕ) (w : A) → K i w → ((j : ℕ) (d : A) → j ≢ i → get_elem? l j ≡ some d → K j d) → (j : ℕ) (d : A) → get_elem? (set l i w) j ≡ some d → K j d
  seats_stay K l i w here else j d e = ⊎_elim (λ t. subst (λ (n : ℕ). K n d) (sym t.0) (subst (λ (x : A). K i x) t.1 here)) (λ t. else j d t.0 t.1) (at_set l i j w d e)

  pub both_nil : (a b : List A) → a ++ b ≡ [] → (a ≡ []) × (b ≡ [])
  both_nil [] b e = (refl, e)
  both_nil (x ∷ xs) b e = absurd (let n = ap length e in omega arith)

  pub parts_nil : (p : A → Bool) (whole a b : List A) → whole ≡ a ++ b → filter p whole ≡ [] → (filter p a ≡ []) × (filter p b ≡ [])
  parts_nil p whole a b is e = both_nil (filter p a) (filter p b) (sym (filter-append p a b) ∙ ap (λ l. filter p l) (sym is) ∙ e)

  pub cons_same : (x y : A) (xs ys : List A) → x ∷ xs ≡ y ∷ ys → (x ≡ y) × (xs ≡ ys)
  cons_same x y xs ys e = (cc, cc)

  -- of two fronts of one list the shorter begins the longer
  pub prefix_cut : (a b r q : List A) → a ++ r ≡ b ++ q → length b ≤ length a → (m : List A) × (a ≡ b ++ m) × (q ≡ m ++ r)
  prefix_cut a [] r q e le = (a, refl, sym e)
  prefix_cut [] (y ∷ ys) r q e le = absurd (omega arith)
  prefix_cut (x ∷ xs) (y ∷ ys) r q e le = let heads = cons_same x y (xs ++ r) (ys ++ q) e in let t = prefix_cut xs ys r q heads.1 (omega arith) in
      (t.0, (λ i. heads.0 i ∷ t.1 i), t.2)

-- the function with c at i
abbrev pub put : (ℕ → ℕ) → ℕ → ℕ → ℕ → ℕ
put f i c n = either (eqb n i) c (f n)

pub put_here : (f : ℕ → ℕ) (i c n : ℕ) → n ≡ i → put f i c n ≡ c
put_here f i c n e = ap (λ b. either b c (f n)) (eq-eqb n i e)

pub put_else : (f : ℕ → ℕ) (i c n : ℕ) → n ≢ i → put f i c n ≡ f n
put_else f i c n ne = ap (λ b. either b c (f n)) (ne_eqb n i ne)

-- the function that gives `to` where f gives `from`
abbrev pub shift : (ℕ → ℕ) → ℕ → ℕ → ℕ → ℕ
shift f from to n = either (eqb (f n) from) to (f n)

pub shift_here : (f : ℕ → ℕ) (from to n : ℕ) → f n ≡ from → shift f from to n ≡ to
shift_here f from to n e = ap (λ b. either b to (f n)) (eq-eqb (f n) from e)

pub shift_else : (f : ℕ → ℕ) (from to n : ℕ) → f n ≢ from → shift f from to n ≡ f n
shift_else f from to n ne = ap (λ b. either b to (f n)) (ne_eqb (f n) from ne)
