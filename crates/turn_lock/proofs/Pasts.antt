-- Pasts and the lists that they continue to.
use Rattle.std.proofs.Common.{◌≡◌, ◌≢◌, ℕ, suc, ◌+◌, ◌≤◌, ◌⊎◌, inl, inr, ⊎_elim, List, [], ◌∷◌, ◌++◌, length, cond, ne_eqb, eqb, sym, refl, ap, ◌∙◌, append_assoc, append-nil, arith}
use Rattle.std.proofs.lemmas.List.Elements.{filter-append}
use Rattle.std.proofs.lemmas.List.Sums.{sum_by-append}
use native.Mathlib.Decide.{dec_le}
use Rattle.turn_lock.specs.Turns.{IsIn, turns_by, count_of, Continues, AddsOne, pick, longer}
use Rattle.turn_lock.proofs.Lists.{parts_nil, prefix_cut}

pub in_either : (n : ℕ) (xs ys : List ℕ) → IsIn n (xs ++ ys) → IsIn n xs ⊎ IsIn n ys
in_either n [] ys i = inr i
in_either n (x ∷ xs) ys i = ⊎_elim (λ e. inl (inl e)) (λ t. ⊎_elim (λ l. inl (inr l)) (λ r. inr r) (in_either n xs ys t)) i

pub in_front : (n : ℕ) (xs ys : List ℕ) → IsIn n xs → IsIn n (xs ++ ys)
in_front n [] ys i = absurd i
in_front n (x ∷ xs) ys i = ⊎_elim (λ e. inl e) (λ t. inr (in_front n xs ys t)) i

module _ {X : Type 0} (caller : X → ℕ) where
  pub itself : (ns : List ℕ) (h : List X) → Continues caller ns h h
  itself ns h = record { rest = []; split = sym (append-nil h); apart = λ _ _. refl }

  pub from_nothing : (h : List X) → Continues caller [] [] h
  from_nothing h = record { rest = h; split = refl; apart = λ _ i. absurd i }

  -- the list grows by turns that others made
  pub further : (ns : List ℕ) (seen h more whole : List X) → whole ≡ h ++ more → ((n : ℕ) → IsIn n ns → turns_by caller n more ≡ []) → Continues caller ns seen h → Continues caller ns seen whole
  further ns seen h more whole is apart c = record {
    rest = c.rest ++ more;
    split = is ∙ ap (λ l. l ++ more) c.split ∙ append_assoc seen c.rest more;
    apart = λ n i. filter-append (λ x. eqb (caller x) n) c.rest more ∙ ap (λ l. l ++ turns_by caller n more) (c.apart n i) ∙ apart n i;
  }

  -- a number with no turn in a list and none in what comes then has none in both
  pub still_none : (n : ℕ) (h more whole : List X) → whole ≡ h ++ more → turns_by caller n h ≡ [] → turns_by caller n more ≡ [] → turns_by caller n whole ≡ []
  still_none n h more whole is none_there none_more = ap (λ l. turns_by caller n l) is ∙ filter-append (λ x. eqb (caller x) n) h more ∙ ap (λ l. l ++ turns_by caller n more) none_there ∙ none_more

  -- a number with no turn in the list may be drawn
  pub new_number : (ns : List ℕ) (n : ℕ) (seen h : List X) → turns_by caller n h ≡ [] → Continues caller ns seen h → Continues caller (n ∷ []) seen h
  new_number ns n seen h none c = record {
    rest = c.rest;
    split = c.split;
    apart = λ m i. ⊎_elim (λ e. ap (λ (j : ℕ). turns_by caller j c.rest) e ∙ (parts_nil (λ x. eqb (caller x) n) h seen c.rest c.split none).1) (λ f. absurd f) i;
  }

  -- a number with no turn in the list has none in what was seen of it
  pub unseen : (ns : List ℕ) (n : ℕ) (seen h : List X) → turns_by caller n h ≡ [] → Continues caller ns seen h → turns_by caller n seen ≡ []
  unseen ns n seen h none c = (parts_nil (λ x. eqb (caller x) n) h seen c.rest c.split none).0

  -- the past of a new seat
  pub no_number : (ns : List ℕ) (seen h : List X) → Continues caller ns seen h → Continues caller [] seen h
  no_number ns seen h c = record { rest = c.rest; split = c.split; apart = λ _ i. absurd i }

  -- what the list has more than before: its turns are by n alone
  pub record Grown (before : X → ℕ) (n : ℕ) (seen : List X) (idle : ℕ) (turns : List X) (idle_now : ℕ) : Type 0 where
    pub more : List X
    pub is : turns ≡ seen ++ more
    pub count : count_of before turns + idle_now ≡ suc (count_of before seen + idle)
    pub apart : (m : ℕ) → m ≢ n → turns_by caller m more ≡ []

  pub grown : (before : X → ℕ) (n : ℕ) (seen : List X) (idle : ℕ) (turns : List X) (idle_now : ℕ) → AddsOne caller before n seen idle turns idle_now → Grown before n seen idle turns idle_now
  grown before n seen idle turns idle_now adds = ⊎_elim
      (λ t. let x = t.0 in record {
        more = x ∷ [];
        is = t.1;
        count = let s = ap (λ l. count_of before l) t.1 ∙ sum_by-append (λ y. before y + 1) seen (x ∷ []) in let b = t.3 in let z = t.4 in omega arith;
        apart = λ m ne. ap (λ b. cond b (x ∷ []) []) (ne_eqb (caller x) m (λ e. ne (sym e ∙ t.2)));
      })
      (λ t. record {
        more = [];
        is = t.0 ∙ sym (append-nil seen);
        count = let s = ap (λ l. count_of before l) t.0 in let z = t.1 in omega arith;
        apart = λ m ne. refl;
      })
      adds

  -- two pasts of one list as one: of two lists the longer, which both continue to
  pub record Settled (ns ms : List ℕ) (a b whole h : List X) : Type 0 where
    pub first : Continues caller ns a whole
    pub second : Continues caller ms b whole
    pub both : Continues caller (ns ++ ms) whole h

  settles : (ns ms : List ℕ) (a b h : List X) → Continues caller ns a h → Continues caller ms b h → length b ≤ length a → Settled ns ms a b a h
  settles ns ms a b h c d le = let cut = prefix_cut a b c.rest d.rest (sym c.split ∙ d.split) le in
      let parts : (n : ℕ) → IsIn n ms → (turns_by caller n cut.0 ≡ []) × (turns_by caller n c.rest ≡ []) = λ n i. parts_nil (λ x. eqb (caller x) n) d.rest cut.0 c.rest cut.2 (d.apart n i) in record {
        first = itself ns a;
        second = record { rest = cut.0; split = cut.1; apart = λ n i. (parts n i).0 };
        both = record { rest = c.rest; split = c.split; apart = λ n i. ⊎_elim (λ l. c.apart n l) (λ r. (parts n r).1) (in_either n ns ms i) };
      }

  settles_other : (ns ms : List ℕ) (a b h : List X) → Continues caller ns a h → Continues caller ms b h → length a ≤ length b → Settled ns ms a b b h
  settles_other ns ms a b h c d le = let cut = prefix_cut b a d.rest c.rest (sym d.split ∙ c.split) le in
      let parts : (n : ℕ) → IsIn n ns → (turns_by caller n cut.0 ≡ []) × (turns_by caller n d.rest ≡ []) = λ n i. parts_nil (λ x. eqb (caller x) n) c.rest cut.0 d.rest cut.2 (c.apart n i) in record {
        first = record { rest = cut.0; split = cut.1; apart = λ n i. (parts n i).0 };
        second = itself ms b;
        both = record { rest = d.rest; split = d.split; apart = λ n i. ⊎_elim (λ l. (parts n l).1) (λ r. d.apart n r) (in_either n ns ms i) };
      }

  settled_by : (ns ms : List ℕ) (a b h : List X) (d : Dec (length b ≤ length a)) → Continues caller ns a h → Continues caller ms b h → Settled ns ms a b (pick d a b) h
  settled_by ns ms a b h (yes le) c d = settles ns ms a b h c d le
  settled_by ns ms a b h (no not) c d = settles_other ns ms a b h c d (omega arith)

  pub settled : (ns ms : List ℕ) (a b h : List X) → Continues caller ns a h → Continues caller ms b h → Settled ns ms a b (longer a b) h
  settled ns ms a b h c d = settled_by ns ms a b h (dec_le (length b) (length a)) c d
