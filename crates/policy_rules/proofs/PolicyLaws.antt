-- Policies: well typed, or with one first item that isn't.
use Rattle.std.proofs.Common.{◌≡◌, ◌⊎◌, inl, inr, ℕ, zero, suc, ◌<◌, Bool, true, false, List, length, take, slice_get, Option, Some, None, refl, sym, ap, subst, ◌∙◌, arith}
use Rattle.std.proofs.lemmas.Bool.{cases_order, false≢true}
use Rattle.std.proofs.lemmas.Option.{same_Some, slice_get-map, slice_get_within}
use Rattle.base_bytes.proofs.Formats.{map_then}
use Rattle.policy_ast.specs.declared.item.Item.{Item}
use Rattle.policy_ast.specs.declared.policy.PlacedItem.{PlacedItem}
use Rattle.policy_rules.proofs.ItemLaws.{item_found, item_judged}
use Rattle.policy_rules.proofs.StatementLaws.{judgement_found, judges}
use Rattle.policy_rules.specs.Items.{IsItem}
use Rattle.policy_rules.specs.Laws.{AreJudged, HasOneVerdict}
use Rattle.policy_rules.specs.Names.{Name, names_of}
use Rattle.policy_rules.specs.WellTyped.{HasTypeFault, IsWellTyped, IsWellTypedAt, items_of}
use Rattle.policy_rules.specs.ItemJudging.{item_is}

pub are_judged : (items : List Item) → AreJudged items
are_judged items = record {
  of_statements = λ context scope after s. (λ p. judges items context p, λ is. judgement_found items context s scope after is);
  of_items = λ earlier i. (λ p. item_judged items earlier i p, λ is. item_found items earlier i is);
}

module _ (policy : List PlacedItem) where
  abbrev all : List Item
  all = items_of policy

  abbrev earlier : ℕ → List Name
  earlier n = names_of (take n all)

  -- the item at n, if any, is ill typed, with its line
  abbrev IllAt : ℕ → Type 0
  IllAt n = (p : PlacedItem) × (slice_get policy n ≡ Some p) × (IsWellTypedAt all n → ⊥)

  placed : (n : ℕ) (i : Item) → slice_get all n ≡ Some i → (p : PlacedItem) × (slice_get policy n ≡ Some p) × (p.item ≡ i)
  placed n i is = map_then (slice_get policy n) (λ p. p.item) i (sym (slice_get-map (λ p. p.item) policy n) ∙ is) (λ p has same. (p, has, same))

  judged_at : (n : ℕ) (i : Item) → slice_get all n ≡ Some i → (b : Bool) → item_is all (earlier n) i ≡ b → IsWellTypedAt all n ⊎ IllAt n
  judged_at n i is true yes' = inl (λ j has. subst (IsItem all (earlier n)) (same_Some i j (sym is ∙ has)) (item_found all (earlier n) i yes'))
  judged_at n i is false no' = let there = placed n i is in
      inr (there.0, there.1, λ well. absurd (false≢true (sym no' ∙ item_judged all (earlier n) i (well i is))))

  looked_at : (n : ℕ) (o : Option Item) → slice_get all n ≡ o → IsWellTypedAt all n ⊎ IllAt n
  looked_at n None is = inl (λ i has. absurd (cc))
  looked_at n (Some i) is = judged_at n i is (item_is all (earlier n) i) refl

  -- all items before n are well typed, or there is a first one that isn't
  abbrev Searched : ℕ → Type 0
  Searched n = ((m : ℕ) → m < n → IsWellTypedAt all m) ⊎ ((line : ℕ) × HasTypeFault policy line)

  further : (n : ℕ) → Searched n → IsWellTypedAt all n ⊎ IllAt n → Searched (suc n)
  further n (inr fault) at = inr fault
  further n (inl before) (inr ill) = inr (ill.0.line, record { number = n; item = ill.0; stands = ill.1; before = before; ill = ill.2; begins = refl })
  further n (inl before) (inl well) = inl (λ m lt. by m lt (cases_order m n))
    where
      by : (m : ℕ) → m < suc n → (m ≡ n) ⊎ ((m < n) ⊎ (n < m)) → IsWellTypedAt all m
      by m lt (inl same) = subst (IsWellTypedAt all) (sym same) well
      by m lt (inr (inl less)) = before m less
      by m lt (inr (inr more)) = absurd (omega arith)

  searched : (n : ℕ) → Searched n
  searched zero = inl (λ m lt. absurd (omega arith))
  searched (suc n) = further n (searched n) (looked_at n (slice_get all n) refl)

  ended : Searched (length all) → IsWellTyped policy ⊎ ((line : ℕ) × HasTypeFault policy line)
  ended (inr fault) = inr fault
  ended (inl before) = inl (λ n i is. before n (slice_get_within all n i is) i is)

  one_fault : (line other : ℕ) → HasTypeFault policy line → HasTypeFault policy other → line ≡ other
  one_fault line other f g = by (cases_order f.number g.number)
    where
      by : (f.number ≡ g.number) ⊎ ((f.number < g.number) ⊎ (g.number < f.number)) → line ≡ other
      by (inl same) = sym f.begins ∙ ap (λ p. p.line) (same_Some f.item g.item (sym f.stands ∙ ap (slice_get policy) same ∙ g.stands)) ∙ g.begins
      by (inr (inl less)) = absurd (f.ill (g.before f.number less))
      by (inr (inr more)) = absurd (g.ill (f.before g.number more))

  pub has_one_verdict : HasOneVerdict policy
  has_one_verdict = record {
    verdict = ended (searched (length all));
    one_line = one_fault;
    not_both = λ line f well. f.ill (well f.number);
  }
