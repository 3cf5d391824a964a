-- In a well-typed policy what can be called has ranks: the rank is how many calls at most follow one another behind a call, itself counted.
use Rattle.std.proofs.Common.{◌≡◌, ℕ, zero, suc, ◌≤◌, Bool, true, false, cond, nat_le, nat_lt, List, Option, Some, refl, sym, subst, ◌∙◌, arith}
use Rattle.std.proofs.lemmas.Bool.{false≢true, le-leb, lt-ltb}
use Rattle.policy_ast.specs.declared.item.Item.{Item}
use Rattle.policy_ast.specs.declared.item.Item.TheVariants as item
use Rattle.policy_ast.specs.declared.policy.PlacedItem.{PlacedItem}
use Rattle.policy_rules.specs.Calls.{Callee, a_finish_function, a_function, called_calls, chain_within, is_no_call, longest_chain}
use Rattle.policy_rules.specs.Names.{Name, item_named}
use Rattle.policy_rules.specs.WellTyped.{IsWellTyped, IsWellTypedAt, items_of}
use Rattle.policy_types.proofs.Standing.{standing}
use Rattle.policy_types.proofs.WiderCalls.{called_wider, item_wider}
use Rattle.policy_types.specs.Ranks.{HasRanks}

zero_first : (k : ℕ) → 0 ≤ k
zero_first k = omega arith

zero_alone : (k : ℕ) → k ≤ 0 → k ≡ 0
zero_alone k le = omega (arith, le)

-- the least number that passes a test, looked for among so many
abbrev least : (ℕ → Bool) → ℕ → ℕ
least test zero = 0
least test (suc more) = cond (test 0) 0 (suc (least (λ k. test (suc k)) more))

least_by : (test : ℕ → Bool) (more : ℕ) (b : Bool) → test 0 ≡ b → (k : ℕ) → test k ≡ true → ((j : ℕ) → test (suc j) ≡ true → least (λ k. test (suc k)) more ≤ j) → cond b 0 (suc (least (λ k. test (suc k)) more)) ≤ k
least_by test more true at k is later = omega arith
least_by test more false at zero is later = absurd (false≢true (sym at ∙ is))
least_by test more false at (suc j) is later = let le = later j is in omega (arith, le)

least_within : (test : ℕ → Bool) (more k : ℕ) → test k ≡ true → least test more ≤ k
least_within test zero k is = zero_first k
least_within test (suc more) k is = least_by test more (test 0) refl k is (λ j is. least_within (λ k. test (suc k)) more j is)

passes_by : (test : ℕ → Bool) (more : ℕ) (b : Bool) → test 0 ≡ b → (k : ℕ) → k ≤ suc more → test k ≡ true → ((j : ℕ) → j ≤ more → test (suc j) ≡ true → test (suc (least (λ k. test (suc k)) more)) ≡ true)
    → test (cond b 0 (suc (least (λ k. test (suc k)) more))) ≡ true
passes_by test more true at k le is later = at
passes_by test more false at zero le is later = absurd (false≢true (sym at ∙ is))
passes_by test more false at (suc j) le is later = later j (omega (arith, le)) is

least_passes : (test : ℕ → Bool) (more k : ℕ) → k ≤ more → test k ≡ true → test (least test more) ≡ true
least_passes test zero k le is = subst (λ k. test k ≡ true) (zero_alone k le) is
least_passes test (suc more) k le is = passes_by test more (test 0) refl k le is (λ j le is. least_passes (λ k. test (suc k)) more j le is)

module _ (items : List Item) (well : (n : ℕ) → IsWellTypedAt items n) where
  -- a chain of one call more than may follow one another: that of a call itself, behind an item
  abbrev beyond : ℕ
  beyond = suc longest_chain

  abbrev rank_of : Callee → Name → ℕ
  rank_of callee name = least (λ k. chain_within items k callee name) beyond

  abbrev is_below : ℕ → Callee → Name → Bool
  is_below k inner other = nat_lt (rank_of inner other) k

  ranked_within : (k : ℕ) (callee : Callee) (name : Name) → chain_within items k callee name ≡ true → is_below (suc k) callee name ≡ true
  ranked_within k callee name is = let le = least_within (λ k. chain_within items k callee name) beyond k is in lt-ltb (rank_of callee name) (suc k) (omega (arith, le))

  ranked_at_most : (callee : Callee) (name : Name) → chain_within items longest_chain callee name ≡ true → nat_le (rank_of callee name) longest_chain ≡ true
  ranked_at_most callee name is = le-leb (rank_of callee name) longest_chain (least_within (λ k. chain_within items k callee name) beyond longest_chain is)

  falls_by : (callee : Callee) (name : Name) (r : ℕ) → chain_within items r callee name ≡ true → is_no_call callee (item_named items name) ≡ false
      → called_calls (is_below r) callee (item_named items name) ≡ true
  falls_by callee name zero is call = absurd (false≢true (sym call ∙ is))
  falls_by callee name (suc k) is call = called_wider (chain_within items k) (is_below (suc k)) (ranked_within k) callee (item_named items name) is

  -- what is called stands in an item, from which no chain is too long
  chains_beyond : (callee : Callee) (name : Name) (o : Option Item) → item_named items name ≡ o → is_no_call callee o ≡ false → called_calls (chain_within items longest_chain) callee o ≡ true
  chains_beyond a_function name (Some (item.Function own parameters result body)) named call =
      let s = standing items name (item.Function own parameters result body) named in (well s.number (item.Function own parameters result body) s.stands).chains
  chains_beyond a_finish_function name (Some (item.FinishFunction own parameters body)) named call =
      let s = standing items name (item.FinishFunction own parameters body) named in (well s.number (item.FinishFunction own parameters body) s.stands).chains
  chains_beyond callee name o named call = refl

  no_call : (test : Callee → Name → Bool) (callee : Callee) (o : Option Item) → is_no_call callee o ≡ true → called_calls test callee o ≡ true
  no_call test a_function (Some (item.Function own parameters result body)) none = absurd (false≢true none)
  no_call test a_finish_function (Some (item.FinishFunction own parameters body)) none = absurd (false≢true none)
  no_call test callee o none = refl

  falls_either : (callee : Callee) (name : Name) (b : Bool) → is_no_call callee (item_named items name) ≡ b → called_calls (is_below (rank_of callee name)) callee (item_named items name) ≡ true
  falls_either callee name true none = no_call (is_below (rank_of callee name)) callee (item_named items name) none
  falls_either callee name false call = falls_by callee name (rank_of callee name)
      (least_passes (λ k. chain_within items k callee name) beyond beyond (omega arith) (chains_beyond callee name (item_named items name) refl call)) call

module _ (policy : List PlacedItem) (well : IsWellTyped policy) where
  pub has_ranks : HasRanks policy
  has_ranks = record {
    rank = rank_of (items_of policy) well;
    falls = λ callee name. falls_either (items_of policy) well callee name (is_no_call callee (item_named (items_of policy) name)) refl;
    bounded = λ n i at. item_wider (chain_within (items_of policy) longest_chain) (λ inner other. nat_le (rank_of (items_of policy) well inner other) longest_chain)
        (ranked_at_most (items_of policy) well) i (well n i at).chains;
  }
