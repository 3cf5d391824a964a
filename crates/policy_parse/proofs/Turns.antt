-- One turn of each reading that goes on as long as it can, and its end where no turn is left.
use Rattle.std.proofs.Common.{◌≡◌, ℕ, zero, suc, ◌<◌, ◌≤◌, ◌+◌, ◌-◌, List, [], ◌∷◌, length, Some, None, option_and_then, refl, sym, ap, arith, length-append}
use Rattle.std.proofs.lemmas.List.{length-map}
use Rattle.policy_ast.specs.declared.part.Part.{Part}
use Rattle.policy_ast.specs.declared.token.Token.{Token}
use Rattle.policy_ast.specs.declared.token.TokenKind.{TokenKind}
use Rattle.policy_ast.specs.grammar.Fixed.{comma}
use Rattle.policy_ast.specs.grammar.Parts.{Kinds, appended, nothing_yet}
use Rattle.policy_ast.specs.grammar.Policies.{kinds}
use Rattle.policy_ast.proofs.grammar.Laws.{bind_then, chosen_then, same_some}
use Rattle.policy_ast.proofs.grammar.Reading.{Reader, after, chain, chosen, listed, listed_more, many_more}

module _ {A : Type 0} (close : TokenKind) (one : Reader A) where
  pub listed_full : (k : ℕ) (found : Part (List A)) (ts : Kinds) → k ≡ 0 → listed_more close one k found ts ≡ None
  unfolding listed_more
  listed_full zero found ts is = refl
  listed_full (suc k) found ts is = absurd (omega (arith, is))

  pub listed_turn : (k : ℕ) (found : Part (List A)) (ts : Kinds) → 0 < k → listed_more close one k found ts ≡ chosen (after close ts)
      (option_and_then (λ a. chosen (after close a.1)
      (option_and_then (λ mid. listed_more close one (k - 1) (appended found a.0) mid) (after comma a.1))
      (λ rest. Some (appended found a.0, rest))) (one ts))
      (λ rest. Some (found, rest))
  unfolding listed_more
  listed_turn zero found ts room = absurd (omega (arith, room))
  listed_turn (suc k) found ts room = let e : suc k - 1 ≡ k = omega arith in rw e refl

  pub listed_goes_on : (k next : ℕ) (found : Part (List A)) (ts mid rest : Kinds) (a : Part A) → k ≡ next + 1 → None ≡ after close ts → one ts ≡ Some (a, mid) → after close mid ≡ None → after comma mid ≡ Some rest
      → listed_more close one k found ts ≡ listed_more close one next (appended found a) rest
  unfolding listed_more
  listed_goes_on zero next found ts mid rest a room opens reads more parts = absurd (omega (arith, room))
  listed_goes_on (suc k) next found ts mid rest a room opens reads more parts = let e : k ≡ next = omega (arith, room) in rw (sym opens, reads, more, parts, e) refl

  pub many_full : (k : ℕ) (found : Part (List A)) (ts : Kinds) → k ≡ 0 → many_more close one k found ts ≡ None
  unfolding many_more
  many_full zero found ts is = refl
  many_full (suc k) found ts is = absurd (omega (arith, is))

  pub many_turn : (k : ℕ) (found : Part (List A)) (ts : Kinds) → 0 < k → many_more close one k found ts ≡ chosen (after close ts)
      (option_and_then (λ a. many_more close one (k - 1) (appended found a.0) a.1) (one ts))
      (λ rest. Some (found, rest))
  unfolding many_more
  many_turn zero found ts room = absurd (omega (arith, room))
  many_turn (suc k) found ts room = let e : suc k - 1 ≡ k = omega arith in rw e refl

  pub many_goes_on : (k next : ℕ) (found : Part (List A)) (ts rest : Kinds) (a : Part A) → k ≡ next + 1 → None ≡ after close ts → one ts ≡ Some (a, rest)
      → many_more close one k found ts ≡ many_more close one next (appended found a) rest
  unfolding many_more
  many_goes_on zero next found ts rest a room opens reads = absurd (omega (arith, room))
  many_goes_on (suc k) next found ts rest a room opens reads = let e : k ≡ next = omega (arith, room) in rw (sym opens, reads, e) refl

  -- a list has no more members than turns
  listed_fewer : (k : ℕ) (found : Part (List A)) (ts : Kinds) (p : Part (List A) × Kinds) → listed_more close one k found ts ≡ Some p → length p.0.tree ≤ length found.tree + k
  unfolding listed_more
  listed_fewer zero found ts p is = absurd (cc)
  listed_fewer (suc k) found ts p is = chosen_then (after close ts) (option_and_then (λ a. chosen (after close a.1)
      (option_and_then (λ mid. listed_more close one k (appended found a.0) mid) (after comma a.1)) (λ rest. Some (appended found a.0, rest))) (one ts))
      (λ rest. Some (found, rest)) (Some p) is
      (λ none e. bind_then (one ts) _ p e (λ a reads e.
      let more = length-append found.tree (a.0.tree ∷ []) in
      chosen_then (after close a.1) (option_and_then (λ mid. listed_more close one k (appended found a.0) mid) (after comma a.1)) (λ rest. Some (appended found a.0, rest)) (Some p) e
      (λ none e. bind_then (after comma a.1) _ p e (λ mid parts e. let all = listed_fewer k (appended found a.0) mid p e in omega (arith, all, more)))
      (λ rest ends e. let same = ap (λ p. length p.0.tree) (same_some (appended found a.0, rest) p e) in omega (arith, same, more))))
      (λ rest ends e. let same = ap (λ p. length p.0.tree) (same_some (found, rest) p e) in omega (arith, same))

  pub listed_few : (ts : Kinds) (p : Part (List A) × Kinds) → listed close one ts ≡ Some p → length p.0.tree ≤ length ts
  listed_few ts p is = let few = listed_fewer (length ts) nothing_yet ts p is in omega (arith, few)

module _ {A B : Type 0} (t : TokenKind) (added : Part B → Part A → Reader B) (one : Reader A) where
  pub chain_full : (k : ℕ) (b : Part B) (ts : Kinds) → k ≡ 0 → chain t added one k b ts ≡ chosen (after t ts) (Some (b, ts)) (λ mid. None)
  unfolding chain
  chain_full zero b ts is = refl
  chain_full (suc k) b ts is = absurd (omega (arith, is))

  pub chain_turn : (k : ℕ) (b : Part B) (ts : Kinds) → 0 < k → chain t added one k b ts ≡ chosen (after t ts) (Some (b, ts))
      (λ mid. option_and_then (λ a. option_and_then (λ c. chain t added one (k - 1) c.0 c.1) (added b a.0 a.1)) (one mid))
  unfolding chain
  chain_turn zero b ts room = absurd (omega (arith, room))
  chain_turn (suc k) b ts room = let e : suc k - 1 ≡ k = omega arith in rw e refl

pub kinds_length : (ts : List Token) → length (kinds ts) ≡ length ts
kinds_length ts = length-map ts (λ t. t.kind)
