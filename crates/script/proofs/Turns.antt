-- One turn of each reading that goes on as long as it can, and its end where no turn is left.
use Rattle.std.proofs.Common.{◌≡◌, ℕ, zero, suc, ◌<◌, ◌+◌, ◌-◌, false, length, List, [], ◌∷◌, ◌++◌, Option, Some, None, option_map, option_and_then, codes, refl, arith, append_assoc}
use Rattle.script.specs.Pieces.{Bytes}
use Rattle.script.specs.working.Readers.{Reader, chosen, mark_at, members}
use Rattle.script.specs.working.ReadingArguments.{argument_over, argument_within}
use Rattle.script.specs.working.ReadingTokens.{onto, text_from}

module _ {A : Type 0} (close : Bytes) (one : Reader A) where
  pub members_full : (k : ℕ) (found : List A) (bytes : Bytes) → k ≡ 0 → members close one k found bytes ≡ None
  unfolding members
  members_full zero found bytes is = refl
  members_full (suc k) found bytes is = absurd (omega (arith, is))

  pub members_turn : (k : ℕ) (found : List A) (bytes : Bytes) → 0 < k → members close one k found bytes ≡ option_and_then (λ a. chosen (mark_at close a.1)
      (option_and_then (λ mid. members close one (k - 1) (found ++ a.0 ∷ []) mid) (mark_at (codes ",") a.1)) (λ rest. Some (found ++ a.0 ∷ [], rest))) (one bytes)
  unfolding members
  members_turn zero found bytes room = absurd (omega (arith, room))
  members_turn (suc k) found bytes room = let e : suc k - 1 ≡ k = omega arith in rw e refl

  pub members_go_on : (k next : ℕ) (found : List A) (bytes mid rest : Bytes) (a : A) → k ≡ next + 1 → one bytes ≡ Some (a, mid) → mark_at close mid ≡ None → mark_at (codes ",") mid ≡ Some rest
      → members close one k found bytes ≡ members close one next (found ++ a ∷ []) rest
  unfolding members
  members_go_on zero next found bytes mid rest a room reads more comma = absurd (omega (arith, room))
  members_go_on (suc k) next found bytes mid rest a room reads more comma = let e : k ≡ next = omega (arith, room) in rw (reads, more, comma, e) refl

pub within_none : (depth : ℕ) (bytes : Bytes) → depth ≡ 0 → argument_within depth bytes ≡ None
unfolding argument_within
within_none zero bytes is = refl
within_none (suc depth) bytes is = absurd (omega (arith, is))

pub within_step : (depth : ℕ) (bytes : Bytes) → 0 < depth → argument_within depth bytes ≡ argument_over (argument_within (depth - 1)) bytes
unfolding argument_within
within_step zero bytes is = absurd (omega (arith, is))
within_step (suc depth) bytes is = let e : suc depth - 1 ≡ depth = omega arith in rw e refl

-- a text in front of what is found
abbrev pub with_text : Bytes → Option (Bytes × Bytes) → Option (Bytes × Bytes)
with_text text found = option_map (λ more. (text ++ more.0, more.1)) found

pub text_grown : (text : Bytes) (c : ℕ) (found : Option (Bytes × Bytes)) → with_text (text ++ c ∷ []) found ≡ with_text text (onto c found)
text_grown text c None = refl
text_grown text c (Some more) = rw (append_assoc text (c ∷ []) more.0) refl

-- where nothing is left, no mark closes the text
pub text_ended : (text rest : Bytes) → length rest ≡ 0 → with_text text (text_from false rest) ≡ None
unfolding text_from
text_ended text [] empty = refl
text_ended text (c ∷ rest) empty = absurd (omega (arith, empty))
