-- Runs of bytes: what stands there as long as it goes on is one run, and no other.
use Rattle.std.proofs.Common.{◌≡◌, ℕ, ◌≤◌, Bool, true, false, [], ◌∷◌, ◌++◌, length, drop, Option, Some, None, refl, sym, ap, ◌∙◌, subst, arith, length-append}
use Rattle.std.specs.List.{list_all, take_while}
use Rattle.std.proofs.lemmas.Bool.{and_parts}
use Rattle.std.proofs.lemmas.List.Prefix.{front_rest}
use Rattle.std.proofs.lemmas.List.Sums.{take_while-cons}
use Rattle.script.specs.Pieces.{Bytes, Run, Says, Spaces, begins_with, is_space}
use Rattle.script.specs.working.Readers.{past, run_at, unspaced}
use Rattle.script.proofs.Options.{map_then, none_some}

run_taken : (p : ℕ → Bool) (run rest : Bytes) → list_all p run ≡ true → begins_with p rest ≡ false → take_while p (run ++ rest) ≡ run
run_taken p [] [] each ends = refl
run_taken p [] (c ∷ cs) each ends = rw (take_while-cons p c cs, ends) refl
run_taken p (c ∷ run) rest each ends =
    let parts = and_parts (p c) (list_all p run) each in
    rw (take_while-cons p c (run ++ rest), parts.0) (ap (λ r. c ∷ r) (run_taken p run rest parts.1 ends))

module _ (p : ℕ → Bool) where
  -- a run is what is read
  pub run_is : (bytes rest run : Bytes) → Run p bytes rest run → take_while p bytes ≡ run
  run_is bytes rest run is = ap (take_while p) is.whole ∙ run_taken p run rest is.each is.ends

  pub past_is : (bytes rest run : Bytes) → Run p bytes rest run → past p bytes ≡ rest
  past_is bytes rest run is = ap (λ (r : Bytes). drop (length r) bytes) (run_is bytes rest run is) ∙ front_rest bytes run rest is.whole

  run_cons : (b : Bool) (c : ℕ) (cs : Bytes) → p c ≡ b → Run p cs (past p cs) (take_while p cs) → Run p (c ∷ cs) (past p (c ∷ cs)) (take_while p (c ∷ cs))
  run_cons true c cs is r = rw (take_while-cons p c cs, is) (record { whole = ap (λ bs. c ∷ bs) r.whole; each = rw (is, r.each) refl; ends = r.ends })
  run_cons false c cs is r = rw (take_while-cons p c cs, is) (record { whole = refl; each = refl; ends = is })

  -- what is read is a run
  pub is_run : (bytes : Bytes) → Run p bytes (past p bytes) (take_while p bytes)
  is_run [] = record { whole = refl; each = refl; ends = refl }
  is_run (c ∷ cs) = run_cons (p c) c cs refl (is_run cs)

  pub past_shorter : (bytes : Bytes) → length (past p bytes) ≤ length bytes
  past_shorter bytes = let sum = ap length (is_run bytes).whole in let parts = length-append (take_while p bytes) (past p bytes) in omega (arith, sum, parts)

  module _ {A : Type 0} (says : Bytes → Option A) where
    -- a run that says something is read
    pub says_reads : (bytes rest : Bytes) (a : A) → Says p says bytes rest a → run_at p says bytes ≡ Some (a, rest)
    says_reads bytes rest a is =
        rw (run_is bytes rest is.run is.is_run, is.said, front_rest bytes is.run rest is.is_run.whole) refl

    -- and what is read is one that says that
    pub says_finds : (bytes : Bytes) (found : A × Bytes) → run_at p says bytes ≡ Some found → Says p says bytes found.1 found.0
    says_finds bytes found is = map_then (says (take_while p bytes)) _ found is (λ a says_a same.
        subst (λ (f : A × Bytes). Says p says bytes f.1 f.0) same (record { run = take_while p bytes; is_run = is_run bytes; said = says_a }))

    -- where no bytes say nothing, one byte stands there at least
    begins_so : (run bytes rest : Bytes) (a : A) → Run p bytes rest run → says run ≡ Some a → says [] ≡ None → begins_with p bytes ≡ true
    begins_so [] bytes rest a is said empty = none_some (sym empty ∙ said)
    begins_so (c ∷ run) bytes rest a is said empty = rw is.whole (and_parts (p c) (list_all p run) is.each).0

    pub says_begins : (bytes rest : Bytes) (a : A) → says [] ≡ None → Says p says bytes rest a → begins_with p bytes ≡ true
    says_begins bytes rest a empty is = begins_so is.run bytes rest a is.is_run is.said empty

    pub says_shorter : (bytes rest : Bytes) (a : A) → Says p says bytes rest a → length rest ≤ length bytes
    says_shorter bytes rest a is = let sum = ap length is.is_run.whole in let parts = length-append is.run rest in omega (arith, sum, parts)

-- any number of spaces
pub spaces_read : (bytes rest : Bytes) → Spaces bytes rest → unspaced bytes ≡ rest
unfolding unspaced
spaces_read bytes rest is = past_is is_space bytes rest is.gap is.is_run

pub spaces_found : (bytes : Bytes) → Spaces bytes (unspaced bytes)
unfolding unspaced
spaces_found bytes = record { gap = take_while is_space bytes; is_run = is_run is_space bytes }

pub unspaced_shorter : (bytes : Bytes) → length (unspaced bytes) ≤ length bytes
unfolding unspaced
unspaced_shorter bytes = past_shorter is_space bytes

pub spaces_shorter : (bytes rest : Bytes) → Spaces bytes rest → length rest ≤ length bytes
spaces_shorter bytes rest is = subst (λ (r : Bytes). length r ≤ length bytes) (spaces_read bytes rest is) (unspaced_shorter bytes)
