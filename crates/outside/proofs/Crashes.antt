-- Crashes at each moment of a run of calls.
use Rattle.std.proofs.Common.{◌≡◌, ◌∙◌, ap, sym, refl, subst, arith, inl, inr, ⊎_elim, ◌⊎◌, ℕ, zero, suc, ◌+◌, ◌-◌, ◌≤◌, List, [], ◌∷◌, ◌++◌, length, take, length-append}
use Rattle.std.specs.List.{Any}
use Rattle.outside.specs.Disk.{Content, Moment, IsImage}
use Rattle.outside.specs.Crashes.{IsLater, Leaves, LeavesOnly, MightHaveLeft, clock, moments, moments_since}

-- ---- a list of moments of which some leave an image

any_in_more : {X : Type 0} (P : X → Type 0) (x : X) (xs : List X) → Any P (x ∷ xs) → P x ⊎ Any P xs
any_in_more P x xs (zero, y, within, is, holds) = inl (subst P (sym is) holds)
any_in_more P x xs (suc k, y, within, is, holds) = inr (k, y, omega (arith, within), is, holds)

any_or_more : {X : Type 0} (P : X → Type 0) (xs ys : List X) → Any P (xs ++ ys) → Any P xs ⊎ Any P ys
any_or_more P [] ys any = inr any
any_or_more P (x ∷ xs) ys any = ⊎_elim (λ here. inl (0, x, omega arith, refl, here))
    (λ there. ⊎_elim (λ front. inl (suc front.0, front.1, omega (arith, front.2), front.3, front.4)) (λ behind. inr behind) (any_or_more P xs ys there))
    (any_in_more P x (xs ++ ys) any)

-- the front of two lists joined
take_joined : {X : Type 0} (xs ys : List X) (n : ℕ) → take (length xs + n) (xs ++ ys) ≡ xs ++ take n ys
take_joined [] ys n = ap (λ k. take k ys) (omega arith)
take_joined (x ∷ xs) ys n = let same : suc (length xs) + n ≡ suc (length xs + n) = omega arith in ap (λ k. take k (x ∷ (xs ++ ys))) same ∙ ap (λ zs. x ∷ zs) (take_joined xs ys n)

-- ---- the moments since a time before

-- how far the clock went
clock_later : (old new : Content) (later : IsLater old new) → clock new ≡ length later.added + clock old
clock_later old new later = omega (arith, ap length later.grown, length-append later.added (moments old))

-- those since a time before a run of calls are the ones that the run added, and those since that time before
since_before : (old new : Content) (later : IsLater old new) (time : ℕ) → time ≤ clock old → moments_since new time ≡ later.added ++ moments_since old time
since_before old new later time before =
    let same : clock new + 1 - time ≡ length later.added + (clock old + 1 - time) = omega (arith, clock_later old new later, before) in
    ap (λ n. take n (moments new)) same
    ∙ ap (λ all. take (length later.added + (clock old + 1 - time)) all) later.grown
    ∙ take_joined later.added (moments old) (clock old + 1 - time)

-- those since now are the one that is now
since_now : (content : Content) → moments_since content (clock content) ≡ content.now ∷ []
since_now content = let one : clock content + 1 - clock content ≡ 1 = omega arith in ap (λ n. take n (moments content)) one

pub since_start : (old new : Content) (later : IsLater old new) → moments_since new (clock old) ≡ later.added ++ old.now ∷ []
since_start old new later = since_before old new later (clock old) (omega arith) ∙ ap (λ rest. later.added ++ rest) (since_now old)

-- an image of a time before was told before the run, or is one of the run
pub told_before : (old new : Content) → IsLater old new → (time : ℕ) (image : List ℕ) → time ≤ clock old → MightHaveLeft new time image →
    MightHaveLeft old time image ⊎ MightHaveLeft new (clock old) image
told_before old new later time image before left =
    let P : Moment → Type 0 = λ moment. IsImage moment image in
    ⊎_elim
    (λ added. inr (subst (λ all. Any P all) (sym (since_start old new later)) (front_any P later.added (old.now ∷ []) added)))
    (λ was. inl was)
    (any_or_more P later.added (moments_since old time) (subst (λ all. Any P all) (since_before old new later time before) left))
  where
    front_any : {X : Type 0} (P : X → Type 0) (xs ys : List X) → Any P xs → Any P (xs ++ ys)
    front_any P [] ys any = absurd (omega (arith, any.2))
    front_any P (x ∷ xs) ys any = ⊎_elim (λ here. (0, x, omega arith, refl, here))
        (λ there. let more = front_any P xs ys there in (suc more.0, more.1, omega (arith, more.2), more.3, more.4)) (any_in_more P x xs any)

-- ---- runs of calls

-- a run of no calls
pub no_calls : (content : Content) (P : List ℕ → Type 0) → Leaves P content.now → LeavesOnly content content P
no_calls content P here = record {
  later = record { added = []; grown = refl };
  each = λ image left. ⊎_elim (λ now. here image now) (λ none. absurd (omega (arith, none.2)))
      (any_in_more (λ moment. IsImage moment image) content.now [] (subst (λ all. Any (λ moment. IsImage moment image) all) (since_now content) left));
}

-- one call more, after which a crash leaves what has P
pub one_call_more : (old mid new : Content) (P : List ℕ → Type 0) → LeavesOnly old mid P → new.past ≡ moments mid → Leaves P new.now → LeavesOnly old new P
one_call_more old mid new P so_far past here = record {
  later = later;
  each = λ image left. ⊎_elim (λ now. here image now)
      (λ before. so_far.each image (subst (λ all. Any (λ moment. IsImage moment image) all) (sym (since_start old mid so_far.later)) before))
      (any_in_more (λ moment. IsImage moment image) new.now (so_far.later.added ++ old.now ∷ [])
      (subst (λ all. Any (λ moment. IsImage moment image) all) (since_start old new later) left));
}
  where
    later : IsLater old new
    later = record { added = new.now ∷ so_far.later.added; grown = ap (λ before. new.now ∷ before) (past ∙ so_far.later.grown) }

-- what has P has Q
pub weaker : (old new : Content) (P Q : List ℕ → Type 0) → ((image : List ℕ) → P image → Q image) → LeavesOnly old new P → LeavesOnly old new Q
weaker old new P Q all is = record { later = is.later; each = λ image left. all image (is.each image left) }
