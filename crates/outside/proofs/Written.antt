-- A write over a disk's bytes: it can be taken back, and keeps them an image.
use Rattle.std.proofs.Common.{◌≡◌, ◌∙◌, ap, sym, refl, arith, inl, inr, ◌⊎◌, ℕ, ◌+◌, ◌<◌, ◌≤◌, max, List, [], ◌∷◌, ◌++◌, suc, length, take, drop, slice_index, append_assoc}
use Rattle.std.specs.Prelude.{reverse}
use Rattle.std.proofs.lemmas.Grind.{common_steps}
use Rattle.std.proofs.lemmas.List.{drop-drop, reverse-append, take-append-drop}
use Rattle.outside.specs.Disk.{Content, Moment, IsImage, at_rest, overwritten, with_range}
use Rattle.outside.specs.Replaced.{undone, moment_after, past_after}
use Rattle.outside.specs.declared.call.Call.{Call}
use Rattle.outside.specs.declared.call.Call.TheVariants as call
use Rattle.outside.specs.declared.replaced.Replaced.{Replaced}

-- the moments after one write more
pub moment_more : (calls : List Call) (write : Replaced) (old new : List ℕ) → undone write new ≡ old →
    moment_after (reverse (calls ++ call.Wrote write ∷ [])) new ≡ with_range write.at write.range_length (moment_after (reverse calls) old)
moment_more calls write old new back =
    ap (λ cs. moment_after cs new) (reverse-append calls (call.Wrote write ∷ []))
    ∙ ap (λ bytes. with_range write.at write.range_length (moment_after (reverse calls) bytes)) back

pub past_more : (calls : List Call) (write : Replaced) (old new : List ℕ) → undone write new ≡ old →
    past_after (reverse (calls ++ call.Wrote write ∷ [])) new ≡ moment_after (reverse calls) old ∷ past_after (reverse calls) old
past_more calls write old new back =
    ap (λ cs. past_after cs new) (reverse-append calls (call.Wrote write ∷ []))
    ∙ ap (λ bytes. moment_after (reverse calls) bytes ∷ past_after (reverse calls) bytes) back

-- the moments after one sync more
pub moment_synced : (calls : List Call) (bytes : List ℕ) → moment_after (reverse (calls ++ call.Synced ∷ [])) bytes ≡ at_rest bytes
moment_synced calls bytes = ap (λ cs. moment_after cs bytes) (reverse-append calls (call.Synced ∷ []))

pub past_synced : (calls : List Call) (bytes : List ℕ) →
    past_after (reverse (calls ++ call.Synced ∷ [])) bytes ≡ moment_after (reverse calls) bytes ∷ past_after (reverse calls) bytes
past_synced calls bytes = ap (λ cs. past_after cs bytes) (reverse-append calls (call.Synced ∷ []))

-- how many bytes there are afterwards
length_overwritten : (old front : List ℕ) (at : ℕ) → at ≤ length old → length (overwritten old at front) ≡ max (at + length front) (length old)
length_overwritten old front at within = grind (arith, common_steps)

-- a place outside the range keeps its byte
stays_outside : (old front : List ℕ) (at n place : ℕ) → at ≤ length old → length front ≤ n → place < length old →
    (place < at) ⊎ (at + n ≤ place) → slice_index (overwritten old at front) place ≡ slice_index old place
stays_outside old front at n place within short known (inl before) = grind (arith, common_steps)
stays_outside old front at n place within short known (inr behind) = grind (arith, common_steps)

-- the bytes after a write are an image, where those before it were one
pub image_written : (moment : Moment) (old front : List ℕ) (at n : ℕ) → at ≤ length old → length front ≤ n → IsImage moment old →
    IsImage (with_range at n moment) (overwritten old at front)
image_written moment old front at n within short is = record {
  no_shorter = omega (arith, length_overwritten old front at within, is.no_shorter);
  no_longer = omega (arith, length_overwritten old front at within, is.no_longer);
  outside = λ place known out. stays_outside old front at n place within short (omega (arith, known, is.no_shorter)) (out 0 (at, at + n) (omega arith))
      ∙ is.outside place known (λ k d under. out (suc k) d (omega (arith, under)));
}

-- the parts of the bytes before a write, taken from those after it
front_back : (old front : List ℕ) (at : ℕ) → at ≤ length old → take at (overwritten old at front) ≡ take at old
front_back old front at within = grind (arith, common_steps)

behind_back : (old front : List ℕ) (at n : ℕ) → at ≤ length old → n ≡ length front → drop (at + n) (overwritten old at front) ≡ drop (at + n) old
behind_back old front at n within same = grind (arith, common_steps)

parts_joined : (old : List ℕ) (at n : ℕ) → take at old ++ take n (drop at old) ++ drop (at + n) old ≡ old
parts_joined old at n =
    append_assoc (take at old) (take n (drop at old)) (drop (at + n) old)
    ∙ ap (λ behind. take at old ++ (take n (drop at old) ++ behind)) (sym (drop-drop n at old))
    ∙ ap (λ behind. take at old ++ behind) (take-append-drop n (drop at old))
    ∙ take-append-drop at old

-- what a write replaced gives the bytes before it
pub undone_overwritten : (write : Replaced) (old front : List ℕ) → write.at ≤ length old → write.written_length ≡ length front →
    write.under ≡ take write.written_length (drop write.at old) → undone write (overwritten old write.at front) ≡ old
undone_overwritten write old front within written under =
    rw (front_back old front write.at within, behind_back old front write.at write.written_length within written, under) (parts_joined old write.at write.written_length)

-- what a write that is recorded behind the other calls makes of the moments
pub moment_written : (calls recorded : List Call) (write : Replaced) (old new front : List ℕ) → recorded ≡ calls ++ call.Wrote write ∷ [] →
    new ≡ overwritten old write.at front → write.at ≤ length old → write.written_length ≡ length front →
    write.under ≡ take write.written_length (drop write.at old) →
    moment_after (reverse recorded) new ≡ with_range write.at write.range_length (moment_after (reverse calls) old)
moment_written calls recorded write old new front pushed is within written under =
    rw (pushed, is) (moment_more calls write old (overwritten old write.at front) (undone_overwritten write old front within written under))

pub past_written : (calls recorded : List Call) (write : Replaced) (old new front : List ℕ) → recorded ≡ calls ++ call.Wrote write ∷ [] →
    new ≡ overwritten old write.at front → write.at ≤ length old → write.written_length ≡ length front →
    write.under ≡ take write.written_length (drop write.at old) →
    past_after (reverse recorded) new ≡ moment_after (reverse calls) old ∷ past_after (reverse calls) old
past_written calls recorded write old new front pushed is within written under =
    rw (pushed, is) (past_more calls write old (overwritten old write.at front) (undone_overwritten write old front within written under))

-- the same of the image
pub image_recorded : (calls recorded : List Call) (write : Replaced) (old new front : List ℕ) → recorded ≡ calls ++ call.Wrote write ∷ [] →
    new ≡ overwritten old write.at front → write.at ≤ length old → write.written_length ≡ length front →
    write.under ≡ take write.written_length (drop write.at old) → length front ≤ write.range_length →
    IsImage (moment_after (reverse calls) old) old → IsImage (moment_after (reverse recorded) new) new
image_recorded calls recorded write old new front pushed is within written under short image =
    rw (moment_written calls recorded write old new front pushed is within written under, is)
    (image_written (moment_after (reverse calls) old) old front write.at write.range_length within short image)

-- a content is its three parts
pub content_of : {reads other : List ℕ} {now moment : Moment} {past before : List Moment} → reads ≡ other → now ≡ moment → past ≡ before →
    (let left : Content = record { reads = reads; now = now; past = past } in left) ≡ record { reads = other; now = moment; past = before }
content_of same_reads same_now same_past = rw (same_reads, same_now, same_past) refl
