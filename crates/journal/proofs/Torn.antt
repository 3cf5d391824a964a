-- What a crash leaves of a record that is being written behind a closed gate.
use Rattle.std.proofs.Common.{◌≡◌, ◌∙◌, ap, sym, subst, refl, inl, inr, ℕ, zero, suc, ◌+◌, ◌<◌, ◌≤◌, List, [], ◌∷◌, ◌++◌, length, get_or, take, drop, Result, Ok, Err, append_assoc, length-append, arith, take-append-drop}
use Rattle.std.proofs.lemmas.List.{drop-drop, drop_at, drop_more, take_at}
use Rattle.outside.specs.Crashes.{Leaves, LeavesOnly}
use Rattle.outside.specs.Disk.{Content, IsImage, IsOutside, after_sync, after_write, at_rest, overwritten, with_range}
use Rattle.outside.specs.declared.faults.DiskStep.{DiskStep}
use Rattle.outside.proofs.Crashes.{one_call_more}
use Rattle.journal.specs.working.Writing.{FailsThrough, WritesRecord, WritesThrough, through}

-- ---- lists that are the same up to a place, or from one on

take_same : (n : ℕ) (xs ys : List ℕ) → n ≤ length xs → n ≤ length ys → ((k : ℕ) → k < n → get_or xs k 0 ≡ get_or ys k 0) → take n xs ≡ take n ys
take_same zero xs ys long long_too same = refl
take_same (suc n) [] ys long long_too same = absurd (omega (arith, long))
take_same (suc n) (x ∷ xs) [] long long_too same = absurd (omega (arith, long_too))
take_same (suc n) (x ∷ xs) (y ∷ ys) long long_too same =
    ap (λ z. z ∷ take n xs) (same 0 (omega arith)) ∙ ap (λ l. y ∷ l) (take_same n xs ys (omega (arith, long)) (omega (arith, long_too)) (λ k lt. same (suc k) (omega (arith, lt))))

drop_same : (n : ℕ) (xs ys : List ℕ) → length xs ≡ length ys → ((k : ℕ) → n ≤ k → k < length xs → get_or xs k 0 ≡ get_or ys k 0) → drop n xs ≡ drop n ys
drop_same zero [] [] size same = refl
drop_same zero [] (y ∷ ys) size same = absurd (omega (arith, size))
drop_same zero (x ∷ xs) [] size same = absurd (omega (arith, size))
drop_same zero (x ∷ xs) (y ∷ ys) size same =
    ap (λ z. z ∷ xs) (same 0 (omega arith) (omega arith)) ∙ ap (λ l. y ∷ l) (drop_same zero xs ys (omega (arith, size)) (λ k le lt. same (suc k) (omega arith) (omega (arith, lt))))
drop_same (suc n) [] [] size same = refl
drop_same (suc n) [] (y ∷ ys) size same = absurd (omega (arith, size))
drop_same (suc n) (x ∷ xs) [] size same = absurd (omega (arith, size))
drop_same (suc n) (x ∷ xs) (y ∷ ys) size same = drop_same n xs ys (omega (arith, size)) (λ k le lt. same (suc k) (omega (arith, le)) (omega (arith, lt)))

-- ---- images

-- at rest there is one image
pub rest_image : (bytes image : List ℕ) → IsImage (at_rest bytes) image → image ≡ bytes
rest_image bytes image is = drop_same 0 image bytes (omega (arith, is.no_shorter, is.no_longer)) (λ k le lt. is.outside k (omega (arith, lt, is.no_longer)) (λ j d under. absurd (omega (arith, under))))

outside_before : (from to place : ℕ) → place < from → IsOutside ((from, to) ∷ []) place
outside_before from to place lt zero d under = inl lt
outside_before from to place lt (suc k) d under = absurd (omega (arith, under))

outside_behind : (from to place : ℕ) → to ≤ place → IsOutside ((from, to) ∷ []) place
outside_behind from to place le zero d under = inr le
outside_behind from to place le (suc k) d under = absurd (omega (arith, under))

module _ (front behind : List ℕ) (shut gate : ℕ) (size : length front ≡ gate) where
  abbrev whole : List ℕ
  whole = front ++ shut ∷ behind

  long : length whole ≡ gate + 1 + length behind
  long = omega (arith, length-append front (shut ∷ behind), size)

  -- a write behind the gate that a crash cuts short
  pub torn_behind : (n : ℕ) (image : List ℕ) → IsImage (with_range (gate + 1) n (at_rest whole)) image → (rest : List ℕ) × (image ≡ front ++ shut ∷ rest)
  torn_behind n image is =
      let before : take (gate + 1) image ≡ take (gate + 1) whole =
      take_same (gate + 1) image whole (omega (arith, long, is.no_shorter)) (omega (arith, long))
      (λ k lt. is.outside k (omega (arith, lt, long)) (outside_before (gate + 1) (gate + 1 + n) k lt)) in
      let kept : take (gate + 1) whole ≡ front ++ shut ∷ [] =
      ap (λ l. take (gate + 1) l) (sym (append_assoc front (shut ∷ []) behind))
      ∙ take_at (front ++ shut ∷ []) behind (gate + 1) (omega (arith, length-append front (shut ∷ []), size)) in (
        drop (gate + 1) image,
        sym (take-append-drop (gate + 1) image) ∙ ap (λ l. l ++ drop (gate + 1) image) (before ∙ kept) ∙ append_assoc front (shut ∷ []) (drop (gate + 1) image),
      )

  -- a write of the gate that a crash cuts short
  pub torn_gate : (image : List ℕ) → IsImage (with_range gate 1 (at_rest whole)) image → (byte : ℕ) × (image ≡ front ++ byte ∷ behind)
  torn_gate image is =
      let same_size : length image ≡ length whole = omega (arith, long, is.no_shorter, is.no_longer) in
      let before : take gate image ≡ front =
      take_same gate image whole (omega (arith, same_size, long)) (omega (arith, long)) (λ k lt. is.outside k (omega (arith, lt, long)) (outside_before gate (gate + 1) k lt))
      ∙ take_at front (shut ∷ behind) gate size in
      let after : drop (gate + 1) image ≡ behind =
      drop_same (gate + 1) image whole same_size (λ k le lt. is.outside k (omega (arith, lt, same_size)) (outside_behind gate (gate + 1) k le))
      ∙ ap (λ l. drop (gate + 1) l) (sym (append_assoc front (shut ∷ []) behind))
      ∙ drop_at (front ++ shut ∷ []) behind (gate + 1) (omega (arith, length-append front (shut ∷ []), size)) in
      let byte = get_or image gate 0 in
      let at_gate : drop gate image ≡ byte ∷ drop (gate + 1) image = drop_more image gate 0 (omega (arith, same_size, long)) in (
        byte,
        sym (take-append-drop gate image) ∙ ap (λ l. l ++ drop gate image) before ∙ ap (λ l. front ++ l) at_gate ∙ ap (λ l. front ++ byte ∷ l) after,
      )

  -- what is written whole
  pub written_behind : (bytes : List ℕ) → overwritten whole (gate + 1) bytes ≡ front ++ shut ∷ (bytes ++ drop (length bytes) behind)
  written_behind bytes =
      let regroup : whole ≡ (front ++ shut ∷ []) ++ behind = sym (append_assoc front (shut ∷ []) behind) in
      let one : length (front ++ shut ∷ []) ≡ gate + 1 = omega (arith, length-append front (shut ∷ []), size) in
      let kept : take (gate + 1) whole ≡ front ++ shut ∷ [] = ap (λ l. take (gate + 1) l) regroup ∙ take_at (front ++ shut ∷ []) behind (gate + 1) one in
      let left : drop (gate + 1 + length bytes) whole ≡ drop (length bytes) behind =
      sym (drop-drop (length bytes) (gate + 1) whole) ∙ ap (λ l. drop (length bytes) l) (ap (λ l. drop (gate + 1) l) regroup ∙ drop_at (front ++ shut ∷ []) behind (gate + 1) one) in
      ap (λ l. (l ++ bytes) ++ drop (gate + 1 + length bytes) whole) kept
      ∙ ap (λ l. ((front ++ shut ∷ []) ++ bytes) ++ l) left
      ∙ append_assoc (front ++ shut ∷ []) bytes (drop (length bytes) behind)
      ∙ append_assoc front (shut ∷ []) (bytes ++ drop (length bytes) behind)

  pub written_gate : overwritten whole gate (1 ∷ []) ≡ front ++ 1 ∷ behind
  written_gate =
      let regroup : whole ≡ (front ++ shut ∷ []) ++ behind = sym (append_assoc front (shut ∷ []) behind) in
      let one : length (front ++ shut ∷ []) ≡ gate + 1 = omega (arith, length-append front (shut ∷ []), size) in
      ap (λ l. (l ++ 1 ∷ []) ++ drop (gate + 1) whole) (take_at front (shut ∷ behind) gate size)
      ∙ ap (λ l. (front ++ 1 ∷ []) ++ l) (ap (λ l. drop (gate + 1) l) regroup ∙ drop_at (front ++ shut ∷ []) behind (gate + 1) one)
      ∙ append_assoc front (1 ∷ []) behind

-- ---- crashes while a piece is written

module _ (start : Content) (P : List ℕ → Type 0) where
  pub leaves_rest : (bytes : List ℕ) → P bytes → Leaves P (at_rest bytes)
  leaves_rest bytes here image is = subst P (sym (rest_image bytes image is)) here

  -- a sync
  pub synced : (old new : Content) → LeavesOnly start old P → P old.reads → new ≡ after_sync old → LeavesOnly start new P
  synced old new so_far here is = subst (λ it. LeavesOnly start it P) (sym is) (one_call_more start old (after_sync old) P so_far refl (leaves_rest old.reads here))

  module _ (old : Content) (at : ℕ) (piece : List ℕ) (so_far : LeavesOnly start old P) (torn : Leaves P (with_range at (length piece) old.now)) where
    written : LeavesOnly start (after_write at piece old) P
    written = one_call_more start old (after_write at piece old) P so_far refl torn

    pub failed_through : (new : Content) → FailsThrough at piece old new → LeavesOnly start new P
    failed_through new (inl (inl same)) = subst (λ it. LeavesOnly start it P) (sym same) so_far
    failed_through new (inl (inr tears)) = one_call_more start old new P so_far tears.past (subst (Leaves P) (sym tears.range) torn)
    failed_through new (inr is) = subst (λ it. LeavesOnly start it P) (sym is) written

    pub done_through : P (overwritten old.reads at piece) → LeavesOnly start (through at piece old) P
    done_through here = synced (after_write at piece old) (through at piece old) written here refl

  -- a record behind a closed gate of a disk at rest: until its gate is open all images have the old front and the closed gate, and then they have the whole record too
  module _ (old : Content) (front behind bytes : List ℕ) (shut gate : ℕ) (size : length front ≡ gate) (so_far : LeavesOnly start old P)
      (reads : old.reads ≡ front ++ shut ∷ behind) (rests : old.now ≡ at_rest old.reads)
      (before : (rest : List ℕ) → P (front ++ shut ∷ rest)) (after : (byte : ℕ) (rest : List ℕ) → P (front ++ byte ∷ (bytes ++ rest))) where
    abbrev rest_behind : List ℕ
    rest_behind = drop (length bytes) behind

    mid_reads : (through (gate + 1) bytes old).reads ≡ front ++ shut ∷ (bytes ++ rest_behind)
    mid_reads = ap (λ l. overwritten l (gate + 1) bytes) reads ∙ written_behind front behind shut gate size bytes

    first_torn : Leaves P (with_range (gate + 1) (length bytes) old.now)
    first_torn image is =
        let at_first : IsImage (with_range (gate + 1) (length bytes) (at_rest (front ++ shut ∷ behind))) image =
        subst (λ l. IsImage (with_range (gate + 1) (length bytes) (at_rest l)) image) reads (subst (λ m. IsImage (with_range (gate + 1) (length bytes) m) image) rests is) in
        let t = torn_behind front behind shut gate size (length bytes) image at_first in
        subst P (sym t.1) (before t.0)

    first_done : LeavesOnly start (through (gate + 1) bytes old) P
    first_done = done_through old (gate + 1) bytes so_far first_torn (subst P (sym mid_reads) (before (bytes ++ rest_behind)))

    second_torn : Leaves P (with_range gate 1 (through (gate + 1) bytes old).now)
    second_torn image is =
        let t = torn_gate front (bytes ++ rest_behind) shut gate size image (subst (λ l. IsImage (with_range gate 1 (at_rest l)) image) mid_reads is) in
        subst P (sym t.1) (after t.0 rest_behind)

    pub record_reads : (new : Content) → new ≡ through gate (1 ∷ []) (through (gate + 1) bytes old) → new.reads ≡ front ++ 1 ∷ (bytes ++ rest_behind)
    record_reads new is = ap (λ (c : Content). c.reads) is ∙ ap (λ l. overwritten l gate (1 ∷ [])) mid_reads ∙ written_gate front (bytes ++ rest_behind) shut gate size

    pub record_leaves : {X : Type 0} (new : Content) (result : Result X DiskStep) → WritesRecord gate bytes old new result → LeavesOnly start new P
    record_leaves new (Ok x) is =
        let end_reads : overwritten (through (gate + 1) bytes old).reads gate (1 ∷ []) ≡ front ++ 1 ∷ (bytes ++ rest_behind) =
        ap (λ l. overwritten l gate (1 ∷ [])) mid_reads ∙ written_gate front (bytes ++ rest_behind) shut gate size in
        subst (λ it. LeavesOnly start it P) (sym is)
        (done_through (through (gate + 1) bytes old) gate (1 ∷ []) first_done second_torn (subst P (sym end_reads) (after 1 rest_behind)))
    record_leaves new (Err step) (inl fails) = failed_through old (gate + 1) bytes so_far first_torn new fails
    record_leaves new (Err step) (inr fails) = failed_through (through (gate + 1) bytes old) gate (1 ∷ []) first_done second_torn new fails

-- the second write of a record, behind the first
pub second_written : {X : Type 0} (gate : ℕ) (bytes : List ℕ) (old mid new : Content) (result : Result X DiskStep) → mid ≡ through (gate + 1) bytes old →
    WritesThrough gate (1 ∷ []) mid new result → WritesRecord gate bytes old new result
second_written gate bytes old mid new (Ok x) first is = is ∙ ap (λ c. through gate (1 ∷ []) c) first
second_written gate bytes old mid new (Err step) first is = inr (subst (λ c. FailsThrough gate (1 ∷ []) c new) first is)
