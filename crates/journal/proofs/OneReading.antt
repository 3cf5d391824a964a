-- An image reads as one thing.
use Rattle.std.proofs.Common.{◌≡◌, ◌≢◌, inl, inr, ℕ, ◌<◌, ◌≤◌, ◌^◌, List, [], ◌∷◌, ◌++◌, length, map, slice_index, refl, sym, ap, subst, ◌∙◌, append_assoc, length-append, arith}
use Rattle.std.specs.Int.{w32, to_be_bytes}
use Rattle.std.specs.List.{concat}
use Rattle.std.proofs.lemmas.List.{append-nil}
use Rattle.std.proofs.lemmas.Option.{some_pair_parts}
use Rattle.base_bytes.specs.Pieces.{counted}
use Rattle.base_bytes.specs.Reading.{Reading}
use Rattle.base_bytes.proofs.Formats.{IsFormat}
use Rattle.command.specs.Each.{EachAfter}
use Rattle.command.specs.Wire.{wire}
use Rattle.command.specs.declared.command.Command.{Command}
use Rattle.journal.specs.Commits.{IsCommitForm, IsNext, commit_body, counted_command, gated, journal_front, open_record, policy_body, records}
use Rattle.journal.specs.Images.{BeginsWith, IsBegun, IsFresh, ReadsAs, ReadsDamaged, ReadsHeld, ReadsOther, Splits, Holds, Damaged, OtherPolicy}
use Rattle.journal.specs.Images as images
use Rattle.journal.specs.declared.commit.Commit.{Commit}
use Rattle.journal.specs.declared.commit.Commit.TheVariants.{Graph, Commands}
use Rattle.journal.proofs.Forms.{IsWhole, commit_record_format, policy_record_format}

-- ---- records are unambiguous

-- what is spelled at the front of the same bytes is the same
one_value : {A : Type 0} {IsForm : A → Type 0} {spelled : A → List ℕ} {read : Reading A} → IsFormat IsForm spelled read →
    (x y : A) (more rest : List ℕ) → IsForm x → IsForm y → spelled x ++ more ≡ spelled y ++ rest → (x ≡ y) × (more ≡ rest)
one_value {A} {IsForm} {spelled} {read} format x y more rest is is_too same =
    some_pair_parts x y more rest (sym (format.again x more is) ∙ ap read same ∙ format.again y rest is_too)

-- commands are no more than their bytes
listed_size : (commands : List Command) → length commands ≤ length (concat (map counted_command commands))
listed_size [] = omega arith
listed_size (command ∷ commands) = omega (arith, listed_size commands, length-append (counted_command command) (concat (map counted_command commands)), length-append (to_be_bytes w32 (length (wire command))) (wire command))

pub whole : (commit : Commit) → IsCommitForm commit → length (commit_body commit) < 2 ^ 32 → IsWhole commit
whole (Graph id) form short = form
whole (Commands commands) form short = (form.0, omega (arith, short, listed_size commands, length-append (to_be_bytes w32 (length commands)) (concat (map counted_command commands))), form.1)

pub tails : (a b : ℕ) (xs ys : List ℕ) → a ∷ xs ≡ b ∷ ys → (a ≡ b) × (xs ≡ ys)
tails a b xs ys same = (ap (λ l. slice_index l 0) same, ap (λ (l : List ℕ). tail l) same)
  where
    tail : List ℕ → List ℕ
    tail [] = []
    tail (x ∷ rest) = rest

-- the same open record stands at the front of the same bytes
one_commit : (before others : List Commit) (one other : Commit) (more rest : List ℕ) → IsNext before one → IsNext others other →
    open_record (commit_body one) ++ more ≡ open_record (commit_body other) ++ rest → (one ≡ other) × (more ≡ rest)
one_commit before others one other more rest is is_too same =
    one_value commit_record_format one other more rest (whole one is.form is.short, is.short) (whole other is_too.form is_too.short, is_too.short)
    (tails 1 1 (counted w32 (commit_body one) ++ more) (counted w32 (commit_body other) ++ rest) same).1

one_policy : (one other more rest : List ℕ) → length one ≡ 32 → length other ≡ 32 →
    open_record (policy_body one) ++ more ≡ open_record (policy_body other) ++ rest → (one ≡ other) × (more ≡ rest)
one_policy one other more rest size size_too same =
    one_value policy_record_format one other more rest (size, omega (arith, size)) (size_too, omega (arith, size_too))
    (tails 1 1 (counted w32 (policy_body one) ++ more) (counted w32 (policy_body other) ++ rest) same).1

-- ---- commits end at one place

-- at this gate, behind these commits, no further one stands
abbrev Ends : List Commit → ℕ → List ℕ → Type 0
Ends commits gate behind = (commit : Commit) → IsNext commits commit → BeginsWith (commit_body commit) (gate ∷ behind) → ⊥

closed_ends : (commits : List Commit) (gate : ℕ) (behind : List ℕ) → gate ≢ 1 → Ends commits gate behind
closed_ends commits gate behind shut commit is (next, more, parts) = shut (tails gate 1 behind (counted w32 (commit_body commit) ++ next ∷ more) parts).0

record Same (commits others : List Commit) (gate other : ℕ) (behind rest : List ℕ) : Type 0 where
  same_commits : commits ≡ others
  same_gate : gate ≡ other
  same_behind : behind ≡ rest

-- behind the records of a list stands a gate at least
some_gate : (commits : List Commit) (gate : ℕ) (behind : List ℕ) → (next : ℕ) × (more : List ℕ) × (records commits ++ gate ∷ behind ≡ next ∷ more)
some_gate [] gate behind = (gate, behind, refl)
some_gate (commit ∷ commits) gate behind = (1, (counted w32 (commit_body commit) ++ records commits) ++ gate ∷ behind, refl)

-- one record, and what follows it
first_record : (commit : Commit) (commits : List Commit) (gate : ℕ) (behind : List ℕ) →
    records (commit ∷ commits) ++ gate ∷ behind ≡ open_record (commit_body commit) ++ (records commits ++ gate ∷ behind)
first_record commit commits gate behind = append_assoc (open_record (commit_body commit)) (records commits) (gate ∷ behind)

begins : (commit : Commit) (commits : List Commit) (gate : ℕ) (behind bytes : List ℕ) → bytes ≡ records (commit ∷ commits) ++ gate ∷ behind → BeginsWith (commit_body commit) bytes
begins commit commits gate behind bytes same =
    let g = some_gate commits gate behind in
    (g.0, g.1, same ∙ first_record commit commits gate behind ∙ ap (λ more. open_record (commit_body commit) ++ more) g.2)

same_ends : (commits others before all all_others : List Commit) (gate other : ℕ) (behind rest : List ℕ) → all ≡ before ++ commits → all_others ≡ before ++ others →
    EachAfter IsNext before commits → EachAfter IsNext before others → Ends all gate behind → Ends all_others other rest →
    records commits ++ gate ∷ behind ≡ records others ++ other ∷ rest → Same commits others gate other behind rest
same_ends [] [] before all all_others gate other behind rest is is_too each each_too ends ends_too same =
    let parts = tails gate other behind rest same in
    record { same_commits = refl; same_gate = parts.0; same_behind = parts.1 }
same_ends [] (commit ∷ others) before all all_others gate other behind rest is is_too each each_too ends ends_too same =
    absurd (ends commit (subst (λ those. IsNext those commit) (sym (is ∙ append-nil before)) each_too.0) (begins commit others other rest (gate ∷ behind) same))
same_ends (commit ∷ commits) [] before all all_others gate other behind rest is is_too each each_too ends ends_too same =
    absurd (ends_too commit (subst (λ those. IsNext those commit) (sym (is_too ∙ append-nil before)) each.0) (begins commit commits gate behind (other ∷ rest) (sym same)))
same_ends (commit ∷ commits) (next ∷ others) before all all_others gate other behind rest is is_too each each_too ends ends_too same =
    let one = one_commit before before commit next (records commits ++ gate ∷ behind) (records others ++ other ∷ rest) each.0 each_too.0
    (sym (first_record commit commits gate behind) ∙ same ∙ first_record next others other rest) in
    let more = same_ends commits others (before ++ commit ∷ []) all all_others gate other behind rest
    (is ∙ sym (append_assoc before (commit ∷ []) commits))
    (is_too ∙ ap (λ it. before ++ it ∷ others) (sym one.0) ∙ sym (append_assoc before (commit ∷ []) others))
    each.1 (subst (λ it. EachAfter IsNext (before ++ it ∷ []) others) (sym one.0) each_too.1) ends ends_too one.1 in
    record { same_commits = ap (λ it. it ∷ commits) one.0 ∙ ap (λ them. next ∷ them) more.same_commits; same_gate = more.same_gate; same_behind = more.same_behind }

-- ---- the whole image

-- the first record, and what follows it
pub behind_policy : (digest : List ℕ) (commits : List Commit) (gate : ℕ) (behind : List ℕ) →
    journal_front digest commits ++ gate ∷ behind ≡ open_record (policy_body digest) ++ (records commits ++ gate ∷ behind)
behind_policy digest commits gate behind = append_assoc (open_record (policy_body digest)) (records commits) (gate ∷ behind)

pub begins_with_policy : (digest : List ℕ) (commits : List Commit) (gate : ℕ) (behind image : List ℕ) → Splits digest commits gate behind image → BeginsWith (policy_body digest) image
begins_with_policy digest commits gate behind image splits =
    let g = some_gate commits gate behind in
    (g.0, g.1, splits.parts ∙ behind_policy digest commits gate behind ∙ ap (λ more. open_record (policy_body digest) ++ more) g.2)

pub begun : (body image : List ℕ) → BeginsWith body image → IsBegun image
begun body image (gate, behind, parts) = record {
  long = omega (arith, ap length parts, length-append (open_record body) (gate ∷ behind));
  is_open = ap (λ bytes. slice_index bytes 0) parts;
}

pub not_fresh : (image : List ℕ) → IsFresh image → IsBegun image → ⊥
not_fresh image (inl short) is = omega (arith, short, is.long)
not_fresh image (inr shut) is = shut is.is_open

module _ (digest image : List ℕ) where
  same_splits : (commits others : List Commit) (gate other : ℕ) (behind rest : List ℕ) → Splits digest commits gate behind image → Splits digest others other rest image →
      Ends commits gate behind → Ends others other rest → Same commits others gate other behind rest
  same_splits commits others gate other behind rest is is_too ends ends_too =
      same_ends commits others [] commits others gate other behind rest refl refl is.follow is_too.follow ends ends_too
      (one_policy digest digest (records commits ++ gate ∷ behind) (records others ++ other ∷ rest) is.size is.size
      (sym (behind_policy digest commits gate behind) ∙ sym is.parts ∙ is_too.parts ∙ behind_policy digest others other rest)).1

  same_policy : (one other : List ℕ) → length one ≡ 32 → length other ≡ 32 → BeginsWith (policy_body one) image → BeginsWith (policy_body other) image → one ≡ other
  same_policy one other size size_too (gate, behind, parts) (next, more, parts_too) = (one_policy one other (gate ∷ behind) (next ∷ more) size size_too (sym parts ∙ parts_too)).0

  -- nothing was begun
  fresh_held : IsFresh image → (reading : images.Reading) → ReadsAs digest image reading → reading ≡ Holds []
  fresh_held fresh (Holds held) (inl is) = ap Holds is.1
  fresh_held fresh (Holds held) (inr (commits, gate, behind, splits, shut, lists)) = absurd (not_fresh image fresh (begun (policy_body digest) image (begins_with_policy digest commits gate behind image splits)))
  fresh_held fresh (Damaged offset) (inl is) = absurd (not_fresh image fresh is.0)
  fresh_held fresh (Damaged offset) (inr (commits, behind, splits, at, none_there)) = absurd (not_fresh image fresh (begun (policy_body digest) image (begins_with_policy digest commits 1 behind image splits)))
  fresh_held fresh (OtherPolicy other) is = absurd (not_fresh image fresh (begun (policy_body other) image is.first))

  -- the first record is no policy's
  first_damaged : IsBegun image → ((other : List ℕ) → length other ≡ 32 → BeginsWith (policy_body other) image → ⊥) → (reading : images.Reading) → ReadsAs digest image reading → reading ≡ Damaged 0
  first_damaged is none (Holds held) (inl fresh) = absurd (not_fresh image fresh.0 is)
  first_damaged is none (Holds held) (inr (commits, gate, behind, splits, shut, lists)) = absurd (none digest splits.size (begins_with_policy digest commits gate behind image splits))
  first_damaged is none (Damaged offset) (inl other) = ap Damaged other.1
  first_damaged is none (Damaged offset) (inr (commits, behind, splits, at, none_there)) = absurd (none digest splits.size (begins_with_policy digest commits 1 behind image splits))
  first_damaged is none (OtherPolicy other) reads = absurd (none other reads.size reads.first)

  -- the first record is another policy's
  another_policy : (one : List ℕ) → ReadsOther digest image one → (reading : images.Reading) → ReadsAs digest image reading → reading ≡ OtherPolicy one
  another_policy one is (Holds held) (inl fresh) = absurd (not_fresh image fresh.0 (begun (policy_body one) image is.first))
  another_policy one is (Holds held) (inr (commits, gate, behind, splits, shut, lists)) = absurd (is.another (same_policy one digest is.size splits.size is.first (begins_with_policy digest commits gate behind image splits)))
  another_policy one is (Damaged offset) (inl other) = absurd (other.2 one is.size is.first)
  another_policy one is (Damaged offset) (inr (commits, behind, splits, at, none_there)) = absurd (is.another (same_policy one digest is.size splits.size is.first (begins_with_policy digest commits 1 behind image splits)))
  another_policy one is (OtherPolicy other) reads = ap OtherPolicy (same_policy other one reads.size is.size reads.first is.first)

  -- commits end at a closed gate
  closed_there : (commits : List Commit) (gate : ℕ) (behind : List ℕ) → Splits digest commits gate behind image → gate ≢ 1 → (reading : images.Reading) → ReadsAs digest image reading → reading ≡ Holds (gated commits)
  closed_there commits gate behind is shut (Holds held) (inl fresh) = absurd (not_fresh image fresh.0 (begun (policy_body digest) image (begins_with_policy digest commits gate behind image is)))
  closed_there commits gate behind is shut (Holds held) (inr (others, other, rest, splits, shut_too, lists)) =
      let same = same_splits commits others gate other behind rest is splits (closed_ends commits gate behind shut) (closed_ends others other rest shut_too) in
      ap Holds (lists ∙ ap gated (sym same.same_commits))
  closed_there commits gate behind is shut (Damaged offset) (inl other) = absurd (other.2 digest is.size (begins_with_policy digest commits gate behind image is))
  closed_there commits gate behind is shut (Damaged offset) (inr (others, rest, splits, at, none)) =
      let same = same_splits commits others gate 1 behind rest is splits (closed_ends commits gate behind shut) none in
      absurd (shut same.same_gate)
  closed_there commits gate behind is shut (OtherPolicy other) reads = absurd (reads.another (same_policy other digest reads.size is.size reads.first (begins_with_policy digest commits gate behind image is)))

  -- they end at a damaged record
  damaged_there : (commits : List Commit) (behind : List ℕ) → Splits digest commits 1 behind image → Ends commits 1 behind → (reading : images.Reading) → ReadsAs digest image reading → reading ≡ Damaged (length (journal_front digest commits))
  damaged_there commits behind is ends (Holds held) (inl fresh) = absurd (not_fresh image fresh.0 (begun (policy_body digest) image (begins_with_policy digest commits 1 behind image is)))
  damaged_there commits behind is ends (Holds held) (inr (others, other, rest, splits, shut, lists)) =
      let same = same_splits commits others 1 other behind rest is splits ends (closed_ends others other rest shut) in
      absurd (shut (sym same.same_gate))
  damaged_there commits behind is ends (Damaged offset) (inl other) = absurd (other.2 digest is.size (begins_with_policy digest commits 1 behind image is))
  damaged_there commits behind is ends (Damaged offset) (inr (others, rest, splits, at, none)) =
      let same = same_splits commits others 1 1 behind rest is splits ends none in
      ap Damaged (at ∙ ap (λ them. length (journal_front digest them)) (sym same.same_commits))
  damaged_there commits behind is ends (OtherPolicy other) reads = absurd (reads.another (same_policy other digest reads.size is.size reads.first (begins_with_policy digest commits 1 behind image is)))

pub one_reading : (digest image : List ℕ) (one other : images.Reading) → ReadsAs digest image one → ReadsAs digest image other → one ≡ other
one_reading digest image (Holds held) other (inl is) is_too = ap Holds is.1 ∙ sym (fresh_held digest image is.0 other is_too)
one_reading digest image (Holds held) other (inr (commits, gate, behind, splits, shut, lists)) is_too = ap Holds lists ∙ sym (closed_there digest image commits gate behind splits shut other is_too)
one_reading digest image (Damaged offset) other (inl is) is_too = ap Damaged is.1 ∙ sym (first_damaged digest image is.0 is.2 other is_too)
one_reading digest image (Damaged offset) other (inr (commits, behind, splits, at, none)) is_too = ap Damaged at ∙ sym (damaged_there digest image commits behind splits none other is_too)
one_reading digest image (OtherPolicy one) other is is_too = sym (another_policy digest image one is other is_too)
