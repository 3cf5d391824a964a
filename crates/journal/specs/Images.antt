-- What an image of a disk reads as.
use Rattle.std.specs.Prelude.{◌≡◌, ◌≢◌, ◌⊎◌, ℕ, ◌<◌, ◌≤◌, List, [], ◌∷◌, ◌++◌, length, slice_index}
use Rattle.journal.specs.Commits.{AreCommits, IsNext, commit_body, gated, journal_front, open_record, policy_body}
use Rattle.journal.specs.declared.commit.Commit.{Commit}

-- commits with the places of their gates; or a record with its gate at this place that isn't whole or has another form; or the
-- journal of the policy with this digest
pub data Reading : Type 0 where
  Holds : List (ℕ × Commit) → Reading
  Damaged : ℕ → Reading
  OtherPolicy : List ℕ → Reading

-- no journal was begun: the image is shorter than two bytes, or its first gate is closed
abbrev pub IsFresh : List ℕ → Type 0
IsFresh image = (length image < 2) ⊎ (slice_index image 0 ≢ 1)

-- a journal was begun: the first gate is open
pub record IsBegun (image : List ℕ) : Type 0 where
  pub long : 2 ≤ length image
  pub is_open : slice_index image 0 ≡ 1

-- the image is the first record of this policy, records of these commits, a gate, and the bytes behind it
pub record Splits (digest : List ℕ) (commits : List Commit) (gate : ℕ) (behind image : List ℕ) : Type 0 where
  pub size : length digest ≡ 32
  pub follow : AreCommits commits
  pub parts : image ≡ journal_front digest commits ++ gate ∷ behind

-- these bytes begin with a whole record of this body: a gate stands behind it
abbrev pub BeginsWith : List ℕ → List ℕ → Type 0
BeginsWith body bytes = (gate : ℕ) × (behind : List ℕ) × (bytes ≡ open_record body ++ gate ∷ behind)

-- the image's commits end at a closed gate, or no journal was begun
abbrev pub ReadsHeld : List ℕ → List ℕ → List (ℕ × Commit) → Type 0
ReadsHeld digest image held =
    (IsFresh image × (held ≡ []))
    ⊎ ((commits : List Commit) × (gate : ℕ) × (behind : List ℕ) × Splits digest commits gate behind image × (gate ≢ 1) × (held ≡ gated commits))

-- behind the open gate at this place stands no whole record: none of a policy at the first gate, and none of a commit that may
-- stand there at a later one
abbrev pub ReadsDamaged : List ℕ → List ℕ → ℕ → Type 0
ReadsDamaged digest image offset =
    (IsBegun image × (offset ≡ 0) × ((other : List ℕ) → length other ≡ 32 → BeginsWith (policy_body other) image → ⊥))
    ⊎ ((commits : List Commit) × (behind : List ℕ) × Splits digest commits 1 behind image × (offset ≡ length (journal_front digest commits))
    × ((commit : Commit) → IsNext commits commit → BeginsWith (commit_body commit) (1 ∷ behind) → ⊥))

-- the first record is of another policy
pub record ReadsOther (digest image other : List ℕ) : Type 0 where
  pub size : length other ≡ 32
  pub another : other ≢ digest
  pub first : BeginsWith (policy_body other) image

-- what the image reads as, opened under the policy with this digest
abbrev pub ReadsAs : List ℕ → List ℕ → Reading → Type 0
ReadsAs digest image (Holds held) = ReadsHeld digest image held
ReadsAs digest image (Damaged offset) = ReadsDamaged digest image offset
ReadsAs digest image (OtherPolicy other) = ReadsOther digest image other
