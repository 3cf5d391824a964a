-- What a world is: replicas by name, and the messages that were made.
use Rattle.std.specs.Prelude.{◌≡◌, ◌⊎◌, ℕ, ◌+◌, ◌-◌, ◌==◌, if◌then◌else◌, List, [], ◌∷◌, ◌++◌, find, length, map, slice_get, Option, Some, None, option_and_then, option_map}
use Rattle.std.specs.Str.{bytes_eq}
use Rattle.replica.specs.Kept.{Kept}
use Rattle.script.specs.Scripts.{Declared}
use Rattle.script_texts.specs.Bytes.{Bytes}

-- A replica by its name, and what it keeps.
pub record Named (D : Type 0) : Type 0 where
  pub name : Bytes
  pub kept : Kept D

-- The replicas in the order in which a script declares them; the messages so far, of which a number that made none has none; and the disks that no
-- replica uses.
pub record Site (D : Type 0) : Type 0 where
  pub replicas : List (Named D)
  pub messages : List (Option Bytes)
  pub spare : List D

-- ---- the replicas

-- What the replica of a name keeps; None where there is no such replica.
abbrev pub kept_of : {D : Type 0} → List (Named D) → Bytes → Option (Kept D)
kept_of replicas name = option_map (λ r. r.kept) (find (λ r. bytes_eq r.name name) replicas)

-- The replicas, where the one of a name keeps this.
abbrev pub with_kept : {D : Type 0} → List (Named D) → Bytes → Kept D → List (Named D)
with_kept [] name kept = []
with_kept (r ∷ rs) name kept = if bytes_eq r.name name then record r { kept = kept } ∷ rs else r ∷ with_kept rs name kept

-- It is so of what the replica of a name keeps.
abbrev pub Of : {D : Type 0} → List (Named D) → Bytes → (Kept D → Type 0) → Type 0
Of {D = D} replicas name holds = (kept : Kept D) × (kept_of replicas name ≡ Some kept) × holds kept

-- The replica of a name, and no other, goes from what it keeps to what it keeps then.
abbrev pub Changes : {D : Type 0} → List (Named D) → Bytes → (Kept D → Kept D → Type 0) → List (Named D) → Type 0
Changes {D = D} old name goes new = (before after : Kept D) × (kept_of old name ≡ Some before) × goes before after × (new ≡ with_kept old name after)

-- ---- the messages, which are numbered from 1

-- The message of a number, where that made one.
abbrev pub message_at : List (Option Bytes) → ℕ → Option Bytes
message_at messages n = if n == 0 then None else option_and_then (λ made. made) (slice_get messages (n - 1))

-- The number of the next message.
abbrev pub next_number : {D : Type 0} → Site D → ℕ
next_number site = length site.messages + 1

-- With one number more, which made this message or none.
abbrev pub with_message : List (Option Bytes) → Option Bytes → List (Option Bytes)
with_message messages made = messages ++ made ∷ []

-- ---- the whole

-- What lines before may have declared for a line to stand behind them: all names of the world, and as many messages as were made.
abbrev pub declared : {D : Type 0} → Site D → Declared
declared site = record { names = map (λ r. r.name) site.replicas; messages = length site.messages }

-- These replicas and messages, beside no other disks.
abbrev pub site_of : {D : Type 0} → List (Named D) → List (Option Bytes) → Site D
site_of replicas messages = record { replicas = replicas; messages = messages; spare = [] }

-- As many of one list as of the other, and each two at one place are so.
abbrev pub EachPair : {X Y : Type 0} → (X → Y → Type 0) → List X → List Y → Type 0
EachPair are [] [] = Unit {0}
EachPair are [] (y ∷ ys) = ⊥
EachPair are (x ∷ xs) [] = ⊥
EachPair are (x ∷ xs) (y ∷ ys) = are x y × EachPair are xs ys

-- No replica is down.
abbrev pub AreUp : {D : Type 0} → List (Named D) → Type 0
AreUp [] = Unit {0}
AreUp (r ∷ rs) = (r.kept.down ≡ None) × AreUp rs

-- They are the same; or they hold the same, and of one replica at most the disk is another, and whether it is down.
abbrev pub AreAlike : {D : Type 0} → List (Named D) → List (Named D) → Type 0
AreAlike {D = D} old new = (new ≡ old) ⊎ ((a : Bytes) × Changes old a (λ kept fallen. fallen ≡ record kept { down = fallen.down; disk = fallen.disk; outline = fallen.outline }) new)

-- All disks, in their order.
abbrev pub disks_of : {D : Type 0} → Site D → List D
disks_of site = map (λ r. r.kept.disk) site.replicas ++ site.spare
