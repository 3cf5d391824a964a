-- What an image is found to be.
use Rattle.std.proofs.Common.{◌≡◌, ◌≢◌, ◌∙◌, ap, sym, subst, refl, inl, inr, ℕ, ◌+◌, ◌<◌, List, [], ◌∷◌, ◌++◌, length, Vec, Some, None, Ok, Err, append_assoc, length-append, arith}
use Rattle.std.specs.Int.{w32, to_be_bytes}
use Rattle.std.specs.declared.alloc.Global.{Global}
use Rattle.base_bytes.specs.Pieces.{counted}
use Rattle.base_bytes.proofs.Formats.{AreBytes}
use Rattle.journal.specs.Commits.{first_gate, journal_front, open_record, policy_body, records}
use Rattle.journal.specs.Images.{BeginsWith, IsBegun, ReadsOther}
use Rattle.journal.specs.working.Faults.{first_fault}
use Rattle.journal.specs.working.Opening.{Finds, IsHeld, IsPolicy, ReadsCommits, ReadsFirst}
use Rattle.journal.specs.working.Reading.{counted_body_at, policy_at, record_at}
use Rattle.journal.specs.working.Scanning.{Reads}
use Rattle.journal.specs.declared.commit.Commit.{Commit}
use Rattle.journal.specs.declared.end.End.{End}
use Rattle.journal.specs.declared.fault.OpenFault.{OpenFault}
use Rattle.journal.specs.declared.fault.OpenFault.TheVariants as fault
use Rattle.journal.specs.declared.stop.Stop.{Stop}
use Rattle.journal.specs.declared.stop.Stop.TheVariants as stop
use Rattle.journal.proofs.Forms.{policy_record_format}
use Rattle.journal.proofs.Gates.{leaves_some, read_before_gate}
use Rattle.journal.proofs.OneReading.{tails}

-- ---- the first record

pub policy_first : (digest rest bytes : List ℕ) → AreBytes bytes → record_at policy_at bytes ≡ Some (digest, rest) → IsPolicy digest rest bytes
policy_first digest rest bytes are is =
    let some = leaves_some (counted_body_at policy_at) bytes digest rest is in
    let t = policy_record_format.takes bytes (digest, rest) are some.0 in
    record { size = t.1.0; more = some.1; front = t.0 }

pub no_policy : (bytes : List ℕ) → record_at policy_at bytes ≡ None → (other : List ℕ) → length other ≡ 32 → BeginsWith (policy_body other) (1 ∷ bytes) → ⊥
no_policy bytes none other size (gate, behind, parts) =
    let told : bytes ≡ counted w32 (policy_body other) ++ gate ∷ behind = (tails 1 1 bytes (counted w32 (policy_body other) ++ gate ∷ behind) parts).1 in
    no_value (sym none ∙ read_before_gate policy_record_format other gate behind bytes (size, omega (arith, size)) told)
  where
    no_value : {x : List ℕ × List ℕ} → None ≡ Some x → ⊥
    no_value same = absurd (cc)

pub first_refused : (it : Stop) (rest rest_too bytes : List ℕ) → Reads {X = List ℕ} (λ digest. digest) (Err it) rest (record_at policy_at bytes) → ReadsFirst (Err (first_fault it)) rest_too bytes
first_refused stop.Malformed rest rest_too bytes is = (refl, no_policy bytes is)
first_refused (stop.Disk step) rest rest_too bytes is = tt
first_refused stop.NoMemory rest rest_too bytes is = tt

-- a gate stands in front of what is left
gate_of : (rest : List ℕ) → 0 < length rest → (gate : ℕ) × (behind : List ℕ) × (rest ≡ gate ∷ behind)
gate_of [] more = absurd (omega (arith, more))
gate_of (gate ∷ behind) more = (gate, behind, refl)

-- ---- the records behind the first gate

pub begun_there : (bytes : List ℕ) → 0 < length bytes → IsBegun (1 ∷ bytes)
begun_there bytes more = record { long = omega (arith, more); is_open = refl }

pub policy_refused : (error : OpenFault) (digest rest bytes : List ℕ) → 0 < length bytes → ReadsFirst (Err error) rest bytes → Finds digest (1 ∷ bytes) (Err error)
policy_refused (fault.Damaged offset) digest rest bytes more is = inl (begun_there bytes more, is.0, is.1)
policy_refused (fault.OtherPolicy other) digest rest bytes more is = absurd is
policy_refused (fault.DiskFault step) digest rest bytes more is = tt
policy_refused fault.NoMemory digest rest bytes more is = tt

pub another_policy : (digest first rest bytes : List ℕ) → IsPolicy first rest bytes → first ≢ digest → ReadsOther digest (1 ∷ bytes) first
another_policy digest first rest bytes is another =
    let g = gate_of rest is.more in
    record { size = is.size; another = another; first = (g.0, g.1, ap (λ l. 1 ∷ l) (is.front ∙ ap (λ l. counted w32 (policy_body first) ++ l) g.2)) }

splits_there : (digest rest bytes : List ℕ) (commits : List Commit) (gate : ℕ) (behind : List ℕ) → IsPolicy digest rest bytes → rest ≡ records commits ++ gate ∷ behind → 1 ∷ bytes ≡ journal_front digest commits ++ gate ∷ behind
splits_there digest rest bytes commits gate behind is parts =
    ap (λ l. 1 ∷ l) (is.front ∙ ap (λ l. counted w32 (policy_body digest) ++ l) parts)
    ∙ sym (append_assoc (open_record (policy_body digest)) (records commits) (gate ∷ behind))

pub front_size : (digest : List ℕ) (commits : List Commit) → length digest ≡ 32 → first_gate + length (records commits) ≡ length (journal_front digest commits)
front_size digest commits size = omega (arith, size, length-append (open_record (policy_body digest)) (records commits), length-append (to_be_bytes w32 (length (policy_body digest))) (policy_body digest))

pub list_refused : (error : OpenFault) (digest first rest bytes : List ℕ) → IsPolicy first rest bytes → first ≡ digest → ReadsCommits (Err error) rest → Finds digest (1 ∷ bytes) (Err error)
list_refused (fault.Damaged offset) digest first rest bytes is same reads =
    let policy : IsPolicy digest rest bytes = subst (λ d. IsPolicy d rest bytes) same is in
    let ends = reads.1 in
    inr (
      reads.0,
      ends.behind,
      record { size = policy.size; follow = ends.follow; parts = splits_there digest rest bytes reads.0 1 ends.behind policy ends.parts },
      reads.2 ∙ front_size digest reads.0 policy.size,
      ends.none,
    )
list_refused (fault.OtherPolicy other) digest first rest bytes is same reads = absurd reads
list_refused (fault.DiskFault step) digest first rest bytes is same reads = tt
list_refused fault.NoMemory digest first rest bytes is same reads = tt

pub list_held : (found : End × Vec (ℕ × Commit) Global) (digest first rest bytes : List ℕ) → IsPolicy first rest bytes → first ≡ digest → ReadsCommits (Ok found) rest → IsHeld digest (1 ∷ bytes) found.0 found.1.items
list_held found digest first rest bytes is same reads =
    let policy : IsPolicy digest rest bytes = subst (λ d. IsPolicy d rest bytes) same is in
    let ends = reads.1 in
    record {
      commits = reads.0;
      gate = ends.gate;
      behind = ends.behind;
      splits = record { size = policy.size; follow = ends.follow; parts = splits_there digest rest bytes reads.0 ends.gate ends.behind policy ends.parts };
      shut = ends.shut;
      gates = reads.2;
      outline = reads.3;
    }
