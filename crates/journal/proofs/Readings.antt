-- What is read piece by piece is what the readings say.
use Rattle.std.proofs.Common.{◌≡◌, ◌∙◌, ap, sym, refl, ℕ, ◌-◌, ◌<◌, ◌≤◌, ◌==◌, Bool, true, false, List, [], length, replicate, Option, Some, None, option_map, Result, Ok, Err}
use Rattle.std.specs.Int.{w32}
use Rattle.std.specs.Prelude.{if◌then◌else◌}
use Rattle.std.specs.Option.{option_and_then}
use Rattle.std.proofs.lemmas.Bool.{eqb-true, le-leb}
use Rattle.std.proofs.lemmas.List.{nil_from_length}
use Rattle.std.proofs.lemmas.Option.{some_pair_parts}
use Rattle.base_bytes.specs.Reading.{Reading, bytes_at, counted_at, ended, in_order, number_at}
use Rattle.base_bytes.proofs.InOrder.{none_repeated, with_front}
use Rattle.command.specs.Reading.{command_at}
use Rattle.journal.specs.working.Reading.{counted_command_at, leaving, record_at, sized_at}
use Rattle.journal.specs.working.Scanning.{Reads, ReadsAll}
use Rattle.journal.specs.declared.stop.Stop.{Stop}
use Rattle.journal.specs.declared.stop.Stop.TheVariants as stop

not_ended : {A : Type 0} (found : Option (A × List ℕ)) → ((x : A) → found ≡ Some (x, []) → ⊥) → option_and_then ended found ≡ None
not_ended None refused = refl
not_ended {A} (Some found) refused = by_test (length found.1 == 0) refl
  where
    by_test : (b : Bool) → (length found.1 == 0) ≡ b → ended found ≡ None
    by_test true is = absurd (refused found.0 (ap (λ z. let both : A × List ℕ = (found.0, z) in Some both) (nil_from_length found.1 (eqb-true _ _ is))))
    by_test false is = rw is refl

-- so many bytes that are read as one value
pub reads_sized : {A : Type 0} (answer : Result A Stop) (read : Reading A) (size : ℕ) (bytes told rest : List ℕ) → bytes_at size bytes ≡ Some (told, rest) → ReadsAll answer (read told) → Reads (λ x. x) answer rest (sized_at read size bytes)
reads_sized (Ok x) read size bytes told rest found is = rw (found, is) refl
reads_sized (Err stop.Malformed) read size bytes told rest found is = rw (found, not_ended (read told) is) refl
reads_sized (Err (stop.Disk step)) read size bytes told rest found is = tt
reads_sized (Err stop.NoMemory) read size bytes told rest found is = tt

-- the length of a command, and the command
pub counted_command_is : (bytes rest : List ℕ) (size : ℕ) → number_at w32 bytes ≡ Some (size, rest) → size ≤ 4305 → counted_command_at bytes ≡ sized_at command_at size rest
counted_command_is bytes rest size is small = rw (is, le-leb _ _ small) refl

-- a reading that is refused refuses the whole
pub refused_repeated : {A X Y : Type 0} (read : Reading A) (count i : ℕ) (front : List A) (bytes : List ℕ) (total : Option (List A × List ℕ)) → with_front front (in_order (replicate (count - i) read) bytes) ≡ total
    → (view : X → A) (view_too : Y → List A) (error : Stop) (rest rest_too : List ℕ) → i < count → Reads view (Err error) rest (read bytes) → Reads view_too (Err error) rest_too total
refused_repeated read count i front bytes total so_far view view_too stop.Malformed rest rest_too within refused = none_repeated read count i front bytes total so_far within refused
refused_repeated read count i front bytes total so_far view view_too (stop.Disk step) rest rest_too within refused = tt
refused_repeated read count i front bytes total so_far view view_too stop.NoMemory rest rest_too within refused = tt

-- ---- records

abbrev Found : Type 0 → Type 0
Found A = Option (A × List ℕ)

-- what is left behind a value, and what a piece is read as
abbrev with_more : {A : Type 0} → Found A → Found A
with_more found = option_and_then (λ f. if length f.1 == 0 then None else Some f) found

abbrev as_value : {A : Type 0} → Reading A → Found (List ℕ) → Found A
as_value read found = option_and_then (λ f. option_map (λ value. (value, f.1)) (option_and_then ended (read f.0))) found

record_by : {A : Type 0} (read : Reading A) (bytes : List ℕ) → record_at read bytes ≡ with_more (as_value read (counted_at w32 bytes))
record_by {A} read bytes = by_number (number_at w32 bytes)
  where
    by_number : (number : Found ℕ) → with_more (option_and_then (λ n. sized_at read n.0 n.1) number) ≡ with_more (as_value read (option_and_then (λ n. bytes_at n.0 n.1) number))
    by_number None = refl
    by_number (Some n) = refl

none_by : {A : Type 0} (read : Reading A) (found : Found (List ℕ)) → with_more found ≡ None → with_more (as_value read found) ≡ None
none_by read None is = refl
none_by {A} read (Some found) is = by_rest (length found.1 == 0) refl
  where
    by_value : (value : Option A) → (length found.1 == 0) ≡ true → with_more (option_map (λ v. let both : A × List ℕ = (v, found.1) in both) value) ≡ None
    by_value None empty = refl
    by_value (Some v) empty = rw empty refl

    by_rest : (empty : Bool) → (length found.1 == 0) ≡ empty → with_more (as_value read (Some found)) ≡ None
    by_rest true empty = by_value (option_and_then ended (read found.0)) empty
    by_rest false some = let more : with_more (Some found) ≡ Some found = rw some refl in absurd (no_value (sym more ∙ is))
      where
        no_value : Some found ≡ None → ⊥
        no_value same = absurd (cc)

some_by : {A : Type 0} (read : Reading A) (found : Found (List ℕ)) (told rest : List ℕ) → with_more found ≡ Some (told, rest) → (found ≡ Some (told, rest)) × ((length rest == 0) ≡ false)
some_by read None told rest is = absurd (cc)
some_by read (Some found) told rest is = by_rest (length found.1 == 0) refl
  where
    by_rest : (empty : Bool) → (length found.1 == 0) ≡ empty → ◌≡◌ {A = Found (List ℕ)} (Some found) (Some (told, rest)) × ((length rest == 0) ≡ false)
    by_rest true empty = let none : with_more (Some found) ≡ None = rw empty refl in absurd (no_value (sym none ∙ is))
      where
        no_value : ◌≡◌ {A = Found (List ℕ)} None (Some (told, rest)) → ⊥
        no_value same = absurd (cc)
    by_rest false some =
        let more : with_more (Some found) ≡ Some found = rw some refl in
        let same : ◌≡◌ {A = Found (List ℕ)} (Some found) (Some (told, rest)) = sym more ∙ is in
        let behind = (some_pair_parts found.0 told found.1 rest same).1 in
        (same, ap (λ l. length l == 0) (sym behind) ∙ some)

-- no body stands there with a gate behind it
pub record_refused : {A : Type 0} (read : Reading A) (bytes : List ℕ) → leaving (counted_at w32) bytes ≡ None → record_at read bytes ≡ None
record_refused read bytes none = record_by read bytes ∙ none_by read (counted_at w32 bytes) none

-- a body that is read to its end
pub record_reads : {A : Type 0} (answer : Result A Stop) (read : Reading A) (bytes told rest : List ℕ) → leaving (counted_at w32) bytes ≡ Some (told, rest) → ReadsAll answer (read told) → Reads (λ x. x) answer rest (record_at read bytes)
record_reads {A} answer read bytes told rest is reads = by_answer answer reads
  where
    parts : (counted_at w32 bytes ≡ Some (told, rest)) × ((length rest == 0) ≡ false)
    parts = some_by read (counted_at w32 bytes) told rest is

    by_answer : (it : Result A Stop) → ReadsAll it (read told) → Reads (λ x. x) it rest (record_at read bytes)
    by_answer (Ok x) whole = record_by read bytes ∙ rw (parts.0, whole, parts.1) refl
    by_answer (Err stop.Malformed) refused = record_by read bytes ∙ rw (parts.0, not_ended (read told) refused) refl
    by_answer (Err (stop.Disk step)) reads = tt
    by_answer (Err stop.NoMemory) reads = tt
