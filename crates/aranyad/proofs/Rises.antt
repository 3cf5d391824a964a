-- Counts of faults that rose, along a run of several parts.
use Rattle.std.proofs.Common.{◌≡◌, ℕ, ◌≤◌, Bool, List, [], ◌∷◌, length, Result, refl, sym, subst, ◌∙◌, inl, inr, ⊎_elim, arith}
use Rattle.outside.specs.Causes.{Rose}
use Rattle.world.specs.Stops.{AreAsHonest, HasCause, NoneFell, SomeRose}
use Rattle.world.specs.declared.stop.RunStop.{RunStop}
use Rattle.world.specs.declared.stop.RunStop.TheVariants as stop
use Rattle.aranyad.specs.Ending.{AreLater, LinesHalt}
use Rattle.aranyad.specs.working.Following.{StopHalts}
use Rattle.aranyad.specs.declared.ending.Ending.{Ending}
use Rattle.aranyad.specs.declared.ending.Halt.{Halt}

rose_from : (a b c : ℕ) → a ≤ b → Rose b c → Rose a c
rose_from a b c up rose = omega (arith, up, rose)

module _ {D : Type 0} (faults : D → ℕ) where
  pub some_rose_from : (old mid new : List D) → NoneFell faults old mid → SomeRose faults mid new → SomeRose faults old new
  some_rose_from [] [] new fell rose = absurd rose
  some_rose_from [] (m ∷ ms) new fell rose = absurd fell
  some_rose_from (d ∷ ds) [] new fell rose = absurd fell
  some_rose_from (d ∷ ds) (m ∷ ms) [] fell rose = absurd rose
  some_rose_from (d ∷ ds) (m ∷ ms) (e ∷ es) fell rose = ⊎_elim (λ here. inl (rose_from (faults d) (faults m) (faults e) fell.0 here)) (λ there. inr (some_rose_from ds ms es fell.1 there)) rose

  none_fell : (disks : List D) → NoneFell faults disks disks
  none_fell [] = tt
  none_fell (d ∷ ds) = (omega arith, none_fell ds)

  none_fell_from : (old mid new : List D) → NoneFell faults old mid → NoneFell faults mid new → NoneFell faults old new
  none_fell_from [] [] new one two = two
  none_fell_from [] (m ∷ ms) new one two = absurd one
  none_fell_from (d ∷ ds) [] new one two = absurd one
  none_fell_from (d ∷ ds) (m ∷ ms) [] one two = absurd two
  none_fell_from (d ∷ ds) (m ∷ ms) (e ∷ es) one two = (omega (arith, one.0, two.0), none_fell_from ds ms es one.1 two.1)

  pub as_many : (old new : List D) → NoneFell faults old new → length new ≡ length old
  as_many [] [] fell = refl
  as_many [] (e ∷ es) fell = absurd fell
  as_many (d ∷ ds) [] fell = absurd fell
  as_many (d ∷ ds) (e ∷ es) fell = let more = as_many ds es fell.1 in omega (arith, more)

-- ---- disks that were kept

module _ {D : Type 0} (honest : D → Bool) where
  as_honest : (disks : List D) → AreAsHonest honest disks disks
  as_honest [] = tt
  as_honest (d ∷ ds) = (refl, as_honest ds)

  as_honest_from : (old mid new : List D) → AreAsHonest honest old mid → AreAsHonest honest mid new → AreAsHonest honest old new
  as_honest_from [] [] new one two = two
  as_honest_from [] (m ∷ ms) new one two = absurd one
  as_honest_from (d ∷ ds) [] new one two = absurd one
  as_honest_from (d ∷ ds) (m ∷ ms) [] one two = absurd two
  as_honest_from (d ∷ ds) (m ∷ ms) (e ∷ es) one two = (two.0 ∙ one.0, as_honest_from ds ms es one.1 two.1)

module _ {D : Type 0} (faults : D → ℕ) (honest : D → Bool) where
  pub later_at_once : (disks : List D) → AreLater faults honest disks disks
  later_at_once disks = (none_fell faults disks, as_honest honest disks)

  pub later_from : (old mid new : List D) → AreLater faults honest old mid → AreLater faults honest mid new → AreLater faults honest old new
  later_from old mid new one two = (none_fell_from faults old mid new one.0 two.0, as_honest_from honest old mid new one.1 two.1)

  pub later_from_opening : (old mid new left : List D) → AreLater faults honest old mid → AreLater faults honest mid new → left ≡ new → AreLater faults honest old left
  later_from_opening old mid new left one two same = subst (AreLater faults honest old) (sym same) (later_from old mid new one two)

-- ---- a world that stopped

module _ {D : Type 0} (faults : D → ℕ) where
  rose_of_disk : (before now : ℕ) (old new : List D) (why : RunStop) → why ≡ stop.DiskFault → HasCause before now faults old new why → SomeRose faults old new
  rose_of_disk before now old new why is cause = subst (HasCause before now faults old new) is cause

  rose_of_seal : (before now : ℕ) (old new : List D) (why : RunStop) → why ≡ stop.SealFault → HasCause before now faults old new why → Rose before now
  rose_of_seal before now old new why is cause = subst (HasCause before now faults old new) is cause

  -- behind lines that ran
  pub stop_halts : (old mid new : List D) (s0 s1 s2 w0 w1 w2 : ℕ) (why : RunStop) (result : Result Ending Halt) → NoneFell faults old mid → s0 ≤ s1 → s1 ≤ s2 → w0 ≤ w1 → HasCause s1 s2 faults mid new why
      → StopHalts why w1 w2 result → LinesHalt (SomeRose faults old new) s0 s2 w0 w2 result
  stop_halts old mid new s0 s1 s2 w0 w1 w2 why result fell seals more writes cause halts = record {
    no_usage = halts.no_usage;
    later_seals = omega (arith, seals, more);
    later_writes = omega (arith, writes, halts.later);
    no_read = halts.no_read;
    disk = λ is. some_rose_from faults old mid new fell (rose_of_disk s1 s2 mid new why (halts.disk is) cause);
    seal = λ is. rose_from s0 s1 s2 seals (rose_of_seal s1 s2 mid new why (halts.seal is) cause);
    write = λ is. rose_from w0 w1 w2 writes (halts.write is);
  }

  -- before any line ran
  pub unopened_halts : (disks left : List D) (s w0 w1 : ℕ) (why : RunStop) (result : Result Ending Halt) → HasCause 0 0 faults disks left why → StopHalts why w0 w1 result
      → LinesHalt (SomeRose faults disks left) s s w0 w1 result
  unopened_halts disks left s w0 w1 why result cause halts = record {
    no_usage = halts.no_usage;
    later_seals = omega arith;
    later_writes = halts.later;
    no_read = halts.no_read;
    disk = λ is. rose_of_disk 0 0 disks left why (halts.disk is) cause;
    seal = λ is. absurd (omega (arith, rose_of_seal 0 0 disks left why (halts.seal is) cause));
    write = halts.write;
  }

  -- behind an opening
  pub halts_from : (old mid new left : List D) (s0 s1 w0 w1 : ℕ) (result : Result Ending Halt) → NoneFell faults old mid → left ≡ new → LinesHalt (SomeRose faults mid new) s0 s1 w0 w1 result
      → LinesHalt (SomeRose faults old left) s0 s1 w0 w1 result
  halts_from old mid new left s0 s1 w0 w1 result fell same halts = record {
    no_usage = halts.no_usage;
    later_seals = halts.later_seals;
    later_writes = halts.later_writes;
    no_read = halts.no_read;
    disk = λ is. subst (SomeRose faults old) (sym same) (some_rose_from faults old mid new fell (halts.disk is));
    seal = halts.seal;
    write = halts.write;
  }
