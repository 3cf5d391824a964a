-- Lists of what is separated by commas: what is written is read, and only that.
use Rattle.std.proofs.Common.{◌≡◌, ℕ, zero, suc, ◌<◌, ◌≤◌, List, [], ◌∷◌, ◌++◌, length, codes, Some, None, option_and_then, refl, sym, ap, ◌∙◌, subst, arith, append_assoc}
use Rattle.script.specs.Pieces.{Between, Bytes, Listed, Mark, Members}
use Rattle.script.specs.working.Readers.{Reader, after, listed, mark_at, members}
use Rattle.script.proofs.MarkLaws.{mark_finds, mark_reads, mark_shorter}
use Rattle.script.proofs.Options.{bind_then, chosen_then, none_some, same_some}
use Rattle.script.proofs.RunLaws.{spaces_read}

-- members that were read behind others
pub record AreFound {A : Type 0} (close : Bytes) (X : Between A) (found : List A) (bytes : Bytes) (p : List A × Bytes) : Type 0 where
  pub all : List A
  pub behind : p.0 ≡ found ++ all
  pub written : Members close X bytes p.1 all

-- what a reading of members has to be: at an end, what is written is read, is no closing mark and no longer than the bytes
pub record IsReadBefore {A : Type 0} (close : Bytes) (X : Between A) (one : Reader A) (End : Bytes → Type 0) : Type 0 where
  pub reads : (bytes rest : Bytes) (a : A) → X bytes rest a → End rest → one bytes ≡ Some (a, rest)
  pub opens : (bytes rest : Bytes) (a : A) → X bytes rest a → mark_at close bytes ≡ None
  pub shorter : (bytes rest : Bytes) (a : A) → X bytes rest a → length rest ≤ length bytes

module _ {A : Type 0} (close : Bytes) (X : Between A) (one : Reader A) where
  module _ (finds : (bytes : Bytes) (p : A × Bytes) → one bytes ≡ Some p → X bytes p.1 p.0) where
    pub members_find : (k : ℕ) (found : List A) (bytes : Bytes) (p : List A × Bytes) → members close one k found bytes ≡ Some p → AreFound close X found bytes p
    unfolding members
    members_find zero found bytes p is = none_some is
    members_find (suc k) found bytes p is = bind_then (one bytes) _ p is (λ a reads e.
        chosen_then (mark_at close a.1) (option_and_then (λ mid. members close one k (found ++ a.0 ∷ []) mid) (mark_at (codes ",") a.1)) (λ rest. Some (found ++ a.0 ∷ [], rest)) (Some p) e
        (λ none e. bind_then (mark_at (codes ",") a.1) _ p e (λ mid comma e.
        let more = members_find k (found ++ a.0 ∷ []) mid p e in
        record { all = a.0 ∷ more.all; behind = more.behind ∙ append_assoc found (a.0 ∷ []) more.all; written = Members.more (finds bytes a reads) (mark_finds (codes ",") a.1 mid comma) more.written }))
        (λ rest closes e. subst (AreFound close X found bytes) (same_some (found ++ a.0 ∷ [], rest) p e)
        (record { all = a.0 ∷ []; behind = refl; written = Members.last (finds bytes a reads) (mark_finds close a.1 rest closes) })))

    pub listed_finds : (bytes : Bytes) (p : List A × Bytes) → listed close one bytes ≡ Some p → Listed close X bytes p.1 p.0
    listed_finds bytes p is = chosen_then (mark_at close bytes) (members close one (length bytes) [] bytes) (λ rest. Some ([], rest)) (Some p) is
        (λ none e. let more = members_find (length bytes) [] bytes p e in Listed.some (subst (Members close X bytes p.1) (sym more.behind) more.written))
        (λ rest closes e. subst (λ (q : List A × Bytes). Listed close X bytes q.1 q.0) (same_some ([], rest) p e) (Listed.none (mark_finds close bytes rest closes)))

  module _ (End : Bytes → Type 0) (is_read : IsReadBefore close X one End) (some : 0 < length close)
      (closes : (mid rest : Bytes) → Mark close mid rest → End mid) (commas : (mid rest : Bytes) → Mark (codes ",") mid rest → End mid)
      (differs : (rest : Bytes) → after close (codes "," ++ rest) ≡ None) where
    no_close : (mid rest : Bytes) → Mark (codes ",") mid rest → mark_at close mid ≡ None
    no_close mid rest is = rw (spaces_read mid is.inner is.spaces, is.is) (differs rest)

    pub members_read : (bytes rest : Bytes) (all : List A) → Members close X bytes rest all → (k : ℕ) (found : List A) → length bytes ≤ k → members close one k found bytes ≡ Some (found ++ all, rest)
    unfolding members
    members_read bytes rest all (Members.last {mid = mid} {a = a} is mark) zero found room =
        let front = is_read.shorter bytes mid a is in let behind = mark_shorter close mid rest mark in absurd (omega (arith, room, front, behind, some))
    members_read bytes rest all (Members.last {mid = mid} {a = a} is mark) (suc k) found room =
        rw (is_read.reads bytes mid a is (closes mid rest mark), mark_reads close mid rest mark) refl
    members_read bytes rest all (Members.more {mid = mid} {next = next} {a = a} is mark others) zero found room =
        let front = is_read.shorter bytes mid a is in let behind = mark_shorter (codes ",") mid next mark in absurd (omega (arith, room, front, behind))
    members_read bytes rest all (Members.more {mid = mid} {next = next} {a = a} {others = more} is mark others) (suc k) found room =
        let front = is_read.shorter bytes mid a is in
        let behind = mark_shorter (codes ",") mid next mark in
        rw (is_read.reads bytes mid a is (commas mid next mark), no_close mid next mark, mark_reads (codes ",") mid next mark)
        (members_read next rest more others k (found ++ a ∷ []) (omega (arith, room, front, behind)) ∙ ap (λ all. Some (all, rest)) (append_assoc found (a ∷ []) more))

    members_open : (bytes rest : Bytes) (all : List A) → Members close X bytes rest all → mark_at close bytes ≡ None
    members_open bytes rest all (Members.last {mid = mid} {a = a} is mark) = is_read.opens bytes mid a is
    members_open bytes rest all (Members.more {mid = mid} {a = a} is mark others) = is_read.opens bytes mid a is

    pub listed_reads : (bytes rest : Bytes) (all : List A) → Listed close X bytes rest all → listed close one bytes ≡ Some (all, rest)
    listed_reads bytes rest all (Listed.none mark) = rw (mark_reads close bytes rest mark) refl
    listed_reads bytes rest all (Listed.some is) = rw (members_open bytes rest all is) (members_read bytes rest all is (length bytes) [] (omega arith))

    members_shorter : (bytes rest : Bytes) (all : List A) → Members close X bytes rest all → length rest ≤ length bytes
    members_shorter bytes rest all (Members.last {mid = mid} {a = a} is mark) =
        let front = is_read.shorter bytes mid a is in let behind = mark_shorter close mid rest mark in omega (arith, front, behind)
    members_shorter bytes rest all (Members.more {mid = mid} {next = next} {a = a} {others = more} is mark others) =
        let front = is_read.shorter bytes mid a is in let behind = mark_shorter (codes ",") mid next mark in let far = members_shorter next rest more others in omega (arith, front, behind, far)

    pub listed_shorter : (bytes rest : Bytes) (all : List A) → Listed close X bytes rest all → length rest ≤ length bytes
    listed_shorter bytes rest all (Listed.none mark) = let behind = mark_shorter close bytes rest mark in omega (arith, behind)
    listed_shorter bytes rest all (Listed.some is) = members_shorter bytes rest all is
