-- From one closed list to another there is one batch.
use Rattle.std.proofs.Common.{◌≡◌, ℕ, zero, suc, ◌+◌, ◌≤◌, inl, inr, Bool, true, false, List, [], ◌∷◌, ◌++◌, map, take, drop, refl, sym, ap, subst, ◌∙◌, arith}
use Rattle.std.specs.List.{Contains}
use Rattle.std.specs.Str.{bytes_eq}
use Rattle.std.proofs.lemmas.List.Elements.{Contains-append_left}
use Rattle.braid.proofs.Agreement.{one_braid}
use Rattle.braid.proofs.Existence.{some_braid}
use Rattle.braid.proofs.Gathering.{place_of_member}
use Rattle.braid_run.specs.Batches.{IsBatch, IsCommonPrefix, IsCut, shared_entries}
use Rattle.braid_run.specs.Laws.{HasOneBatch}
use Rattle.braid_run.specs.RunOf.{AreEntriesOf}
use Rattle.braid_run.specs.Runs.{no_run, run_of}
use Rattle.braid_run.specs.declared.entry.Entry.{Entry}
use Rattle.braid_run.proofs.RunFacts.{run_names}
use Rattle.command.specs.Closed.{IsClosed}
use Rattle.command.specs.Wire.{IsFormed, IsWire, command_id, wire}
use Rattle.command.specs.declared.command.Command.{Command}
use Rattle.command.proofs.ClosedFacts.{bytes_of_same, same_by_id, same_bytes}
use Rattle.command.proofs.KnownAncestors.{Known, known_id}
use Rattle.command.proofs.ListFacts.{at_head, behind_head}
use Rattle.command.proofs.PlaceFacts.{next_at}
use Rattle.command.proofs.WireLaws.{commands}
use Rattle.policy_ast.specs.declared.policy.PlacedItem.{PlacedItem}

formed_in : (cs : List Command) → IsClosed cs → (x : Command) → Contains cs x → IsFormed x
formed_in cs closed x inside = let place = place_of_member cs closed x inside in (next_at cs closed place.0 x place.1).formed

-- whether two commands are one, by their bytes
known_one : (x y : Command) → IsFormed x → IsFormed y → Known (x ≡ y)
known_one x y formed also =
    elim (known_id (wire x) (wire y)) [
      | inl same ↦ inl (commands.one_value x y (wire y) (subst (λ bytes. IsWire x bytes) same formed) also)
      | inr differ ↦ inr (λ one. differ (ap wire one))
    ]

none_in_common : (xs ys : List Command) → ((n : ℕ) → IsCommonPrefix xs ys n → n ≤ 0) → IsCut xs ys 0
none_in_common xs ys longest = record { common = record { within = (omega arith, omega arith); alike = refl }; longest = longest }

module _ (x y : Command) (xs ys : List Command) where
  one_further : (cut : ℕ) → IsCut xs ys cut → x ≡ y → IsCut (x ∷ xs) (y ∷ ys) (suc cut)
  one_further cut is same = record {
    common = record {
      within = (omega (arith, is.common.within), omega (arith, is.common.within));
      alike = ap (λ l. x ∷ l) is.common.alike ∙ ap (λ z. z ∷ take cut ys) same;
    };
    longest = further;
  }
    where
      further : (n : ℕ) → IsCommonPrefix (x ∷ xs) (y ∷ ys) n → n ≤ suc cut
      further zero also = omega arith
      further (suc n) also =
          let heads = also.alike in
          let tails : take n xs ≡ take n ys = cc in
          let most = is.longest n (record { within = (omega (arith, also.within), omega (arith, also.within)); alike = tails }) in omega (arith, most)

  none_further : (x ≡ y → ⊥) → IsCut (x ∷ xs) (y ∷ ys) 0
  none_further differ = none_in_common (x ∷ xs) (y ∷ ys) longest
    where
      longest : (n : ℕ) → IsCommonPrefix (x ∷ xs) (y ∷ ys) n → n ≤ 0
      longest zero also = omega arith
      longest (suc n) also = let alike = also.alike in let heads : x ≡ y = cc in absurd (differ heads)

-- where two lists part
some_cut : (xs ys : List Command) → ((x y : Command) → Contains xs x → Contains ys y → Known (x ≡ y)) → (cut : ℕ) × IsCut xs ys cut
some_cut [] ys known = (0, none_in_common [] ys (λ n is. is.within.0))
some_cut (x ∷ xs) [] known = (0, none_in_common (x ∷ xs) [] (λ n is. is.within.1))
some_cut (x ∷ xs) (y ∷ ys) known =
    elim (known x y (at_head x xs) (at_head y ys)) [
      | inl same ↦ let rest = some_cut xs ys (λ a b h k. known a b (behind_head x xs a h) (behind_head y ys b k)) in (suc rest.0, one_further x y xs ys rest.0 rest.1 same)
      | inr differ ↦ (0, none_further x y xs ys differ)
    ]

one_cut : (xs ys : List Command) (a b : ℕ) → IsCut xs ys a → IsCut xs ys b → a ≡ b
one_cut xs ys a b first second =
    let le = second.longest a first.common in
    let ge = first.longest b second.common in omega (arith, le, ge)

pub one_batch : (policy : List PlacedItem) (old new : List Command) → IsClosed old → IsClosed new → HasOneBatch policy old new
one_batch policy old new closed also = record {
  some =
      let before = some_braid old closed in
      let now = some_braid new also in
      let cut = some_cut before.0 now.0 (λ x y h k. known_one x y (formed_in old closed x ((before.1.holds x).0 h).0) (formed_in new also y ((now.1.holds y).0 k).0)) in (
        record { cut = cut.0; entries = drop cut.0 (run_of policy now.0).entries },
        record { before = before.0; was = before.1; now = now.0; is = now.1; cuts = cut.1; same_entries = refl },
      );
  one = λ a b first second.
      let same_before = one_braid old closed (λ x. Unit {0}) first.before second.before first.was second.was in
      let same_now = one_braid new also (λ x. Unit {0}) first.now second.now first.is second.is in
      let same_cut = one_cut second.before second.now a.cut b.cut (subst (λ l. IsCut second.before l a.cut) same_now (subst (λ l. IsCut l first.now a.cut) same_before first.cuts)) second.cuts in
      let same_entries : a.entries ≡ b.entries =
      first.same_entries ∙ ap (λ l. drop a.cut (run_of policy l).entries) same_now ∙ ap (λ n. drop n (run_of policy second.now).entries) same_cut ∙ sym second.same_entries in
      ap (λ n. record { cut = n; entries = a.entries }) same_cut ∙ ap (λ es. record { cut = b.cut; entries = es }) same_entries;
}

-- ---- the cut as the entries tell it

abbrev same_id : Entry → Entry → Bool
same_id one other = bytes_eq one.id other.id

-- where the first entries have one id, the first commands are one, and else they differ
next_shared : (x y : Command) (xs ys : List Command) (e f : Entry) (es fs : List Entry) → e.id ≡ command_id x → f.id ≡ command_id y → (command_id x ≡ command_id y → x ≡ y) →
    IsCut xs ys (shared_entries es fs) → IsCut (x ∷ xs) (y ∷ ys) (shared_entries (e ∷ es) (f ∷ fs))
next_shared x y xs ys e f es fs named also one rest = by (same_id e f) refl
  where
    by : (b : Bool) → same_id e f ≡ b → IsCut (x ∷ xs) (y ∷ ys) (shared_entries (e ∷ es) (f ∷ fs))
    by true is =
        let more : shared_entries (e ∷ es) (f ∷ fs) ≡ 1 + shared_entries es fs = rw is refl in
        let count : suc (shared_entries es fs) ≡ shared_entries (e ∷ es) (f ∷ fs) = omega (arith, more) in
        let same : command_id x ≡ command_id y = sym named ∙ same_bytes e.id f.id is ∙ also in
        subst (λ n. IsCut (x ∷ xs) (y ∷ ys) n) count (one_further x y xs ys (shared_entries es fs) rest (one same))
    by false is =
        let none : 0 ≡ shared_entries (e ∷ es) (f ∷ fs) = rw is refl in
        let differ : x ≡ y → ⊥ = λ same. let holds = bytes_of_same e.id f.id (named ∙ ap command_id same ∙ sym also) in absurd cc in
        subst (λ n. IsCut (x ∷ xs) (y ∷ ys) n) none (none_further x y xs ys differ)

shared_cut : (xs ys : List Command) (es fs : List Entry) → map (λ e. e.id) es ≡ map command_id xs → map (λ e. e.id) fs ≡ map command_id ys →
    ((x y : Command) → Contains xs x → Contains ys y → command_id x ≡ command_id y → x ≡ y) → IsCut xs ys (shared_entries es fs)
shared_cut [] ys [] fs named also one = none_in_common [] ys (λ n is. is.within.0)
shared_cut [] ys (e ∷ es) fs named also one = absurd cc
shared_cut (x ∷ xs) ys [] fs named also one = absurd cc
shared_cut (x ∷ xs) [] (e ∷ es) [] named also one = none_in_common (x ∷ xs) [] (λ n is. is.within.1)
shared_cut (x ∷ xs) [] (e ∷ es) (f ∷ fs) named also one = absurd cc
shared_cut (x ∷ xs) (y ∷ ys) (e ∷ es) [] named also one = absurd cc
shared_cut (x ∷ xs) (y ∷ ys) (e ∷ es) (f ∷ fs) named also one =
    let first : e.id ≡ command_id x = cc in
    let second : f.id ≡ command_id y = cc in
    let first_rest : map (λ e. e.id) es ≡ map command_id xs = cc in
    let second_rest : map (λ e. e.id) fs ≡ map command_id ys = cc in
    next_shared x y xs ys e f es fs first second (one x y (at_head x xs) (at_head y ys))
    (shared_cut xs ys es fs first_rest second_rest (λ a b h k. one a b (behind_head x xs a h) (behind_head y ys b k)))

pub found_batch : (policy : List PlacedItem) (old more : List Command) (entries news : List Entry) → IsClosed (old ++ more) → AreEntriesOf policy old entries → AreEntriesOf policy (old ++ more) news →
    IsBatch policy old (old ++ more) (record { cut = shared_entries entries news; entries = drop (shared_entries entries news) news })
found_batch policy old more entries news closed were are =
    let named : map (λ e. e.id) entries ≡ map command_id were.braid = ap (map (λ (e : Entry). e.id)) were.same_entries ∙ run_names policy no_run were.braid in
    let also : map (λ e. e.id) news ≡ map command_id are.braid = ap (map (λ (e : Entry). e.id)) are.same_entries ∙ run_names policy no_run are.braid in
    record {
      before = were.braid;
      was = were.is;
      now = are.braid;
      is = are.is;
      cuts =
          shared_cut were.braid are.braid entries news named also
          (λ x y h k. same_by_id (old ++ more) closed x y (Contains-append_left old more x ((were.is.holds x).0 h).0) ((are.is.holds y).0 k).0);
      same_entries = ap (drop (shared_entries entries news)) are.same_entries;
    }
