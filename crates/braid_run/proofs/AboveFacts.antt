-- Runs from a base on.
use Rattle.std.proofs.Common.{◌≡◌, ℕ, suc, ◌+◌, if◌then◌else◌, take, get_or, eqb, ◌*◌, ◌<◌, ◌≤◌, ◌↔◌, inl, inr, Bool, true, false, List, [], ◌∷◌, ◌++◌, length, slice_get, Some, refl, sym, ap, subst, ◌∙◌, arith}
use Rattle.std.specs.List.{Contains, list_any}
use Rattle.std.specs.Str.{bytes_eq}
use Rattle.std.proofs.lemmas.List.Elements.{Contains-get_or, Contains-push_cases}
use Rattle.std.proofs.lemmas.Bool.Decides.{Decides-eqb}
use Rattle.braid.specs.Bases.{IsAbove}
use Rattle.braid.specs.Braids.{IsBraidOf, IsBraidUnder, picked}
use Rattle.braid.proofs.Agreement.{one_braid}
use Rattle.braid.proofs.BaseFacts.{parts_at}
use Rattle.braid.proofs.Carrying.{in_one_list}
use Rattle.braid.proofs.Closures.{all_under}
use Rattle.braid_run.specs.RunAbove.{AreAbove, AreAllUnder, AreRowsOfAll, AreRowsUnder, IsKeptBase, IsRunAbove, IsRunFrom}
use Rattle.braid_run.specs.RunOf.{IsRunUnder}
use Rattle.braid_run.specs.Runs.{no_run, run_from, run_of, run_on, with_command}
use Rattle.braid_run.specs.declared.entry.Entry.{Entry}
use Rattle.braid_run.proofs.RunFacts.{few_ticks, run_append}
use Rattle.command.specs.Ancestors.{Ancestor, IsAt, IsParent, IsUnder, heads, is_parent, places_without}
use Rattle.command.specs.Ancestors.Ancestor.{Parent, Further}
use Rattle.command.specs.Kinds.{parents_of}
use Rattle.command.specs.Wire.{command_id}
use Rattle.command.proofs.ClosedFacts.{bytes_of_same}
use Rattle.command.proofs.ListFacts.{head_cases, none_element}
use Rattle.command.proofs.PlaceFacts.{inside_at, one_place}
use Rattle.command.proofs.ReachFacts.{any_found, any_of}
use Rattle.braid.proofs.Gathering.{take_next}
use Rattle.command.specs.Closed.{IsClosed}
use Rattle.command.specs.declared.command.Command.{Command}
use Rattle.fact_store.specs.declared.row.Row.{Row}
use Rattle.policy_ast.specs.declared.policy.PlacedItem.{PlacedItem}

-- the facts of a run don't ask for the entries and the ticks before it
rows_alone : (policy : List PlacedItem) (rows : List Row) (one other : List Entry) (n m : ℕ) (cs : List Command) →
    (run_on policy (record { rows = rows; entries = one; ticks = n }) cs).rows ≡ (run_on policy (record { rows = rows; entries = other; ticks = m }) cs).rows
rows_alone policy rows one other n m [] = refl
rows_alone policy rows one other n m (c ∷ cs) =
    let next = with_command policy (record { rows = rows; entries = one; ticks = n }) c in
    let that = with_command policy (record { rows = rows; entries = other; ticks = m }) c in
    rows_alone policy next.rows next.entries that.entries next.ticks that.ticks cs

pub rows_on : (policy : List PlacedItem) (front rest : List Command) → (run_of policy (front ++ rest)).rows ≡ (run_on policy (run_from (run_of policy front).rows) rest).rows
rows_on policy front rest =
    ap (λ r. r.rows) (run_append policy no_run front rest)
    ∙ rows_alone policy (run_of policy front).rows (run_of policy front).entries [] (run_of policy front).ticks 0 rest

-- from the facts at a base on, the run comes to the facts of the tips' closure
pub kept_rows : (policy : List PlacedItem) (cs : List Command) → IsClosed cs → (tips : List ℕ) (place : ℕ) (start rows : List Row) (entries : List Entry) (before now : ℕ) → IsKeptBase policy cs tips place start →
    ((f : Command) → IsAt cs place f → IsRunAbove policy cs tips f start rows entries before now) → AreRowsUnder policy cs tips rows
kept_rows policy cs closed tips place start rows entries before now kept ran =
    let run = ran kept.f kept.at in
    record {
      braid = kept.same.braid ++ run.rest;
      is = (parts_at cs closed tips kept.f kept.base).joined kept.same.braid run.rest kept.same.is run.is;
      same_rows =
          run.run.same_rows ∙ ap (λ r. (run_on policy (run_from r) run.rest).rows) kept.same.same_rows ∙ sym (rows_on policy kept.same.braid run.rest);
    }

-- two ticks at most for each command
pub above_few : (policy : List PlacedItem) (cs : List Command) → IsClosed cs → (tips : List ℕ) (f : Command) (n : ℕ) → AreAbove cs tips f n → (rest : List Command) → IsBraidOf cs (IsAbove cs tips f) rest → (start : List Row) (before now : ℕ) →
    now ≤ before + (run_on policy (run_from start) rest).ticks → now ≤ before + 2 * n
above_few policy cs closed tips f n above rest is start before now within =
    let few : (run_on policy (run_from start) rest).ticks ≤ 0 + 2 * length rest = few_ticks policy (run_from start) rest in
    let size : length rest ≡ n = above rest is in
    omega (arith, within, few, size)

-- where the closure is all, its facts are those of all
pub all_rows : (policy : List PlacedItem) (cs : List Command) (tips : List ℕ) (rows other : List Row) → AreAllUnder cs tips → AreRowsOfAll policy cs rows → other ≡ rows → AreRowsUnder policy cs tips other
all_rows policy cs tips rows other all are same = record {
  braid = are.braid;
  is = (in_one_list cs (λ x. Unit {0}) (IsUnder cs tips) (λ x inside. ((λ h. all x inside), (λ h. tt))) are.braid).0 are.is;
  same_rows = same ∙ are.same_rows;
}

pub one_rows : (policy : List PlacedItem) (cs : List Command) → IsClosed cs → (tips : List ℕ) (one other : List Row) → AreRowsUnder policy cs tips one → AreRowsUnder policy cs tips other → one ≡ other
one_rows policy cs closed tips one other h k =
    h.same_rows ∙ ap (λ b. (run_of policy b).rows) (one_braid cs closed (IsUnder cs tips) h.braid k.braid h.is k.is) ∙ sym k.same_rows

-- ---- the heads are tips

head_was : (test : List ℕ → Bool) (n : ℕ) (cs : List Command) (p : ℕ) → Contains (places_without test n cs) p → (i : ℕ) × (x : Command) × (n + i ≡ p) × (slice_get cs i ≡ Some x) × (test (command_id x) ≡ false)
head_was test n [] p h = absurd (none_element p h)
head_was test n (c ∷ cs) p h = by (λ k. head_was test (n + 1) cs p k) (test (command_id c)) refl h
  where
    later : (i : ℕ) × (x : Command) × (n + 1 + i ≡ p) × (slice_get cs i ≡ Some x) × (test (command_id x) ≡ false) → (i : ℕ) × (x : Command) × (n + i ≡ p) × (slice_get (c ∷ cs) i ≡ Some x) × (test (command_id x) ≡ false)
    later r = (suc r.0, r.1, omega (arith, r.2), r.3, r.4)

    by : (Contains (places_without test (n + 1) cs) p → (i : ℕ) × (x : Command) × (n + 1 + i ≡ p) × (slice_get cs i ≡ Some x) × (test (command_id x) ≡ false)) → (b : Bool) → test (command_id c) ≡ b → Contains ((if b then [] else n ∷ []) ++ places_without test (n + 1) cs) p → (i : ℕ) × (x : Command) × (n + i ≡ p) × (slice_get (c ∷ cs) i ≡ Some x) × (test (command_id x) ≡ false)
    by more true is k = later (more k)
    by more false is k =
        elim (head_cases n (places_without test (n + 1) cs) p k) [
          | inl same ↦ (0, c, omega (arith, same), refl, is)
          | inr behind ↦ later (more behind)
        ]

first_link : (cs : List Command) (x w : Command) → Ancestor cs x w → (m : Command) × IsParent cs x m
first_link cs x w (Parent e) = (w, e)
first_link cs x w (Further {m = m} a e) = first_link cs x m a

-- nothing stands behind a head
head_command : (cs : List Command) (p : ℕ) → Contains (heads cs) p → (x : Command) × IsAt cs p x × ((w : Command) → Ancestor cs x w → ⊥)
head_command cs p h =
    let r = head_was (is_parent cs) 0 cs p h in (
      r.1,
      subst (λ q. IsAt cs q r.1) (plain r.0 p r.2) r.3,
      (λ w a.
          let child = first_link cs r.1 w a in
          let link : list_any (bytes_eq (command_id r.1)) (parents_of child.0) ≡ true = any_of (bytes_eq (command_id r.1)) (parents_of child.0) (command_id r.1) child.1.link (bytes_of_same (command_id r.1) (command_id r.1) refl) in
          let some : is_parent cs (command_id r.1) ≡ true = any_of (λ z. list_any (bytes_eq (command_id r.1)) (parents_of z)) cs child.0 child.1.newer link in
          let none = r.4 in absurd cc),
    )
  where
    plain : (i p : ℕ) → 0 + i ≡ p → i ≡ p
    plain i p same = omega (arith, same)

pub covered : (cs : List Command) → IsClosed cs → (tips : List ℕ) → ((p : ℕ) → Contains (heads cs) p → Contains tips p) ↔ AreAllUnder cs tips
covered cs closed tips = (
  (λ among x inside. let u = all_under cs closed x inside in (u.0, among u.0 u.1, u.2)),
  (λ all p head.
      let x = head_command cs p head in
      let u = all x.0 (inside_at cs p x.0 x.1) in
      elim u.2.2 [
        | inl same ↦ subst (λ q. Contains tips q) (one_place cs closed u.0 p x.0 (subst (λ z. IsAt cs u.0 z) (sym same) u.2.1) x.1) u.1
        | inr above ↦ absurd (x.2 u.2.0 above)
      ]),
)

-- a list has all of the others, found one by one
pub among_more : (places others : List ℕ) (k : ℕ) → k < length places → list_any (λ y. eqb y (get_or places k 0)) others ≡ true → ((p : ℕ) → Contains (take k places) p → Contains others p) → (p : ℕ) → Contains (take (k + 1) places) p → Contains others p
among_more places others k lt found so_far p h =
    let there = any_found (λ y. eqb y (get_or places k 0)) others found in
    elim (Contains-push_cases (take k places) (get_or places k 0) p (subst (λ l. Contains l p) (take_next places k lt) h)) [
      | inl before ↦ so_far p before
      | inr last ↦ subst (λ q. Contains others q) ((Decides-eqb there.0 (get_or places k 0)).0 there.2 ∙ last) there.1
    ]

-- one is missing
pub not_among : (places others : List ℕ) (k : ℕ) → k < length places → list_any (λ y. eqb y (get_or places k 0)) others ≡ false → ((p : ℕ) → Contains places p → Contains others p) → ⊥
not_among places others k lt missing all =
    let found : list_any (λ y. eqb y (get_or places k 0)) others ≡ true =
    any_of (λ y. eqb y (get_or places k 0)) others (get_or places k 0) (all (get_or places k 0) (Contains-get_or places k 0 lt)) ((Decides-eqb (get_or places k 0) (get_or places k 0)).1 refl) in
    absurd cc

-- ---- what the code has run

module _ (policy : List PlacedItem) (cs : List Command) (tips places lent : List ℕ) (same : lent ≡ places) (start rows : List Row) (entries : List Entry) (before now : ℕ) where
  -- from no facts, the whole braid
  module _ (none : start ≡ []) where
    pub run_whole : IsBraidUnder cs tips (picked cs places) → IsRunFrom policy start (picked cs lent) rows entries before now → IsRunUnder policy cs tips rows entries before now
    run_whole is run =
        let whole : run_on policy (run_from start) (picked cs lent) ≡ run_of policy (picked cs places) = ap (λ r. run_on policy (run_from r) (picked cs lent)) none ∙ ap (λ l. run_of policy (picked cs l)) same in
        record {
          braid = picked cs places;
          is = is;
          run = record {
            same_rows = run.same_rows ∙ ap (λ r. r.rows) whole;
            same_entries = run.same_entries ∙ ap (λ r. r.entries) whole;
            counted = run.counted ∙ ap (λ r. before + r.ticks) whole;
          };
        }

    pub most_whole : IsClosed cs → IsBraidUnder cs tips (picked cs places) → now ≤ before + (run_on policy (run_from start) (picked cs lent)).ticks → (braid : List Command) → IsBraidUnder cs tips braid → now ≤ before + (run_of policy braid).ticks
    most_whole closed is within braid other =
        let whole : run_on policy (run_from start) (picked cs lent) ≡ run_of policy braid =
        ap (λ r. run_on policy (run_from r) (picked cs lent)) none ∙ ap (λ l. run_of policy (picked cs l)) same ∙ ap (run_of policy) (one_braid cs closed (IsUnder cs tips) (picked cs places) braid is other) in
        subst (λ r. now ≤ before + r.ticks) whole within

  -- from facts at a base, what stands above
  module _ (base : ℕ) (is : (f : Command) → IsAt cs base f → IsBraidOf cs (IsAbove cs tips f) (picked cs places)) where
    pub above_is : IsRunFrom policy start (picked cs lent) rows entries before now → (f : Command) → IsAt cs base f → IsRunAbove policy cs tips f start rows entries before now
    above_is run f at = record { rest = picked cs places; is = is f at; run = subst (λ l. IsRunFrom policy start (picked cs l) rows entries before now) same run }

    pub above_most : IsClosed cs → now ≤ before + (run_on policy (run_from start) (picked cs lent)).ticks → (f : Command) (n : ℕ) → IsAt cs base f → AreAbove cs tips f n → now ≤ before + 2 * n
    above_most closed within f n at above =
        above_few policy cs closed tips f n above (picked cs places) (is f at) start before now (subst (λ l. now ≤ before + (run_on policy (run_from start) (picked cs l)).ticks) same within)
