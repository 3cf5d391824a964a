-- What the writes do to rows, and what prefixes find.
use Rattle.std.proofs.Common.{◌≡◌, ℕ, ◌≤◌, Bool, true, false, ◌==◌, not, cond, if◌then◌else◌, List, [], ◌∷◌, length, map, filter, IfOk, Ok, Err, arith, refl, sym, ap, ◌∙◌}
use Rattle.std.proofs.lemmas.Bool.{and_from, and_parts, false≢true, or_parts}
use Rattle.std.specs.Cmp.{unsigned_Decides}
use Rattle.std.specs.List.{list_all, list_any}
use Rattle.base_bytes.specs.declared.value.Value.{Value}
use Rattle.fact_store.specs.declared.row.Row.{Row}
use Rattle.fact_store.specs.declared.wanted.Wanted.{Wanted}
use Rattle.fact_store.specs.declared.write_fault.WriteFault.TheVariants as fault
use Rattle.fact_store.specs.Laws.{IsElsewhere, LeavesAt, LeavesBase, LeavesTaken}
use Rattle.fact_store.specs.Matching.{begins_with, has_named, is_at, is_within, matches, selected}
use Rattle.fact_store.specs.Rows.{are_keys, is_base, is_before}
use Rattle.fact_store.specs.Sameness.{same_value, same_values}
use Rattle.fact_store.specs.Writes.{Outcome, created, deleted, is_other, is_there, revalued, updated, with_row}
use Rattle.fact_store.proofs.Bases.{base-filter, base-revalued, base-with_row, base_parts, none_at, placed, with_row-behind, with_row-front}
use Rattle.fact_store.proofs.Lists.{filter-filter, filter_none}
use Rattle.fact_store.proofs.Sameness.{same_value_decides, same_values_decide}

-- ---- outcomes

abbrev created_by : Row → List Row → Bool → Outcome
created_by row rows b = if b then Err fault.Exists else Ok (with_row row rows)

created_then : (P : List Row → Type 0) (row : Row) (rows : List Row) → (is_there row.fact row.keys rows ≡ false → P (with_row row rows)) → IfOk (created row rows) P
created_then P row rows so = by (is_there row.fact row.keys rows) so
  where
    by : (b : Bool) → (b ≡ false → P (with_row row rows)) → IfOk (created_by row rows b) P
    by true so = tt
    by false so = so refl

abbrev updated_by : Wanted → List Value → List Row → Bool → Bool → Outcome
updated_by old values rows a b = if not a then Err fault.Missing else if b then Err fault.Differs else Ok (map (revalued old.fact old.keys values) rows)

updated_then : (P : List Row → Type 0) (old : Wanted) (values : List Value) (rows : List Row) → P (map (revalued old.fact old.keys values) rows) → IfOk (updated old values rows) P
updated_then P old values rows so = by (is_there old.fact old.keys rows) (list_any (is_other old) rows)
  where
    by : (a b : Bool) → IfOk (updated_by old values rows a b) P
    by false b = tt
    by true true = tt
    by true false = so

abbrev deleted_by : ℕ → List Value → List Row → Bool → Outcome
deleted_by fact keys rows b = if b then Ok (filter (λ row. not (is_at fact keys row)) rows) else Err fault.Missing

deleted_then : (P : List Row → Type 0) (fact : ℕ) (keys : List Value) (rows : List Row) → P (filter (λ row. not (is_at fact keys row)) rows) → IfOk (deleted fact keys rows) P
deleted_then P fact keys rows so = by (is_there fact keys rows)
  where
    by : (b : Bool) → IfOk (deleted_by fact keys rows b) P
    by true = so
    by false = tt

-- ---- bases

pub create_leaves_base : (row : Row) (rows : List Row) → are_keys row.keys ≡ true → is_base rows ≡ true → LeavesBase (created row rows)
create_leaves_base row rows are base = created_then (λ after. is_base after ≡ true) row rows (λ none. base-with_row row rows are base)

pub update_leaves_base : (old : Wanted) (values : List Value) (rows : List Row) → is_base rows ≡ true → LeavesBase (updated old values rows)
update_leaves_base old values rows base = updated_then (λ after. is_base after ≡ true) old values rows (base-revalued old.fact old.keys values rows base)

pub delete_leaves_base : (fact : ℕ) (keys : List Value) (rows : List Row) → is_base rows ≡ true → LeavesBase (deleted fact keys rows)
delete_leaves_base fact keys rows base = deleted_then (λ after. is_base after ≡ true) fact keys rows (base-filter (λ row. not (is_at fact keys row)) rows base)

-- ---- a place

pub at_itself : (row : Row) → is_at row.fact row.keys row ≡ true
at_itself row = and_from _ _ ((unsigned_Decides row.fact row.fact).1 refl) ((same_values_decide row.keys row.keys).1 refl)

none_taken : (test : Row → Bool) (rows : List Row) → list_any test rows ≡ false → filter test rows ≡ []
none_taken test [] none = refl
none_taken test (row ∷ rows) none = let parts = or_parts (test row) (list_any test rows) none in rw parts.0 (none_taken test rows parts.1)

-- a row at a place names it
pub is_one_place : (fact : ℕ) (keys : List Value) (row : Row) → is_at fact keys row ≡ true → is_at fact keys ≡ is_at row.fact row.keys
is_one_place fact keys row is =
    let at = and_parts (fact == row.fact) (same_values keys row.keys) is in
    let one : fact ≡ row.fact = (unsigned_Decides fact row.fact).0 at.0 in
    let same : keys ≡ row.keys = (same_values_decide keys row.keys).0 at.1 in
    λ i. is_at (one i) (same i)

pub one_row : (fact : ℕ) (keys : List Value) (rows : List Row) → is_base rows ≡ true → length (filter (is_at fact keys) rows) ≤ 1
one_row fact keys [] base = omega arith
one_row fact keys (row ∷ rows) base = let parts = base_parts row rows base in by (is_at fact keys row) refl parts.keys parts.first (one_row fact keys rows parts.rest)
  where
    by : (b : Bool) → is_at fact keys row ≡ b → are_keys row.keys ≡ true → list_all (is_before row) rows ≡ true → length (filter (is_at fact keys) rows) ≤ 1 → length (cond b (row ∷ filter (is_at fact keys) rows) (filter (is_at fact keys) rows)) ≤ 1
    by true is are first more =
        let none : filter (is_at fact keys) rows ≡ [] = ap (λ (test : Row → Bool). filter test rows) (is_one_place fact keys row is) ∙ filter_none (is_at row.fact row.keys) rows (none_at row rows are first) in
        rw none (omega arith)
    by false is are first more = more

-- ---- create

module _ (row : Row) (are : are_keys row.keys ≡ true) where
  abbrev at : Row → Bool
  at = is_at row.fact row.keys

  pub leaves : (test : Row → Bool) (rows : List Row) → is_base rows ≡ true → list_any at rows ≡ false → test row ≡ false → filter test (with_row row rows) ≡ filter test rows
  leaves test [] base none lacks = rw lacks refl
  leaves test (first ∷ rows) base none lacks =
      let parts = base_parts first rows base in
      let apart = or_parts (at first) (list_any at rows) none in
      placed row first are apart.0
      (λ before. ap (filter test) (with_row-front row first rows base before) ∙ rw lacks refl)
      (λ behind. ap (filter test) (with_row-behind row first rows behind) ∙ by (test first) (leaves test rows parts.rest apart.1 lacks))
    where
      by : (b : Bool) → filter test (with_row row rows) ≡ filter test rows → cond b (first ∷ filter test (with_row row rows)) (filter test (with_row row rows)) ≡ cond b (first ∷ filter test rows) (filter test rows)
      by true more = ap (λ rest. first ∷ rest) more
      by false more = more

  pub stands : (rows : List Row) → is_base rows ≡ true → list_any at rows ≡ false → filter at (with_row row rows) ≡ row ∷ []
  stands [] base none = rw (at_itself row) refl
  stands (first ∷ rows) base none =
      let parts = base_parts first rows base in
      let apart = or_parts (at first) (list_any at rows) none in
      placed row first are apart.0
      (λ before. ap (filter at) (with_row-front row first rows base before) ∙ rw (at_itself row) (ap (λ rest. row ∷ rest) (none_taken at (first ∷ rows) none)))
      (λ behind. ap (filter at) (with_row-behind row first rows behind) ∙ rw apart.0 (stands rows parts.rest apart.1))

  pub create_leaves : (test : Row → Bool) (rows : List Row) → is_base rows ≡ true → test row ≡ false → LeavesTaken test rows (created row rows)
  create_leaves test rows base lacks = created_then (λ after. filter test after ≡ filter test rows) row rows (λ none. leaves test rows base none lacks)

  pub create_stands : (rows : List Row) → is_base rows ≡ true → LeavesAt row.fact row.keys (row ∷ []) (created row rows)
  create_stands rows base = created_then (λ after. filter at after ≡ row ∷ []) row rows (stands rows base)

-- ---- update

module _ (fact : ℕ) (keys values : List Value) where
  at_revalued : (row : Row) → is_at fact keys (revalued fact keys values row) ≡ is_at fact keys row
  at_revalued row = by (is_at fact keys row)
    where
      by : (b : Bool) → is_at fact keys (cond b (record row { values = values }) row) ≡ is_at fact keys row
      by true = refl
      by false = refl

  pub taken-revalued : (test : Row → Bool) → IsElsewhere test fact keys → (rows : List Row) → filter test (map (revalued fact keys values) rows) ≡ filter test rows
  taken-revalued test elsewhere [] = refl
  taken-revalued test elsewhere (row ∷ rows) = by (is_at fact keys row) refl (at_revalued row) (taken-revalued test elsewhere rows)
    where
      by : (b : Bool) → is_at fact keys row ≡ b → is_at fact keys (revalued fact keys values row) ≡ is_at fact keys row → filter test (map (revalued fact keys values) rows) ≡ filter test rows
          → filter test (revalued fact keys values row ∷ map (revalued fact keys values) rows) ≡ filter test (row ∷ rows)
      by true is same more =
          let old : test row ≡ false = elsewhere row is in
          let new : test (revalued fact keys values row) ≡ false = elsewhere (revalued fact keys values row) (same ∙ is) in
          rw (new, old) more
      by false is same more = rw is (also (test row))
        where
          also : (b : Bool) → cond b (row ∷ filter test (map (revalued fact keys values) rows)) (filter test (map (revalued fact keys values) rows)) ≡ cond b (row ∷ filter test rows) (filter test rows)
          also true = ap (λ rest. row ∷ rest) more
          also false = more

  pub at-map-revalued : (rows : List Row) → filter (is_at fact keys) (map (revalued fact keys values) rows) ≡ map (revalued fact keys values) (filter (is_at fact keys) rows)
  at-map-revalued [] = refl
  at-map-revalued (row ∷ rows) = rw (at_revalued row) (by (is_at fact keys row) (at-map-revalued rows))
    where
      by : (b : Bool) → filter (is_at fact keys) (map (revalued fact keys values) rows) ≡ map (revalued fact keys values) (filter (is_at fact keys) rows)
          → cond b (revalued fact keys values row ∷ filter (is_at fact keys) (map (revalued fact keys values) rows)) (filter (is_at fact keys) (map (revalued fact keys values) rows)) ≡ map (revalued fact keys values) (cond b (row ∷ filter (is_at fact keys) rows) (filter (is_at fact keys) rows))
      by true more = ap (λ rest. revalued fact keys values row ∷ rest) more
      by false more = more

pub update_leaves : (test : Row → Bool) (old : Wanted) (values : List Value) (rows : List Row) → IsElsewhere test old.fact old.keys → LeavesTaken test rows (updated old values rows)
update_leaves test old values rows elsewhere = updated_then (λ after. filter test after ≡ filter test rows) old values rows (taken-revalued old.fact old.keys values test elsewhere rows)

pub update_stands : (old : Wanted) (values : List Value) (rows : List Row) → LeavesAt old.fact old.keys (map (revalued old.fact old.keys values) (filter (is_at old.fact old.keys) rows)) (updated old values rows)
update_stands old values rows = updated_then (λ after. filter (is_at old.fact old.keys) after ≡ map (revalued old.fact old.keys values) (filter (is_at old.fact old.keys) rows)) old values rows (at-map-revalued old.fact old.keys values rows)

-- ---- delete

pub delete_leaves : (test : Row → Bool) (fact : ℕ) (keys : List Value) (rows : List Row) → IsElsewhere test fact keys → LeavesTaken test rows (deleted fact keys rows)
delete_leaves test fact keys rows elsewhere =
    deleted_then (λ after. filter test after ≡ filter test rows) fact keys rows (filter-filter test (λ row. not (is_at fact keys row)) (λ row holds. by (is_at fact keys row) (elsewhere row) holds) rows)
  where
    by : {row : Row} (b : Bool) → (b ≡ true → test row ≡ false) → test row ≡ true → not b ≡ true
    by true lacks holds = absurd (false≢true (sym (lacks refl) ∙ holds))
    by false lacks holds = refl

pub delete_stands : (fact : ℕ) (keys : List Value) (rows : List Row) → LeavesAt fact keys [] (deleted fact keys rows)
delete_stands fact keys rows = deleted_then (λ after. filter (is_at fact keys) after ≡ []) fact keys rows (gone rows)
  where
    gone : (rows : List Row) → filter (is_at fact keys) (filter (λ row. not (is_at fact keys row)) rows) ≡ []
    gone [] = refl
    gone (row ∷ rows) = by (is_at fact keys row) refl (gone rows)
      where
        by : (b : Bool) → is_at fact keys row ≡ b → filter (is_at fact keys) (filter (λ row. not (is_at fact keys row)) rows) ≡ []
            → filter (is_at fact keys) (cond (not b) (row ∷ filter (λ row. not (is_at fact keys row)) rows) (filter (λ row. not (is_at fact keys row)) rows)) ≡ []
        by true is more = more
        by false is more = rw is more

-- ---- prefixes

begins-trans : (xs ys zs : List Value) → begins_with xs ys ≡ true → begins_with ys zs ≡ true → begins_with xs zs ≡ true
begins-trans [] ys zs first second = refl
begins-trans (x ∷ xs) [] zs first second = absurd (false≢true first)
begins-trans (x ∷ xs) (y ∷ ys) [] first second = absurd (false≢true second)
begins-trans (x ∷ xs) (y ∷ ys) (z ∷ zs) first second =
    let here = and_parts (same_value x y) (begins_with xs ys) first in
    let there = and_parts (same_value y z) (begins_with ys zs) second in
    and_from _ _ ((same_value_decides x z).1 ((same_value_decides x y).0 here.0 ∙ (same_value_decides y z).0 there.0)) (begins-trans xs ys zs here.1 there.1)

pub prefixes : (shorter longer : Wanted) (rows : List Row) → shorter.fact ≡ longer.fact → begins_with shorter.keys longer.keys ≡ true
    → ((values : List Value) → has_named longer.values values ≡ true → has_named shorter.values values ≡ true) → selected longer (selected shorter rows) ≡ selected longer rows
prefixes shorter longer rows same begins names =
    filter-filter (matches longer) (matches shorter) (λ row found.
    let parts = and_parts (is_within longer row) (has_named longer.values row.values) found in
    let within = and_parts (longer.fact == row.fact) (begins_with longer.keys row.keys) parts.0 in
    and_from _ _ (and_from _ _ (ap (λ fact. fact == row.fact) same ∙ within.0) (begins-trans shorter.keys longer.keys row.keys begins within.1)) (names row.values parts.1)) rows
