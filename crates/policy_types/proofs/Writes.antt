-- Typed changes leave typed facts and have typed effects.
use Rattle.std.proofs.Common.{◌≡◌, ◌==◌, ℕ, Bool, true, false, cond, not, ◌&&◌, List, [], ◌∷◌, map, slice_get, Option, Some, None, option_map, unwrap_or, refl, sym, ap, ◌∙◌}
use Rattle.std.specs.Prelude.{Ok, Err}
use Rattle.std.proofs.lemmas.Bool.{eqb-true, false≢true}
use Rattle.std.proofs.lemmas.List.Folds.{list_all-append}
use Rattle.std.specs.List.{filter, list_all, list_any}
use Rattle.base_bytes.proofs.Bools.{and_both, and_then}
use Rattle.base_bytes.specs.declared.value.Value.{Value}
use Rattle.fact_store.specs.Matching.{is_at}
use Rattle.fact_store.specs.Rows.{is_before}
use Rattle.fact_store.specs.Sameness.{same_values}
use Rattle.fact_store.specs.Writes.{Outcome, created, deleted, is_other, is_there, revalued, updated, with_row}
use Rattle.fact_store.specs.declared.row.Row.{Row}
use Rattle.fact_store.specs.declared.wanted.Wanted.{Wanted}
use Rattle.fact_store.specs.declared.write_fault.WriteFault.TheVariants as write_fault
use Rattle.policy_ast.specs.declared.item.Item.{Item}
use Rattle.policy_ast.specs.declared.item.Item.TheVariants as item
use Rattle.policy_meaning.specs.Applying.{Ended, Passes, Checks, Faults, Sticks, applied, with_effect, written}
use Rattle.policy_meaning.specs.Finish.{Change, Create, Update, Delete, Emit}
use Rattle.policy_meaning.specs.Typed.{are_fields_of, holds_at, is_effect_of, is_row_of, is_typed_row}
use Rattle.policy_meaning.specs.declared.effect.Effect.{Effect}
use Rattle.policy_types.proofs.Rows.{AreRows}
use Rattle.policy_types.specs.Listed.{AreTypedChanges, are_values_of}

pub all_filter : {A : Type 0} (p test : A → Bool) (xs : List A) → list_all p xs ≡ true → list_all p (filter test xs) ≡ true
all_filter p test [] all = refl
all_filter p test (x ∷ xs) all = and_then (p x) (list_all p xs) all (λ one more. by (test x) one (all_filter p test xs more))
  where
    by : (b : Bool) → p x ≡ true → list_all p (filter test xs) ≡ true → list_all p (cond b (x ∷ filter test xs) (filter test xs)) ≡ true
    by true one rest = and_both (p x) (list_all p (filter test xs)) one rest
    by false one rest = rest

pub all_map : {A : Type 0} (p : A → Bool) (f : A → A) → ((x : A) → p x ≡ true → p (f x) ≡ true) → (xs : List A) → list_all p xs ≡ true → list_all p (map f xs) ≡ true
all_map p f keeps [] all = refl
all_map p f keeps (x ∷ xs) all = and_then (p x) (list_all p xs) all (λ one more. and_both (p (f x)) (list_all p (map f xs)) (keeps x one) (all_map p f keeps xs more))

module _ (items : List Item) where
  abbrev row_typed : Row → Bool
  row_typed = is_typed_row items

  abbrev effect_typed : Effect → Bool
  effect_typed e = holds_at items e.effect (is_effect_of items e.fields)

  -- A block of these items passes with typed facts and effects, or ends early.
  abbrev pub EndsTyped : Ended → Type 0
  EndsTyped (Passes rows effects) = (list_all row_typed rows ≡ true) × (list_all effect_typed effects ≡ true)
  EndsTyped (Checks recall) = recall ≡ None
  EndsTyped (Faults kind) = Unit {0}
  EndsTyped Sticks = ⊥

  -- A write leaves typed facts, or isn't possible.
  abbrev LeavesTyped : Outcome → Type 0
  LeavesTyped (Ok rows) = AreRows items rows
  LeavesTyped (Err write_fault.NoMemory) = ⊥
  LeavesTyped (Err why) = Unit {0}

  written_ends : (outcome : Outcome) → LeavesTyped outcome → (next : List Row → Ended) → ((rows : List Row) → AreRows items rows → EndsTyped (next rows)) → EndsTyped (written outcome next)
  written_ends (Ok rows) leaves next go = go rows leaves
  written_ends (Err write_fault.Exists) leaves next go = tt
  written_ends (Err write_fault.Missing) leaves next go = tt
  written_ends (Err write_fault.Differs) leaves next go = tt
  written_ends (Err write_fault.NoMemory) leaves next go = absurd leaves

  with_row_typed : (row : Row) (rows : List Row) → row_typed row ≡ true → AreRows items rows → AreRows items (with_row row rows)
  with_row_typed row rows is are =
      let before : List Row = filter (λ other. is_before other row) rows in
      let behind : List Row = filter (is_before row) rows in
      list_all-append row_typed before (row ∷ behind)
      ∙ and_both (list_all row_typed before) (row_typed row && list_all row_typed behind) (all_filter row_typed (λ other. is_before other row) rows are)
      (and_both (row_typed row) (list_all row_typed behind) is (all_filter row_typed (is_before row) rows are))

  create_by : (b : Bool) (row : Row) (rows : List Row) → AreRows items (with_row row rows) → LeavesTyped (cond b (Err write_fault.Exists) (Ok (with_row row rows)))
  create_by true row rows are = tt
  create_by false row rows are = are

  revalued_by_item : (row : Row) (values : List Value) (o : Option Item) → unwrap_or (option_map (is_row_of items row) o) false ≡ true → unwrap_or (option_map (are_values_of items values) o) false ≡ true
      → unwrap_or (option_map (is_row_of items (record row { values = values })) o) false ≡ true
  revalued_by_item row values None is are = absurd (false≢true is)
  revalued_by_item row values (Some (item.Fact is_immutable name keys fields)) is are =
      and_then (are_fields_of items row.keys keys) (are_fields_of items row.values fields) is (λ ks vs. and_both (are_fields_of items row.keys keys) (are_fields_of items values fields) ks are)
  revalued_by_item row values (Some other) is are = absurd (false≢true is)

  revalued_by : (fact : ℕ) (keys values : List Value) (row : Row) → holds_at items fact (are_values_of items values) ≡ true → row_typed row ≡ true → (b : Bool) → is_at fact keys row ≡ b
      → row_typed (cond b (record row { values = values }) row) ≡ true
  revalued_by fact keys values row are is true at = and_then (fact == row.fact) (same_values keys row.keys) at (λ same more.
      revalued_by_item row values (slice_get items row.fact) is (ap (λ n. holds_at items n (are_values_of items values)) (sym (eqb-true fact row.fact same)) ∙ are))
  revalued_by fact keys values row are is false at = is

  update_by : (b c : Bool) (old : Wanted) (values : List Value) (rows : List Row) → AreRows items (map (revalued old.fact old.keys values) rows)
      → LeavesTyped (cond b (Err write_fault.Missing) (cond c (Err write_fault.Differs) (Ok (map (revalued old.fact old.keys values) rows))))
  update_by true c old values rows are = tt
  update_by false true old values rows are = tt
  update_by false false old values rows are = are

  delete_by : (b : Bool) (rows : List Row) → AreRows items rows → LeavesTyped (cond b (Ok rows) (Err write_fault.Missing))
  delete_by true rows are = are
  delete_by false rows are = tt

  with_effect_ends : (e : Effect) (ended : Ended) → effect_typed e ≡ true → EndsTyped ended → EndsTyped (with_effect e ended)
  with_effect_ends e (Passes rows effects) is ends = (ends.0, and_both (effect_typed e) (list_all effect_typed effects) is ends.1)
  with_effect_ends e (Checks recall) is ends = ends
  with_effect_ends e (Faults kind) is ends = ends
  with_effect_ends e Sticks is ends = ends

  pub applied_ends : (changes : List Change) → AreTypedChanges items changes → (rows : List Row) → AreRows items rows → EndsTyped (applied changes rows)
  applied_ends [] typed rows are = (are, refl)
  applied_ends (Create row ∷ more) typed rows are =
      written_ends (created row rows) (create_by (is_there row.fact row.keys rows) row rows (with_row_typed row rows typed.0.0 are)) (applied more) (applied_ends more typed.1)
  applied_ends (Update old values ∷ more) typed rows are =
      written_ends (updated old values rows)
      (update_by (not (is_there old.fact old.keys rows)) (list_any (is_other old) rows) old values rows
      (all_map row_typed (revalued old.fact old.keys values) (λ row is. revalued_by old.fact old.keys values row typed.0.0 is (is_at old.fact old.keys row) refl) rows are))
      (applied more) (applied_ends more typed.1)
  applied_ends (Delete fact keys ∷ more) typed rows are =
      written_ends (deleted fact keys rows)
      (delete_by (is_there fact keys rows) (filter (λ row. not (is_at fact keys row)) rows) (all_filter row_typed (λ row. not (is_at fact keys row)) rows are)) (applied more) (applied_ends more typed.1)
  applied_ends (Emit e ∷ more) typed rows are = with_effect_ends e (applied more rows) typed.0 (applied_ends more typed.1 rows are)
