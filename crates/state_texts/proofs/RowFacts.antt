-- The rows of one fact stand behind those of all facts before it.
use Rattle.std.proofs.Common.{◌≡◌, ℕ, ◌+◌, Bool, true, false, ◌==◌, nat_lt, List, [], ◌∷◌, ◌++◌, Option, Some, None, flat_map, length, slice_get, option_map, unwrap_or, refl, sym, ap, ◌∙◌, arith, IsTrue}
use Rattle.std.proofs.lemmas.Bool.{and_parts, eqb-false, eqb-true, false≢true, le-ltb, lt-ltb, ltb-false, ltb-true, ne_eqb}
use Rattle.std.proofs.lemmas.List.{length-map}
use Rattle.std.proofs.lemmas.Option.{slice_get_within}
use Rattle.std.specs.List.{list_all}
use Rattle.fact_store.specs.Rows.{are_keys, is_ascending, is_base, is_before}
use Rattle.fact_store.specs.declared.row.Row.{Row}
use Rattle.policy_ast.specs.declared.item.Item.{Item}
use Rattle.policy_ast.specs.declared.policy.PlacedItem.{PlacedItem}
use Rattle.policy_meaning.specs.Typed.{AreTyped, is_row_of, is_typed_row}
use Rattle.policy_rules.specs.WellTyped.{items_of}
use Rattle.state_texts.specs.Naming.{key_names, value_names}
use Rattle.state_texts.specs.States.{row_line}
use Rattle.state_texts.specs.working.Below.{row_line_of, rows_below, rows_of}

-- ---- a row that stands behind another is of no earlier fact

not_earlier : (row other : Row) → is_before row other ≡ true → nat_lt other.fact row.fact ≡ false
not_earlier row other before = by (nat_lt row.fact other.fact) (row.fact == other.fact) refl refl before
  where
    by : (less same : Bool) → nat_lt row.fact other.fact ≡ less → (row.fact == other.fact) ≡ same → is_before row other ≡ true → nat_lt other.fact row.fact ≡ false
    by true same less is before = le-ltb other.fact row.fact (omega (arith, ltb-true row.fact other.fact less))
    by false true less is before = le-ltb other.fact row.fact (omega (arith, eqb-true row.fact other.fact is))
    by false false less is before = absurd (false≢true (sym (rw less (rw is refl)) ∙ before))

none_below : (n : ℕ) (row : Row) (rows : List Row) → list_all (is_before row) rows ≡ true → nat_lt row.fact n ≡ false → rows_below n rows ≡ []
none_below n row [] before is = refl
none_below n row (other ∷ rows) before is =
    let parts = and_parts (is_before row other) (list_all (is_before row) rows) before in
    let above : nat_lt other.fact n ≡ false = le-ltb other.fact n (omega (arith, ltb-false other.fact row.fact (not_earlier row other parts.0), ltb-false row.fact n is)) in
    rw above (none_below n row rows parts.1 is)

next : (n : ℕ) (rows : List Row) → is_ascending rows ≡ true → rows_below (n + 1) rows ≡ rows_below n rows ++ rows_of n rows
next n [] is = refl
next n (row ∷ rows) is =
    let parts = and_parts (list_all (is_before row) rows) (is_ascending rows) is in
    by (nat_lt row.fact n) (n == row.fact) refl refl parts.0 (next n rows parts.1)
  where
    by : (less same : Bool) → nat_lt row.fact n ≡ less → (n == row.fact) ≡ same → list_all (is_before row) rows ≡ true → rows_below (n + 1) rows ≡ rows_below n rows ++ rows_of n rows
        → rows_below (n + 1) (row ∷ rows) ≡ rows_below n (row ∷ rows) ++ rows_of n (row ∷ rows)
    by true same less is before more =
        let below = ltb-true row.fact n less in
        let under : nat_lt row.fact (n + 1) ≡ true = lt-ltb row.fact (n + 1) (omega (arith, below)) in
        let other : (n == row.fact) ≡ false = ne_eqb n row.fact (omega (arith, below)) in
        rw under (rw less (rw other (ap (λ rs. row ∷ rs) more)))
    by false true less is before more =
        let under : nat_lt row.fact (n + 1) ≡ true = lt-ltb row.fact (n + 1) (omega (arith, eqb-true n row.fact is)) in
        let empty : rows_below n rows ≡ [] = none_below n row rows before less in
        rw under (rw less (rw is (rw empty (ap (λ rs. row ∷ rs) (more ∙ ap (λ rs. rs ++ rows_of n rows) empty)))))
    by false false less is before more =
        let out : nat_lt row.fact (n + 1) ≡ false = le-ltb row.fact (n + 1) (omega (arith, ltb-false row.fact n less, eqb-false n row.fact is)) in
        rw out (rw less (rw is more))

-- The rows of the facts up to one are those of the facts before it, and its own.
pub below_next : (n : ℕ) (rows : List Row) → IsTrue (is_base rows) → rows_below (n + 1) rows ≡ rows_below n rows ++ rows_of n rows
below_next n rows is = next n rows (and_parts (is_ascending rows) (list_all (λ row. are_keys row.keys) rows) is).0

-- Before the first item there are none.
pub below_none : (rows : List Row) → rows_below 0 rows ≡ []
below_none [] = refl
below_none (row ∷ rows) = rw (le-ltb row.fact 0 (omega arith)) (below_none rows)

-- ---- typed rows are of facts of the policy

is_within : (items : List Item) (row : Row) (found : Option Item) → slice_get items row.fact ≡ found → unwrap_or (option_map (is_row_of items row) found) false ≡ true → nat_lt row.fact (length items) ≡ true
is_within items row None is typed = absurd (false≢true typed)
is_within items row (Some i) is typed = lt-ltb row.fact (length items) (slice_get_within items row.fact i is)

all_within : (items : List Item) (rows : List Row) → list_all (is_typed_row items) rows ≡ true → rows_below (length items) rows ≡ rows
all_within items [] typed = refl
all_within items (row ∷ rows) typed =
    let parts = and_parts (is_typed_row items row) (list_all (is_typed_row items) rows) typed in
    rw (is_within items row (slice_get items row.fact) refl parts.0) (ap (λ rs. row ∷ rs) (all_within items rows parts.1))

-- All rows are of the policy's facts.
pub below_all : (policy : List PlacedItem) (rows : List Row) → AreTyped policy rows → rows_below (length policy) rows ≡ rows
unfolding AreTyped
below_all policy rows typed = sym (ap (λ n. rows_below n rows) (length-map policy (λ p. p.item))) ∙ all_within (items_of policy) rows typed

-- ---- the lines of the rows of one fact

-- Each of them has the names of that fact's keys and values.
pub lines_of : (items : List Item) (n : ℕ) (rows : List Row)
    → flat_map (row_line_of items (key_names (slice_get items n)) (value_names (slice_get items n))) (rows_of n rows) ≡ flat_map (row_line items) (rows_of n rows)
lines_of items n [] = refl
lines_of items n (row ∷ rows) = by (n == row.fact) refl (lines_of items n rows)
  where
    by : (same : Bool) → (n == row.fact) ≡ same
        → flat_map (row_line_of items (key_names (slice_get items n)) (value_names (slice_get items n))) (rows_of n rows) ≡ flat_map (row_line items) (rows_of n rows)
        → flat_map (row_line_of items (key_names (slice_get items n)) (value_names (slice_get items n))) (rows_of n (row ∷ rows)) ≡ flat_map (row_line items) (rows_of n (row ∷ rows))
    by false is more = rw is more
    by true is more =
        let same : n ≡ row.fact = eqb-true n row.fact is in
        rw is (λ i. row_line_of items (key_names (slice_get items (same i))) (value_names (slice_get items (same i))) row ++ more i)
