-- The rows that a query finds stand in one run, which begins at the query's place.
use Rattle.std.proofs.Common.{◌≡◌, Bool, true, false, ◌&&◌, ◌==◌, not, cond, List, [], ◌∷◌, filter, Ordering, Less, Equal, Greater, is_eq, is_lt, is_le, nat_cmp, refl, sym, ap, subst, ◌∙◌}
use Rattle.std.proofs.lemmas.Bool.{and_from, and_left, and_parts, false_from_ne_true, false≢true}
use Rattle.std.specs.BTreeMap.Range.{entries_between}
use Rattle.std.specs.declared.ops.Bound.TheVariants.{Included, Unbounded}
use Rattle.std.specs.Cmp.{nat_cmp_total, tied_itself, unsigned_Decides, unsigned_ties}
use Rattle.std.specs.List.{list_all}
use Rattle.std.specs.Ordering.{ordering_then, ordering_reverse}
use Rattle.base_bytes.specs.KeyOrder.{is_key, key_order, keys_order}
use Rattle.base_bytes.specs.declared.value.Value.{Value}
use Rattle.fact_store.specs.declared.row.Row.{Row}
use Rattle.fact_store.specs.declared.wanted.Wanted.{Wanted}
use Rattle.fact_store.specs.Matching.{begins_with, has_named, is_within, matches, selected}
use Rattle.fact_store.specs.working.Orders.{key_order_total, wanted_order}
use Rattle.fact_store.specs.Rows.{are_keys, is_base, is_before, place_order}
use Rattle.fact_store.specs.Sameness.{same_value}
use Rattle.fact_store.specs.Stored.{row_of, rows_of}
use Rattle.fact_store.proofs.Bases.{base-filter, base_parts}
use Rattle.fact_store.proofs.Lists.{all_pass, all_weaker, filter-filter, filter_none}
use Rattle.fact_store.proofs.Places.{key_ties}
use Rattle.fact_store.proofs.Sameness.{same_value_decides}
use Rattle.fact_store.proofs.Writing.{Entry}

-- the row doesn't stand before the query's place
abbrev pub is_from : Wanted → Row → Bool
is_from wanted row = is_le (place_order wanted.fact wanted.keys row.fact row.keys)

-- ---- keys that begin with others don't stand before them

prefix_le : (keys others : List Value) → begins_with keys others ≡ true → is_le (keys_order keys others) ≡ true
prefix_le [] [] is = refl
prefix_le [] (other ∷ others) is = refl
prefix_le (key ∷ keys) [] is = absurd (false≢true is)
prefix_le (key ∷ keys) (other ∷ others) is =
    let parts = and_parts (same_value key other) (begins_with keys others) is in
    let same : key ≡ other = (same_value_decides key other).0 parts.0 in
    let tied : key_order key other ≡ Equal = ap (key_order key) (sym same) ∙ tied_itself key_order_total key in
    rw tied (prefix_le keys others parts.1)

pub from_within : (wanted : Wanted) (row : Row) → is_within wanted row ≡ true → is_from wanted row ≡ true
from_within wanted row is =
    let parts = and_parts (wanted.fact == row.fact) (begins_with wanted.keys row.keys) is in
    let tied : nat_cmp wanted.fact row.fact ≡ Equal = equal (nat_cmp wanted.fact row.fact) (sym (unsigned_ties wanted.fact row.fact) ∙ parts.0) in
    rw tied (prefix_le wanted.keys row.keys parts.1)
  where
    equal : (o : Ordering) → is_eq o ≡ true → o ≡ Equal
    equal Less is = absurd (false≢true is)
    equal Equal is = refl
    equal Greater is = absurd (false≢true is)

-- ---- behind the rows of a query's place there are no more of them

prefix_between : (keys mids others : List Value) → are_keys keys ≡ true → begins_with keys others ≡ true → is_le (keys_order keys mids) ≡ true → is_lt (keys_order mids others) ≡ true → begins_with keys mids ≡ true
prefix_between [] mids others are begins from before = refl
prefix_between (key ∷ keys) mids [] are begins from before = absurd (false≢true begins)
prefix_between (key ∷ keys) [] (other ∷ others) are begins from before = absurd (false≢true from)
prefix_between (key ∷ keys) (mid ∷ mids) (other ∷ others) are begins from before =
    let parts = and_parts (is_key key) (are_keys keys) are in
    let heads = and_parts (same_value key other) (begins_with keys others) begins in
    let same : key ≡ other = (same_value_decides key other).0 heads.0 in
    let back : key_order mid other ≡ ordering_reverse (key_order key mid) = ap (key_order mid) (sym same) ∙ key_order_total.antisymm mid key in
    by (key_order key mid) refl back parts.0 from before (prefix_between keys mids others parts.1 heads.1)
  where
    by : (o : Ordering) → key_order key mid ≡ o → key_order mid other ≡ ordering_reverse o → is_key key ≡ true → is_le (ordering_then o (keys_order keys mids)) ≡ true
        → is_lt (ordering_then (key_order mid other) (keys_order mids others)) ≡ true
        → (is_le (keys_order keys mids) ≡ true → is_lt (keys_order mids others) ≡ true → begins_with keys mids ≡ true) → begins_with (key ∷ keys) (mid ∷ mids) ≡ true
    by Less is back may from before more = absurd (false≢true (sym (ap (λ p. is_lt (ordering_then p (keys_order mids others))) back) ∙ before))
    by Equal is back may from before more =
        and_from _ _ (sym (key_ties key mid may) ∙ ap is_eq is) (more from (sym (ap (λ p. is_lt (ordering_then p (keys_order mids others))) back) ∙ before))
    by Greater is back may from before more = absurd (false≢true from)

within_between : (wanted : Wanted) (row other : Row) → are_keys wanted.keys ≡ true → is_from wanted row ≡ true → is_before row other ≡ true → is_within wanted other ≡ true → is_within wanted row ≡ true
within_between wanted row other are from before within =
    let parts = and_parts (wanted.fact == other.fact) (begins_with wanted.keys other.keys) within in
    let same : wanted.fact ≡ other.fact = (unsigned_Decides wanted.fact other.fact).0 parts.0 in
    let back : nat_cmp row.fact other.fact ≡ ordering_reverse (nat_cmp wanted.fact row.fact) = ap (nat_cmp row.fact) (sym same) ∙ nat_cmp_total.antisymm row.fact wanted.fact in
    by (nat_cmp wanted.fact row.fact) refl back from before parts.1
  where
    by : (o : Ordering) → nat_cmp wanted.fact row.fact ≡ o → nat_cmp row.fact other.fact ≡ ordering_reverse o → is_le (ordering_then o (keys_order wanted.keys row.keys)) ≡ true
        → is_lt (ordering_then (nat_cmp row.fact other.fact) (keys_order row.keys other.keys)) ≡ true → begins_with wanted.keys other.keys ≡ true → is_within wanted row ≡ true
    by Less is back from before begins = absurd (false≢true (sym (ap (λ p. is_lt (ordering_then p (keys_order row.keys other.keys))) back) ∙ before))
    by Equal is back from before begins =
        and_from _ _ (unsigned_ties wanted.fact row.fact ∙ ap is_eq is)
        (prefix_between wanted.keys row.keys other.keys are begins from (sym (ap (λ p. is_lt (ordering_then p (keys_order row.keys other.keys))) back) ∙ before))
    by Greater is back from before begins = absurd (false≢true from)

-- ---- runs

-- rows of a base, none of which stands before the query's place
pub record IsRun (wanted : Wanted) (rows : List Row) : Type 0 where
  pub from : list_all (is_from wanted) rows ≡ true
  pub base : is_base rows ≡ true

pub run_rest : (wanted : Wanted) (row : Row) (rows : List Row) → IsRun wanted (row ∷ rows) → IsRun wanted rows
run_rest wanted row rows run = record { from = (and_parts (is_from wanted row) (list_all (is_from wanted) rows) run.from).1; base = (base_parts row rows run.base).rest }

-- the first row that isn't of the query's place ends it
pub run_ends : (wanted : Wanted) (row : Row) (rows : List Row) → are_keys wanted.keys ≡ true → IsRun wanted (row ∷ rows) → is_within wanted row ≡ false → selected wanted (row ∷ rows) ≡ []
run_ends wanted row rows are run without =
    let from = (and_parts (is_from wanted row) (list_all (is_from wanted) rows) run.from).0 in
    let first : not (matches wanted row) ≡ true = ap not (and_left (is_within wanted row) (has_named wanted.values row.values) without) in
    let rest : list_all (λ other. not (matches wanted other)) rows ≡ true =
    all_weaker (is_before row) (λ other. not (matches wanted other))
    (λ other before. ap not (and_left (is_within wanted other) (has_named wanted.values other.values)
    (false_from_ne_true (is_within wanted other) (λ within. false≢true (sym without ∙ within_between wanted row other are from before within)))))
    rows (base_parts row rows run.base).first in
    filter_none (matches wanted) (row ∷ rows) (and_from _ _ first rest)

and_true : (b : Bool) → (b && true) ≡ b
and_true true = refl
and_true false = refl

-- the map's range from the query's place on
pub rows-between : (wanted : Wanted) (es : List Entry) → rows_of (entries_between wanted_order (Included wanted) Unbounded es) ≡ filter (is_from wanted) (rows_of es)
rows-between wanted [] = refl
rows-between wanted (e ∷ es) = by (is_from wanted (row_of e)) (rows-between wanted es)
  where
    by : (b : Bool) → rows_of (entries_between wanted_order (Included wanted) Unbounded es) ≡ filter (is_from wanted) (rows_of es)
        → rows_of (cond (b && true) (e ∷ entries_between wanted_order (Included wanted) Unbounded es) (entries_between wanted_order (Included wanted) Unbounded es)) ≡ cond b (row_of e ∷ filter (is_from wanted) (rows_of es)) (filter (is_from wanted) (rows_of es))
    by true more = ap (λ rest. row_of e ∷ rest) more
    by false more = more

-- is a run, which holds all that the query finds
pub run_begins : (wanted : Wanted) (es rest : List Entry) → is_base (rows_of es) ≡ true → rest ≡ entries_between wanted_order (Included wanted) Unbounded es → IsRun wanted (rows_of rest)
run_begins wanted es rest base is =
    let rows : filter (is_from wanted) (rows_of es) ≡ rows_of rest = sym (ap rows_of is ∙ rows-between wanted es) in
    subst (IsRun wanted) rows (record { from = all_pass (is_from wanted) (rows_of es); base = base-filter (is_from wanted) (rows_of es) base })

pub run_selects : (wanted : Wanted) (es rest : List Entry) → rest ≡ entries_between wanted_order (Included wanted) Unbounded es → selected wanted (rows_of rest) ≡ selected wanted (rows_of es)
run_selects wanted es rest is =
    ap (selected wanted) (ap rows_of is ∙ rows-between wanted es)
    ∙ filter-filter (matches wanted) (is_from wanted) (λ row found. from_within wanted row (and_parts (is_within wanted row) (has_named wanted.values row.values) found).0) (rows_of es)

-- an entry that isn't of the query's place ends the map's range
pub run_over : (wanted : Wanted) (e : Entry) (es rest : List Entry) → are_keys wanted.keys ≡ true → IsRun wanted (rows_of rest) → rest ≡ e ∷ es → is_within wanted (row_of e) ≡ false → selected wanted (rows_of rest) ≡ []
run_over wanted e es rest are run is without =
    ap (λ (all : List Entry). selected wanted (rows_of all)) is ∙ run_ends wanted (row_of e) (rows_of es) are (subst (λ (all : List Entry). IsRun wanted (rows_of all)) is run) without
