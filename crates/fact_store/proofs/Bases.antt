-- The rows of a base stay one, whatever is written.
use Rattle.std.proofs.Common.{◌≡◌, ℕ, Bool, true, false, ◌&&◌, not, cond, List, [], ◌∷◌, ◌++◌, map, filter, Ordering, Less, Equal, Greater, is_eq, is_lt, refl, sym, ap, ◌∙◌}
use Rattle.std.proofs.lemmas.Bool.{and_from, and_parts, false≢true}
use Rattle.std.specs.List.{list_all}
use Rattle.base_bytes.specs.declared.value.Value.{Value}
use Rattle.fact_store.specs.declared.row.Row.{Row}
use Rattle.fact_store.specs.Matching.{is_at}
use Rattle.fact_store.specs.Rows.{are_keys, is_ascending, is_base, is_before}
use Rattle.fact_store.specs.Writes.{revalued, with_row}
use Rattle.fact_store.proofs.Lists.{all-append, all-filter, all_pass, all_weaker, filter_all, filter_none}
use Rattle.fact_store.proofs.Places.{before_from_Greater, before_trans, not_at, not_before, row_order, row_ties}

abbrev pub has_keys : Row → Bool
has_keys row = are_keys row.keys

-- what a base says of its first row and of the others
pub record IsBase (row : Row) (rows : List Row) : Type 0 where
  pub first : list_all (is_before row) rows ≡ true
  pub keys : are_keys row.keys ≡ true
  pub rest : is_base rows ≡ true

pub base_parts : (row : Row) (rows : List Row) → is_base (row ∷ rows) ≡ true → IsBase row rows
base_parts row rows base =
    let both = and_parts (list_all (is_before row) rows && is_ascending rows) (are_keys row.keys && list_all has_keys rows) base in
    let order = and_parts (list_all (is_before row) rows) (is_ascending rows) both.0 in
    let keyed = and_parts (are_keys row.keys) (list_all has_keys rows) both.1 in
    record { first = order.0; keys = keyed.0; rest = and_from _ _ order.1 keyed.1 }

pub base_from : (row : Row) (rows : List Row) → list_all (is_before row) rows ≡ true → are_keys row.keys ≡ true → is_base rows ≡ true → is_base (row ∷ rows) ≡ true
base_from row rows first keys rest =
    let parts = and_parts (is_ascending rows) (list_all has_keys rows) rest in
    and_from _ _ (and_from _ _ first parts.0) (and_from _ _ keys parts.1)

-- ---- part of a base

pub base-filter : (p : Row → Bool) (rows : List Row) → is_base rows ≡ true → is_base (filter p rows) ≡ true
base-filter p [] base = refl
base-filter p (row ∷ rows) base = let parts = base_parts row rows base in by (p row) parts.first parts.keys (base-filter p rows parts.rest)
  where
    by : (b : Bool) → list_all (is_before row) rows ≡ true → are_keys row.keys ≡ true → is_base (filter p rows) ≡ true → is_base (cond b (row ∷ filter p rows) (filter p rows)) ≡ true
    by true first keys rest = base_from row (filter p rows) (all-filter p (is_before row) rows first) keys rest
    by false first keys rest = rest

-- ---- two bases, one behind the other

pub base-append : (rows others : List Row) → is_base rows ≡ true → is_base others ≡ true → list_all (λ row. list_all (is_before row) others) rows ≡ true → is_base (rows ++ others) ≡ true
base-append [] others base other apart = other
base-append (row ∷ rows) others base other apart =
    let parts = base_parts row rows base in
    let behind = and_parts (list_all (is_before row) others) (list_all (λ row. list_all (is_before row) others) rows) apart in
    base_from row (rows ++ others) (all-append (is_before row) rows others parts.first behind.0) parts.keys (base-append rows others parts.rest other behind.1)

pub base-with_row : (row : Row) (rows : List Row) → are_keys row.keys ≡ true → is_base rows ≡ true → is_base (with_row row rows) ≡ true
base-with_row row rows keys base =
    let before = filter (λ other. is_before other row) rows in
    let behind = filter (is_before row) rows in
    let passed : list_all (is_before row) behind ≡ true = all_pass (is_before row) rows in
    let tail = base_from row behind passed keys (base-filter (is_before row) rows base) in
    let apart : list_all (λ other. list_all (is_before other) (row ∷ behind)) before ≡ true =
    all_weaker (λ other. is_before other row) (λ other. list_all (is_before other) (row ∷ behind))
    (λ other is. and_from _ _ is (all_weaker (is_before row) (is_before other) (λ later then. before_trans other row later is then) behind passed)) before (all_pass (λ other. is_before other row) rows) in
    base-append before (row ∷ behind) (base-filter (λ other. is_before other row) rows base) tail apart

-- ---- new values

module _ (fact : ℕ) (keys values : List Value) where
  keys-revalued : (row : Row) → are_keys (revalued fact keys values row).keys ≡ are_keys row.keys
  keys-revalued row = by (is_at fact keys row)
    where
      by : (b : Bool) → are_keys (cond b (record row { values = values }) row).keys ≡ are_keys row.keys
      by true = refl
      by false = refl

  before-revalued : (row other : Row) → is_before (revalued fact keys values row) (revalued fact keys values other) ≡ is_before row other
  before-revalued row other = by (is_at fact keys row) (is_at fact keys other)
    where
      by : (a b : Bool) → is_before (cond a (record row { values = values }) row) (cond b (record other { values = values }) other) ≡ is_before row other
      by true true = refl
      by true false = refl
      by false true = refl
      by false false = refl

  all_before-revalued : (row : Row) (rows : List Row) → list_all (is_before row) rows ≡ true → list_all (is_before (revalued fact keys values row)) (map (revalued fact keys values) rows) ≡ true
  all_before-revalued row [] all = refl
  all_before-revalued row (other ∷ rows) all =
      let parts = and_parts (is_before row other) (list_all (is_before row) rows) all in
      and_from _ _ (before-revalued row other ∙ parts.0) (all_before-revalued row rows parts.1)

  pub base-revalued : (rows : List Row) → is_base rows ≡ true → is_base (map (revalued fact keys values) rows) ≡ true
  base-revalued [] base = refl
  base-revalued (row ∷ rows) base =
      let parts = base_parts row rows base in
      base_from (revalued fact keys values row) (map (revalued fact keys values) rows) (all_before-revalued row rows parts.first) (keys-revalued row ∙ parts.keys) (base-revalued rows parts.rest)

-- ---- one row at a place

-- behind a row, none is at its place
pub none_at : (row : Row) (rows : List Row) → are_keys row.keys ≡ true → list_all (is_before row) rows ≡ true → list_all (λ other. not (is_at row.fact row.keys other)) rows ≡ true
none_at row rows keys first = all_weaker (is_before row) (λ other. not (is_at row.fact row.keys other)) (λ other is. ap not (not_at row other keys is)) rows first

-- ---- a new row goes before the first that it stands before, and behind the others

pub with_row-front : (row first : Row) (rows : List Row) → is_base (first ∷ rows) ≡ true → is_before row first ≡ true → with_row row (first ∷ rows) ≡ row ∷ first ∷ rows
with_row-front row first rows base here =
    let parts = base_parts first rows base in
    let all : list_all (is_before row) (first ∷ rows) ≡ true = and_from _ _ here (all_weaker (is_before first) (is_before row) (λ other more. before_trans row first other here more) rows parts.first) in
    let none : list_all (λ other. not (is_before other row)) (first ∷ rows) ≡ true = all_weaker (is_before row) (λ other. not (is_before other row)) (λ other more. ap not (not_before row other more)) (first ∷ rows) all in
    let front : filter (λ other. is_before other row) (first ∷ rows) ≡ [] = filter_none (λ other. is_before other row) (first ∷ rows) none in
    let back : filter (is_before row) (first ∷ rows) ≡ first ∷ rows = filter_all (is_before row) (first ∷ rows) all in
    λ i. front i ++ row ∷ back i

pub with_row-behind : (row first : Row) (rows : List Row) → is_before first row ≡ true → with_row row (first ∷ rows) ≡ first ∷ with_row row rows
with_row-behind row first rows here = let there : is_before row first ≡ false = not_before first row here in rw (here, there) refl

-- a row of another place stands before it or behind it
pub placed : {P : Type 0} (row other : Row) → are_keys row.keys ≡ true → is_at row.fact row.keys other ≡ false → (is_before row other ≡ true → P) → (is_before other row ≡ true → P) → P
placed {P} row other are apart before behind = by (row_order row other) refl
  where
    by : (o : Ordering) → row_order row other ≡ o → P
    by Less is = before (ap is_lt is)
    by Equal is = absurd (false≢true (sym apart ∙ sym (row_ties row other are) ∙ ap is_eq is))
    by Greater is = behind (before_from_Greater row other is)
