-- The walk over the rows: from the nearest place on.
use Rattle.std.proofs.Common.{◌≡◌, ℕ, ◌+◌, ◌<◌, ◌≤◌, Bool, true, false, ◌||◌, cond, length, List, [], ◌∷◌, ◌++◌, filter, Some, None, is_some, slice_get, arith, append-nil, Ordering, Less, Equal, Greater, is_eq, is_le, is_lt, refl, sym, ap, ◌∙◌}
use Rattle.std.proofs.lemmas.Bool.{and_from, and_left, and_parts, and_right, false≢true}
use Rattle.std.proofs.lemmas.Option.{same_Some}
use Rattle.std.proofs.lemmas.Cmp.{tied_itself}
use Rattle.std.specs.List.{list_all}
use Rattle.std.specs.Ordering.{ordering_reverse}
use Rattle.std.specs.declared.ops.Bound.{Bound}
use Rattle.std.specs.declared.ops.Bound.TheVariants.{Excluded, Included, Unbounded}
use Rattle.base_bytes.specs.declared.value.Value.{Value}
use Rattle.fact_store.specs.declared.row.Row.{Row}
use Rattle.fact_store.specs.declared.wanted.Wanted.{Wanted}
use Rattle.fact_store.specs.Matching.{first_row, has_named, is_within, matches, selected}
use Rattle.fact_store.specs.Rows.{are_keys, is_base, is_before}
use Rattle.fact_store.specs.working.Orders.{wanted_order, wanted_order_total}
use Rattle.fact_store.specs.Stored.{row_of}
use Rattle.fact_store.proofs.Bases.{base-filter, base_from}
use Rattle.fact_store.proofs.Lists.{all_pass, all_weaker, filter-filter}
use Rattle.fact_store.proofs.Runs.{IsRun, from_within, is_from, run_ends}
use Rattle.fact_layers.specs.Layers.{Entries, Said, layered}
use Rattle.fact_layers.specs.working.Bases.{layered_base}
use Rattle.fact_layers.specs.working.Nearest.{IsLeast, IsNearest, is_behind, is_less, is_spoken}
use Rattle.fact_layers.specs.working.Said.{are_all_keyed, at, held, said}
use Rattle.fact_layers.specs.working.Walk.{IsBehindQuery, found_next, named, place_of, rows_behind}
use Rattle.fact_layers.proofs.Alike.{alike, at_row, at_tied, same_row, same_test}
use Rattle.fact_layers.proofs.Meaning.{at-layered, row_at}
use Rattle.fact_layers.proofs.Nearest.{behind-tied, is-Equal, is-Less, spoken-keyed, unspoken}
use Rattle.fact_store.proofs.Telling.{told_by_places}

-- ---- lists

some_none : {A P : Type 0} {a : A} → Some a ≡ None → P
some_none is = absurd (cc)

filter-append : {X : Type 0} (p : X → Bool) (xs ys : List X) → filter p (xs ++ ys) ≡ filter p xs ++ filter p ys
filter-append p [] ys = refl
filter-append p (x ∷ xs) ys = by (p x) (filter-append p xs ys)
  where
    by : (b : Bool) → filter p (xs ++ ys) ≡ filter p xs ++ filter p ys → cond b (x ∷ filter p (xs ++ ys)) (filter p (xs ++ ys)) ≡ cond b (x ∷ filter p xs) (filter p xs) ++ filter p ys
    by true more = ap (λ rest. x ∷ rest) more
    by false more = more

none-either : {X : Type 0} (nothing : List X) (b : Bool) → nothing ≡ cond b nothing nothing
none-either nothing true = refl
none-either nothing false = refl

-- a test that answers alike wherever the other holds takes all of those or none
filter-constant : {X : Type 0} (p t : X → Bool) (b : Bool) (xs : List X) → ((x : X) → p x ≡ true → t x ≡ b) → filter p (filter t xs) ≡ cond b (filter p xs) []
filter-constant p t b [] same = none-either [] b
filter-constant {X = X} p t b (x ∷ xs) same = by (p x) (t x) refl refl b same (filter-constant p t b xs same)
  where
    by : (c d : Bool) → p x ≡ c → t x ≡ d → (b : Bool) → ((y : X) → p y ≡ true → t y ≡ b) → filter p (filter t xs) ≡ cond b (filter p xs) []
        → filter p (cond d (x ∷ filter t xs) (filter t xs)) ≡ cond b (cond c (x ∷ filter p xs) (filter p xs)) []
    by true true is then true same more = rw is (ap (λ rest. x ∷ rest) more)
    by true true is then false same more = absurd (false≢true (sym (same x is) ∙ then))
    by true false is then true same more = absurd (false≢true (sym then ∙ same x is))
    by true false is then false same more = more
    by false true is then true same more = rw is more
    by false true is then false same more = rw is more
    by false false is then true same more = more
    by false false is then false same more = more

-- ---- behind a bound

-- the rows at a place stand behind the bound where the place does
at-behind : (q : Wanted) → are_keys q.keys ≡ true → (from : Bound Wanted) (rows : List Row) → filter (at_row q) (rows_behind from rows) ≡ cond (is_behind from q) (filter (at_row q) rows) []
at-behind q are from rows =
    filter-constant (at_row q) (λ row. is_behind from (place_of row)) (is_behind from q) rows (λ row is.
    sym (behind-tied from q (place_of row) (at_tied q (place_of row) row.values are ∙ is)))

behind-trans : (from : Bound Wanted) (a b : Wanted) → is_behind from a ≡ true → is_less a b ≡ true → is_behind from b ≡ true
behind-trans (Included c) a b behind less = by (wanted_order c a) refl behind
  where
    by : (o : Ordering) → wanted_order c a ≡ o → is_le o ≡ true → is_le (wanted_order c b) ≡ true
    by Less is le = ap is_le (wanted_order_total.trans c a b is (is-Less _ less))
    by Equal is le = ap is_le (wanted_order_total.congr c a b is ∙ is-Less _ less)
    by Greater is le = absurd (false≢true le)
behind-trans (Excluded c) a b behind less = ap is_lt (wanted_order_total.trans c a b (is-Less _ behind) (is-Less _ less))
behind-trans Unbounded a b behind less = refl

pub behind-query : (wanted place : Wanted) → IsBehindQuery wanted (Included place) → IsBehindQuery wanted (Excluded place)
behind-query wanted place all row behind = all row (by (wanted_order place (place_of row)) behind)
  where
    by : (o : Ordering) → is_lt o ≡ true → is_le o ≡ true
    by Less is = refl
    by Equal is = refl
    by Greater is = absurd (false≢true is)

-- ---- the layers

module _ (layers : List Entries) (keyed : are_all_keyed layers ≡ true) where
  abbrev rows : List Row
  rows = layered layers

  behind_base : (from : Bound Wanted) → is_base (rows_behind from rows) ≡ true
  behind_base from = base-filter (λ row. is_behind from (place_of row)) rows (layered_base layers keyed)

  at_place : (q : Wanted) → are_keys q.keys ≡ true → (from : Bound Wanted) → filter (at_row q) (rows_behind from rows) ≡ cond (is_behind from q) (row_at q (held q layers)) []
  at_place q are from = at-behind q are from rows ∙ ap (λ here. cond (is_behind from q) here []) (at-layered q are layers keyed)

  pub none-behind : (from : Bound Wanted) → IsNearest from layers None → rows_behind from rows ≡ []
  none-behind from none =
      told_by_places (rows_behind from rows) [] (behind_base from) refl (λ fact keys are.
      let q : Wanted = record { fact = fact; keys = keys; values = [] } in
      at_place q are from ∙ by q (is_behind from q) refl)
    where
      by : (q : Wanted) (b : Bool) → is_behind from q ≡ b → cond b (row_at q (held q layers)) [] ≡ []
      by q true is = ap (row_at q) (unspoken q layers (none q is))
      by q false is = refl

  module _ (from : Bound Wanted) (place : Wanted) (least : IsLeast from layers place) where
    place_keyed : are_keys place.keys ≡ true
    place_keyed = spoken-keyed place layers keyed least.spoken

    abbrev later : List Row
    later = rows_behind (Excluded place) rows

    after_base : (says : Said) → is_base (row_at place says ++ later) ≡ true
    after_base None = behind_base (Excluded place)
    after_base (Some values) = base_from (row_of (place, values)) later (all_pass (is_before (row_of (place, values))) rows) place_keyed (behind_base (Excluded place))

    at_single : (q : Wanted) → are_keys q.keys ≡ true → (says : Said) → filter (at_row q) (row_at place says) ≡ cond (at q place) (row_at q says) []
    at_single q are None = none-either [] (at q place)
    at_single q are (Some values) = by (at q place) refl
      where
        by : (b : Bool) → at q place ≡ b → filter (at_row q) (row_of (place, values) ∷ []) ≡ cond b (row_of (q, values) ∷ []) []
        by true is = rw (sym (at_tied q place values are) ∙ is) (ap (λ row. row ∷ []) (sym (same_row q place values (alike q place are is))))
        by false is = rw (sym (at_tied q place values are) ∙ is) refl

    pub first-behind : rows_behind from rows ≡ row_at place (held place layers) ++ later
    first-behind =
        told_by_places (rows_behind from rows) (row_at place (held place layers) ++ later) (behind_base from) (after_base (held place layers)) (λ fact keys are.
        let q : Wanted = record { fact = fact; keys = keys; values = [] } in
        at_place q are from ∙ by q are (wanted_order place q) refl
        ∙ sym (filter-append (at_row q) (row_at place (held place layers)) later ∙ (λ i. at_single q are (held place layers) i ++ at_place q are (Excluded place) i)))
      where
        held-tied : (q : Wanted) → are_keys q.keys ≡ true → at q place ≡ true → row_at q (held q layers) ≡ row_at q (held place layers)
        held-tied q are tied =
            let same = alike q place are tied in
            sym (at-layered q are layers keyed) ∙ ap (λ (test : Row → Bool). filter test rows) (same_test q place same) ∙ at-layered place place_keyed layers keyed ∙ moved (held place layers)
          where
            moved : (says : Said) → row_at place says ≡ row_at q says
            moved None = refl
            moved (Some values) = ap (λ row. row ∷ []) (sym (same_row q place values (alike q place are tied)))

        parts : (q : Wanted) (a b c : Bool) → is_behind from q ≡ a → at q place ≡ b → is_less place q ≡ c → cond a (row_at q (held q layers)) [] ≡ cond b (row_at q (held place layers)) [] ++ cond c (row_at q (held q layers)) []
            → cond (is_behind from q) (row_at q (held q layers)) [] ≡ cond (at q place) (row_at q (held place layers)) [] ++ cond (is_less place q) (row_at q (held q layers)) []
        parts q a b c is_a is_b is_c same = (λ i. cond (is_a i) (row_at q (held q layers)) []) ∙ same ∙ sym (λ i. cond (is_b i) (row_at q (held place layers)) [] ++ cond (is_c i) (row_at q (held q layers)) [])

        by : (q : Wanted) → are_keys q.keys ≡ true → (o : Ordering) → wanted_order place q ≡ o
            → cond (is_behind from q) (row_at q (held q layers)) [] ≡ cond (at q place) (row_at q (held place layers)) [] ++ cond (is_less place q) (row_at q (held q layers)) []
        by q are Less is =
            parts q true false true (behind-trans from place q least.behind (ap is_lt is)) (ap is_eq (wanted_order_total.antisymm q place ∙ ap ordering_reverse is)) (ap is_lt is) refl
        by q are Equal is =
            let tied : at q place ≡ true = ap is_eq (wanted_order_total.antisymm q place ∙ ap ordering_reverse is) in
            parts q true true false (behind-tied from q place tied ∙ least.behind) tied (ap is_lt is) (held-tied q are tied ∙ sym (append-nil _))
        by q are Greater is =
            let back = wanted_order_total.antisymm q place ∙ ap ordering_reverse is in
            also (is_behind from q) refl (ap is_eq back) (ap is_lt back)
          where
            also : (b : Bool) → is_behind from q ≡ b → at q place ≡ false → is_less q place ≡ true
                → cond (is_behind from q) (row_at q (held q layers)) [] ≡ cond (at q place) (row_at q (held place layers)) [] ++ cond (is_less place q) (row_at q (held q layers)) []
            also true behind apart less = parts q true false false behind apart (ap is_lt is) (ap (row_at q) (unspoken q layers (least.first q behind less)))
            also false behind apart less = parts q false false false behind apart (ap is_lt is) refl

    pub still-behind : (wanted : Wanted) → IsBehindQuery wanted from → IsBehindQuery wanted (Excluded place)
    still-behind wanted all row behind = all row (behind-trans from place (place_of row) least.behind behind)

    module _ (wanted : Wanted) where
      one_more : selected wanted (rows_behind from rows) ≡ selected wanted (row_at place (held place layers)) ++ selected wanted later
      one_more = ap (selected wanted) first-behind ∙ filter-append (matches wanted) (row_at place (held place layers)) later

      pub not-found : named wanted (held place layers) ≡ None → selected wanted (rows_behind from rows) ≡ selected wanted later
      not-found none = one_more ∙ ap (λ found. found ++ selected wanted later) (by (held place layers) none)
        where
          by : (says : Said) → named wanted says ≡ None → selected wanted (row_at place says) ≡ []
          by None is = refl
          by (Some values) is = also (has_named wanted.values values) refl is
            where
              also : (b : Bool) → has_named wanted.values values ≡ b → cond b (Some values) None ≡ None → selected wanted (row_of (place, values) ∷ []) ≡ []
              also true has is = some_none is
              also false lacks is = rw (and_right (is_within wanted (row_of (place, values))) (has_named wanted.values values) lacks) refl

      pub found : (values : List Value) → Some values ≡ named wanted (held place layers) → is_within wanted (row_of (place, [])) ≡ true → selected wanted (rows_behind from rows) ≡ row_of (place, values) ∷ selected wanted later
      found values is within = one_more ∙ ap (λ found. found ++ selected wanted later) (by (held place layers) is)
        where
          by : (says : Said) → Some values ≡ named wanted says → selected wanted (row_at place says) ≡ row_of (place, values) ∷ []
          by None is = some_none is
          by (Some others) is = also (has_named wanted.values others) refl is
            where
              also : (b : Bool) → has_named wanted.values others ≡ b → Some values ≡ cond b (Some others) None → selected wanted (row_of (place, others) ∷ []) ≡ row_of (place, values) ∷ []
              also true has is = rw (and_from (is_within wanted (row_of (place, others))) (has_named wanted.values others) within has) (ap (λ vs. row_of (place, vs) ∷ []) (sym (same_Some values others is)))
              also false lacks is = some_none is

      pub past : are_keys wanted.keys ≡ true → IsBehindQuery wanted from → is_within wanted (row_of (place, [])) ≡ false → selected wanted (rows_behind from rows) ≡ []
      past are all without = one_more ∙ (λ i. none (held place layers) i ++ ends i)
        where
          here : Row
          here = row_of (place, [])

          none : (says : Said) → selected wanted (row_at place says) ≡ []
          none None = refl
          none (Some values) = rw (and_left (is_within wanted (row_of (place, values))) (has_named wanted.values values) without) refl

          behind_here : is_behind from (place_of here) ≡ true
          behind_here = behind-tied from (place_of here) place (ap is_eq (tied_itself wanted_order_total place)) ∙ least.behind

          run : IsRun wanted (here ∷ later)
          run = record {
            from = and_from _ _ (all here behind_here) (all_weaker (λ row. is_behind (Excluded place) (place_of row)) (is_from wanted) (still-behind wanted all) later (all_pass (λ row. is_behind (Excluded place) (place_of row)) rows));
            base = after_base (Some []);
          }

          drops : selected wanted (here ∷ later) ≡ selected wanted later
          drops = rw (and_left (is_within wanted here) (has_named wanted.values []) without) refl

          ends : selected wanted later ≡ []
          ends = sym drops ∙ run_ends wanted here later are run without

-- ---- where a walk begins, and goes on

pub begins-behind : (wanted : Wanted) → IsBehindQuery wanted (Included wanted)
begins-behind wanted row behind = behind

pub begins-selected : (wanted : Wanted) (rows : List Row) → selected wanted (rows_behind (Included wanted) rows) ≡ selected wanted rows
begins-selected wanted rows = filter-filter (matches wanted) (λ row. is_behind (Included wanted) (place_of row)) (λ row found. from_within wanted row (and_parts (is_within wanted row) (has_named wanted.values row.values) found).0) rows

-- a row that the query finds is no further front than the query
pub found-behind : (wanted : Wanted) (rows : List Row) (from : Bound Wanted) (found : Wanted × List Value) → selected wanted (rows_behind from rows) ≡ found_next wanted rows (Some found) → IsBehindQuery wanted (Excluded found.0)
found-behind wanted rows from found is row behind =
    let all : list_all (matches wanted) (found_next wanted rows (Some found)) ≡ true = ap (list_all (matches wanted)) (sym is) ∙ all_pass (matches wanted) (rows_behind from rows) in
    let here = (and_parts (matches wanted (row_of found)) (list_all (matches wanted) (selected wanted (rows_behind (Excluded found.0) rows))) all).0 in
    let within = (and_parts (is_within wanted (row_of found)) (has_named wanted.values found.1) here).0 in
    behind-trans (Included wanted) found.0 (place_of row) (from_within wanted (row_of found) within) behind

-- ---- how many entries stand ahead

abbrev pub ahead_in : Bound Wanted → Entries → ℕ
ahead_in from es = length (filter (λ e. is_behind from e.0) es)

abbrev pub ahead : Bound Wanted → List Entries → ℕ
ahead from [] = 0
ahead from (layer ∷ layers) = ahead_in from layer + ahead from layers

module _ (from : Bound Wanted) (place : Wanted) (behind : is_behind from place ≡ true) where
  in-le : (es : Entries) → ahead_in (Excluded place) es ≤ ahead_in from es
  in-le [] = omega arith
  in-le (e ∷ es) = by (is_less place e.0) (is_behind from e.0) refl refl (in-le es)
    where
      by : (a b : Bool) → is_less place e.0 ≡ a → is_behind from e.0 ≡ b → ahead_in (Excluded place) es ≤ ahead_in from es
          → length (cond a (e ∷ filter (λ e. is_less place e.0) es) (filter (λ e. is_less place e.0) es)) ≤ length (cond b (e ∷ filter (λ e. is_behind from e.0) es) (filter (λ e. is_behind from e.0) es))
      by true true is then more = omega (arith, more)
      by true false is then more = absurd (false≢true (sym then ∙ behind-trans from place e.0 behind is))
      by false true is then more = omega (arith, more)
      by false false is then more = more

  in-lt : (es : Entries) → is_some (said place es) ≡ true → ahead_in (Excluded place) es < ahead_in from es
  in-lt [] found = absurd (false≢true found)
  in-lt (e ∷ es) found = by (at place e.0) refl found (in-le es) (in-lt es)
    where
      also : (a b : Bool) → is_less place e.0 ≡ a → is_behind from e.0 ≡ b → ahead_in (Excluded place) es < ahead_in from es
          → length (cond a (e ∷ filter (λ e. is_less place e.0) es) (filter (λ e. is_less place e.0) es)) < length (cond b (e ∷ filter (λ e. is_behind from e.0) es) (filter (λ e. is_behind from e.0) es))
      also true true is then more = omega (arith, more)
      also true false is then more = absurd (false≢true (sym then ∙ behind-trans from place e.0 behind is))
      also false true is then more = omega (arith, more)
      also false false is then more = more

      by : (b : Bool) → at place e.0 ≡ b → is_some (cond b (Some e.1) (said place es)) ≡ true → ahead_in (Excluded place) es ≤ ahead_in from es → (is_some (said place es) ≡ true → ahead_in (Excluded place) es < ahead_in from es)
          → ahead_in (Excluded place) (e ∷ es) < ahead_in from (e ∷ es)
      by true tied found le more =
          let here : is_behind from e.0 ≡ true = sym (behind-tied from place e.0 tied) ∙ behind in
          let there : is_less place e.0 ≡ false = ap is_lt (is-Equal _ tied) in
          rw (here, there) (omega (arith, le))
      by false tied found le more = also (is_less place e.0) (is_behind from e.0) refl refl (more found)

  le : (layers : List Entries) → ahead (Excluded place) layers ≤ ahead from layers
  le [] = omega arith
  le (layer ∷ layers) = omega (arith, in-le layer, le layers)

  pub falls-ahead : (layers : List Entries) → is_spoken place layers ≡ true → ahead (Excluded place) layers < ahead from layers
  falls-ahead [] spoken = absurd (false≢true spoken)
  falls-ahead (layer ∷ layers) spoken = by (is_some (said place layer)) refl spoken (falls-ahead layers)
    where
      by : (b : Bool) → is_some (said place layer) ≡ b → (b || is_spoken place layers) ≡ true → (is_spoken place layers ≡ true → ahead (Excluded place) layers < ahead from layers) → ahead (Excluded place) (layer ∷ layers) < ahead from (layer ∷ layers)
      by true found is more = omega (arith, in-lt layer found, le layers)
      by false found is more = omega (arith, in-le layer, more is)

-- ---- what is made of the next row

pub first-found : (wanted : Wanted) (rows : List Row) (found : Wanted × List Value) → selected wanted (rows_behind (Included wanted) rows) ≡ found_next wanted rows (Some found) → Some (row_of found) ≡ first_row wanted rows
first-found wanted rows found is = ap (λ all. slice_get all 0) (sym is ∙ begins-selected wanted rows)

pub first-none : (wanted : Wanted) (rows : List Row) → selected wanted (rows_behind (Included wanted) rows) ≡ [] → None ≡ first_row wanted rows
first-none wanted rows is = ap (λ all. slice_get all 0) (sym is ∙ begins-selected wanted rows)
