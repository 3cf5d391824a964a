-- A base is told by what stands at each place.
use Rattle.std.proofs.Common.{◌≡◌, Bool, true, false, cond, List, [], ◌∷◌, filter, Ordering, Less, Equal, Greater, is_eq, is_lt, refl, sym, ap, subst, ◌∙◌}
use Rattle.std.proofs.lemmas.Bool.{and_from}
use Rattle.fact_store.specs.declared.row.Row.{Row}
use Rattle.fact_store.specs.Laws.{HoldsSame}
use Rattle.fact_store.specs.Matching.{is_at}
use Rattle.fact_store.specs.Rows.{are_keys, is_base, is_before}
use Rattle.fact_store.proofs.Bases.{IsBase, base_parts, none_at}
use Rattle.fact_store.proofs.Lists.{all_weaker, filter_none}
use Rattle.fact_store.proofs.Places.{before_from_Greater, before_trans, row_order, row_ties}
use Rattle.fact_store.proofs.RowLaws.{at_itself, is_one_place}

cons_nil : {A P : Type 0} (a : A) (rest : List A) → a ∷ rest ≡ [] → P
cons_nil a rest is = absurd (cc)

cons_first : {A : Type 0} (a b : A) (rest others : List A) → a ∷ rest ≡ b ∷ others → a ≡ b
cons_first a b rest others is = cc

-- a row stands at its own place, alone
at_first : (row : Row) (rows : List Row) → IsBase row rows → filter (is_at row.fact row.keys) (row ∷ rows) ≡ row ∷ []
at_first row rows base = rw (at_itself row) (ap (λ rest. row ∷ rest) (filter_none (is_at row.fact row.keys) rows (none_at row rows base.keys base.first)))

-- none stands at the place of a row that stands before all
none_ahead : (row first : Row) (rows : List Row) → are_keys row.keys ≡ true → IsBase first rows → is_before row first ≡ true → filter (is_at row.fact row.keys) (first ∷ rows) ≡ []
none_ahead row first rows are base before =
    filter_none (is_at row.fact row.keys) (first ∷ rows) (none_at row (first ∷ rows) are (and_from _ _ before (all_weaker (is_before first) (is_before row) (λ other more. before_trans row first other before more) rows base.first)))

-- behind the first row, the same stands at each place too
same_rest : (row : Row) (rows others : List Row) → IsBase row rows → IsBase row others → HoldsSame (row ∷ rows) (row ∷ others) → HoldsSame rows others
same_rest row rows others base other same fact keys are = by (is_at fact keys row) refl (same fact keys are)
  where
    by : (b : Bool) → is_at fact keys row ≡ b → cond b (row ∷ filter (is_at fact keys) rows) (filter (is_at fact keys) rows) ≡ cond b (row ∷ filter (is_at fact keys) others) (filter (is_at fact keys) others)
        → filter (is_at fact keys) rows ≡ filter (is_at fact keys) others
    by true is whole =
        let place = is_one_place fact keys row is in
        let none = λ (more : List Row) (behind : IsBase row more). (ap (λ (test : Row → Bool). filter test more) place ∙ filter_none (is_at row.fact row.keys) more (none_at row more behind.keys behind.first)) in
        none rows base ∙ sym (none others other)
    by false is whole = whole

pub told_by_places : (rows others : List Row) → is_base rows ≡ true → is_base others ≡ true → HoldsSame rows others → rows ≡ others
told_by_places [] [] base other same = refl
told_by_places [] (first ∷ others) base other same =
    let parts = base_parts first others other in
    cons_nil first [] (sym (same first.fact first.keys parts.keys ∙ at_first first others parts))
told_by_places (row ∷ rows) [] base other same =
    let parts = base_parts row rows base in
    cons_nil row [] (sym (at_first row rows parts) ∙ same row.fact row.keys parts.keys)
told_by_places (row ∷ rows) (first ∷ others) base other same =
    by (row_order row first) refl (base_parts row rows base) (base_parts first others other) (told_by_places rows others)
  where
    by : (o : Ordering) → row_order row first ≡ o → IsBase row rows → IsBase first others → (is_base rows ≡ true → is_base others ≡ true → HoldsSame rows others → rows ≡ others) → row ∷ rows ≡ first ∷ others
    by Less is here there more = cons_nil row [] (sym (at_first row rows here) ∙ same row.fact row.keys here.keys ∙ none_ahead row first others here.keys there (ap is_lt is))
    by Greater is here there more =
        cons_nil first [] (sym (at_first first others there) ∙ sym (same first.fact first.keys there.keys) ∙ none_ahead first row rows there.keys here (before_from_Greater row first is))
    by Equal is here there more =
        let at : is_at row.fact row.keys first ≡ true = sym (row_ties row first here.keys) ∙ ap is_eq is in
        let place = is_one_place row.fact row.keys first at in
        let one : row ≡ first =
        cons_first row first [] []
        (sym (at_first row rows here) ∙ same row.fact row.keys here.keys ∙ ap (λ (test : Row → Bool). filter test (first ∷ others)) place ∙ at_first first others there) in
        let behind : IsBase row others = subst (λ r. IsBase r others) (sym one) there in
        let whole : HoldsSame (row ∷ rows) (row ∷ others) = subst (λ r. HoldsSame (row ∷ rows) (r ∷ others)) (sym one) same in
        let rest : rows ≡ others = more here.rest there.rest (same_rest row rows others here behind whole) in
        λ i. one i ∷ rest i
