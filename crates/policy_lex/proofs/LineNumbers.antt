-- The numbers of lines, from place to place.
use Rattle.std.proofs.Common.{◌≡◌, ℕ, zero, suc, ◌+◌, ◌-◌, ◌≤◌, cond, List, [], ◌∷◌, take, drop, refl, ap, ◌∙◌, arith, count_by}
use Rattle.std.proofs.Math.Seq.{take-add}
use Rattle.std.proofs.lemmas.List.Sums.{sum_by-append}
use Rattle.policy_ast.specs.Lines.{is_line_feed, line_number}

-- so many bytes later
pub number_later : (document : List ℕ) (place size : ℕ) → line_number document place + count_by is_line_feed (take size (drop place document)) ≡ line_number document (place + size)
number_later document place size =
    rw (take-add place size document)
    (omega (arith, sum_by-append (λ c. cond (is_line_feed c) 1 0) (take place document) (take size (drop place document))))

-- at a later place
pub number_passed : (document : List ℕ) (place next : ℕ) → place ≤ next
    → line_number document place + count_by is_line_feed (take (next - place) (drop place document)) ≡ line_number document next
number_passed document place next le =
    let there : place + (next - place) ≡ next = omega arith in
    number_later document place (next - place) ∙ ap (line_number document) there

-- the same of numbers that are counted
pub number_counted : (document : List ℕ) (place next number count : ℕ) → place ≤ next → number ≡ line_number document place
    → count ≡ count_by is_line_feed (take (next - place) (drop place document)) → number + count ≡ line_number document next
number_counted document place next number count le is counted = rw (is, counted) (number_passed document place next le)

pub taken_twice : (m n : ℕ) (xs : List ℕ) → m ≤ n → take m (take n xs) ≡ take m xs
taken_twice zero n xs le = refl
taken_twice (suc m) zero xs le = absurd (omega arith)
taken_twice (suc m) (suc n) [] le = refl
taken_twice (suc m) (suc n) (x ∷ xs) le = ap (λ ys. x ∷ ys) (taken_twice m n xs (omega arith))

-- the same behind a piece of a range
pub number_behind : (document : List ℕ) (place to size number count : ℕ) → place + size ≤ to → number ≡ line_number document place
    → count ≡ count_by is_line_feed (take size (take (to - place) (drop place document))) → number + count ≡ line_number document (place + size)
number_behind document place to size number count within is counted =
    rw (is, counted, taken_twice size (to - place) (drop place document) (omega arith)) (number_later document place size)
