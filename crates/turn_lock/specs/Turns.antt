-- Lists of turns, and what a caller's past says of a longer list.
use Rattle.std.specs.Prelude.{◌≡◌, ℕ, ◌+◌, ◌==◌, List, [], ◌∷◌, ◌++◌, filter, length, ◌⊎◌}
use native.Mathlib.Decide.{dec_le}
use Rattle.std.specs.List.{sum_by}

-- the number is one of these
abbrev pub IsIn : ℕ → List ℕ → Type 0
IsIn n [] = ⊥
IsIn n (x ∷ xs) = (n ≡ x) ⊎ IsIn n xs

-- turns and idle turns together, where `before` tells how many idle turns came right before a turn
abbrev pub count_of : {X : Type 0} → (X → ℕ) → List X → ℕ
count_of before xs = sum_by (λ x. before x + 1) xs

-- the first for a yes, and the second for a no
abbrev pub pick : {A B : Type 0} → Dec A → B → B → B
pick (yes _) a b = a
pick (no _) a b = b

-- of two lists the first, where it isn't shorter than the second, and else the second
abbrev pub longer : {X : Type 0} → List X → List X → List X
longer xs ys = pick (dec_le (length ys) (length xs)) xs ys

module _ {X : Type 0} (caller : X → ℕ) where
  -- the turns that the caller with this number made
  abbrev pub turns_by : ℕ → List X → List X
  turns_by n xs = filter (λ x. caller x == n) xs

  -- the whole begins with what was seen, and has no further turn with one of the numbers
  pub record Continues (numbers : List ℕ) (seen : List X) (whole : List X) : Type 0 where
    pub rest : List X
    pub split : whole ≡ seen ++ rest
    pub apart : (n : ℕ) → IsIn n numbers → turns_by n rest ≡ []

  -- the whole is what was seen, then turns with none of the numbers, and then this turn
  abbrev pub Adds : List ℕ → List X → List X → X → Type 0
  Adds numbers seen whole x = (between : List X) × (whole ≡ (seen ++ between) ++ x ∷ []) × ((n : ℕ) → IsIn n numbers → turns_by n between ≡ [])

  -- after `seen` and some idle turns there is one turn more, by this caller, or one idle turn more
  abbrev pub AddsOne : (X → ℕ) → ℕ → List X → ℕ → List X → ℕ → Type 0
  AddsOne before number seen idle turns idle_now = ((x : X) × (turns ≡ seen ++ x ∷ []) × (caller x ≡ number) × (before x ≡ idle) × (idle_now ≡ 0))
      ⊎ ((turns ≡ seen) × (idle_now ≡ idle + 1))
