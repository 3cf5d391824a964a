-- Taking bytes piece by piece.
use Rattle.std.specs.Prelude.{ℕ, List, ◌++◌}

-- Whatever was taken before, the piece is taken behind it.
pub record Adds {Taker : Type 0} (holds : Taker → List ℕ → Type 0) (before : Taker) (piece : List ℕ) (after : Taker) : Type 0 where
  pub more : (taken : List ℕ) → holds before taken → holds after (taken ++ piece)
