-- What was written to a sink, where it tells: a whole text, or a front of it.
use Rattle.std.specs.Prelude.{◌≡◌, ℕ, List, ◌++◌, Option, Result, MatchResult}
use Rattle.std.specs.Io.KnownBytes.{append_known}

-- all of the text but the rest was written
pub record WritesBut (text rest : List ℕ) (old new : Option (List ℕ)) : Type 0 where
  pub part : List ℕ
  pub whole : part ++ rest ≡ text
  pub added : new ≡ append_known old part

-- some front of the text was written
pub record WritesFront (text : List ℕ) (old new : Option (List ℕ)) : Type 0 where
  pub rest : List ℕ
  pub so_far : WritesBut text rest old new

-- the whole text after Ok, and some front of it otherwise
abbrev pub Writes : {T E : Type 0} → Result T E → List ℕ → Option (List ℕ) → Option (List ℕ) → Type 0
Writes result text old new = MatchResult result (λ _. new ≡ append_known old text) (λ _. WritesFront text old new)
