-- What makes a relation between values and their bytes a code that can be read.
use Rattle.std.specs.Prelude.{◌≡◌, ℕ, List, [], ◌++◌}

-- No two values are taken for one another, alone or with other bytes behind them.
pub record IsUnambiguous {A : Type 0} (IsSpelled : A → List ℕ → Type 0) : Type 0 where
  -- what was written is read again, as that value and no other, whatever follows it
  pub again : (x y : A) (told others more rest : List ℕ) → IsSpelled x told → IsSpelled y others → told ++ more ≡ others ++ rest → (x ≡ y) × (more ≡ rest)
  -- no spelling is a proper front of another
  pub none_begins_another : (x y : A) (told more : List ℕ) → IsSpelled x told → IsSpelled y (told ++ more) → more ≡ []
  -- a spelling has one value
  pub one_value : (x y : A) (told : List ℕ) → IsSpelled x told → IsSpelled y told → x ≡ y
  -- a value has one spelling
  pub one_spelling : (x : A) (told others : List ℕ) → IsSpelled x told → IsSpelled x others → told ≡ others
