-- The pieces that lines are made of. What is written is said from the bytes where it begins to the bytes behind it.
use Rattle.std.specs.Prelude.{◌≡◌, ℕ, Bool, true, false, ◌==◌, List, [], ◌∷◌, ◌++◌, codes, Option, Some}
use Rattle.std.specs.List.{list_all}
use Rattle.std.specs.Str.{byte}

abbrev pub Bytes : Type 0
Bytes = List ℕ

-- something written: the bytes where it begins, the bytes behind it, and what it says
abbrev pub Between : Type 0 → Type 1
Between A = Bytes → Bytes → A → Type 0

-- the first byte passes the test; no bytes have no first one
abbrev pub begins_with : (ℕ → Bool) → Bytes → Bool
begins_with passes [] = false
begins_with passes (c ∷ cs) = passes c

-- a run: bytes that pass a test, as many as stand there
pub record Run (passes : ℕ → Bool) (bytes rest run : Bytes) : Type 0 where
  pub whole : bytes ≡ run ++ rest
  pub each : list_all passes run ≡ true
  pub ends : begins_with passes rest ≡ false

-- a run that says something
pub record Says {A : Type 0} (passes : ℕ → Bool) (says : Bytes → Option A) (bytes rest : Bytes) (a : A) : Type 0 where
  pub run : Bytes
  pub is_run : Run passes bytes rest run
  pub said : says run ≡ Some a

-- tabs are no spaces
abbrev pub is_space : ℕ → Bool
is_space c = c == byte " "

-- any number of spaces
pub record Spaces (bytes rest : Bytes) : Type 0 where
  pub gap : Bytes
  pub is_run : Run is_space bytes rest gap

-- something behind spaces
pub record Behind {A : Type 0} (X : Between A) (bytes rest : Bytes) (a : A) : Type 0 where
  pub inner : Bytes
  pub spaces : Spaces bytes inner
  pub is : X inner rest a

-- a mark with spaces before it
pub record Mark (mark bytes rest : Bytes) : Type 0 where
  pub inner : Bytes
  pub spaces : Spaces bytes inner
  pub is : inner ≡ mark ++ rest

-- one or more, separated by commas, and the mark that closes them; no comma stands behind the last
pub data Members {A : Type 0} (close : Bytes) (X : Between A) : Bytes → Bytes → List A → Type 0 where
  last : {bytes mid rest : Bytes} {a : A} → X bytes mid a → Mark close mid rest → Members close X bytes rest (a ∷ [])
  more : {bytes mid next rest : Bytes} {a : A} {others : List A} → X bytes mid a → Mark (codes ",") mid next → Members close X next rest others → Members close X bytes rest (a ∷ others)

-- any number of them, and the mark that closes them
pub data Listed {A : Type 0} (close : Bytes) (X : Between A) (bytes rest : Bytes) : List A → Type 0 where
  none : Mark close bytes rest → Listed close X bytes rest []
  some : {all : List A} → Members close X bytes rest all → Listed close X bytes rest all
