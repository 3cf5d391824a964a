-- Spaces around a text. No other character counts as one.
use Rattle.std.specs.Prelude.{ℕ, Bool, ◌==◌, ◌&&◌, nat_eq, List, length, drop}
use Rattle.std.specs.List.{list_all, starts_with, take_while}
use Rattle.std.specs.Str.{byte}

abbrev pub is_space : ℕ → Bool
is_space c = c == byte " "

-- how many spaces a text begins with
abbrev pub indent : List ℕ → ℕ
indent text = length (take_while is_space text)

-- a text without the spaces in front
abbrev pub unindented : List ℕ → List ℕ
unindented text = drop (indent text) text

-- a text is another one with nothing but spaces behind it
abbrev pub is_before_spaces : List ℕ → List ℕ → Bool
is_before_spaces inner text = starts_with nat_eq text inner && list_all is_space (drop (length inner) text)

-- a text is another one, spaces around it aside
abbrev pub is_between_spaces : List ℕ → List ℕ → Bool
is_between_spaces inner text = is_before_spaces inner (unindented text)
