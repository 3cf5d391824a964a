-- Texts in quotation marks, as the code reads them.
use Rattle.std.specs.Prelude.{◌≡◌, ℕ, ◌<◌, ◌≤◌, ⊤, List, [], ◌∷◌, codes, if◌then◌else◌, Option, Some, None}
use Rattle.std.specs.Option.{option_and_then}
use Rattle.std.specs.Str.{IsUtf8}
use Rattle.policy_ast.specs.Lines.{is_line_feed}
use Rattle.policy_ast.specs.TokenForms.{behind, escaped, is_backslash, is_quotation_mark, text_from}
use Rattle.policy_lex.specs.declared.quoted.Step.{Step}
use Rattle.policy_lex.specs.declared.quoted.Step.TheVariants.{Closes, Breaks, Means}

-- what an escape does, by the byte that it stands for
abbrev pub meaning : Option ℕ → Step
meaning None = Breaks
meaning (Some byte) = Means byte 2

abbrev pub escape_at : List ℕ → Step
escape_at [] = Breaks
escape_at (next ∷ rest) = meaning (escaped next)

-- what bytes begin with
abbrev pub step_at : List ℕ → Step
step_at [] = Breaks
step_at (c ∷ rest) = if is_quotation_mark c then Closes else if is_line_feed c then Breaks else if is_backslash c then escape_at rest else Means c 1

-- it takes one byte at least, and no more than so many
abbrev pub IsWithin : Step → ℕ → Type 0
IsWithin Closes most = ⊤
IsWithin Breaks most = ⊤
IsWithin (Means byte size) most = (0 < size) × (size ≤ most)

-- the text in quotation marks that bytes begin with, if they do, is UTF-8
abbrev pub HoldsText : List ℕ → Type 0
HoldsText bytes = (text : List ℕ × ℕ) → option_and_then text_from (behind (codes "\"") bytes) ≡ Some text → IsUtf8 text.0
