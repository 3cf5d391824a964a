-- The lines of a document.
use Rattle.std.specs.Prelude.{ℕ, ◌+◌, Bool, ◌==◌, if◌then◌else◌, List, [], ◌∷◌, length, take, count_by}
use Rattle.std.specs.List.{slice_split}
use Rattle.std.specs.Str.{byte}
use Rattle.std.specs.Str.Lines.{strip_carriage_return}

abbrev pub is_line_feed : ℕ → Bool
is_line_feed c = c == byte "\n"

-- a line: its text, the place of the document where it begins, and the place where what follows it begins
pub record Line : Type 0 where
  pub text : List ℕ
  pub start : ℕ
  pub next : ℕ

-- the lines in parts between line feeds: an empty last part is no line, and only a part before a line feed loses its carriage return
unfoldable pub lines_of_parts : ℕ → List (List ℕ) → List Line
lines_of_parts start [] = []
lines_of_parts start (last ∷ []) = if length last == 0 then [] else record { text = last; start = start; next = start + length last } ∷ []
lines_of_parts start (part ∷ second ∷ parts) =
    record { text = strip_carriage_return part; start = start; next = start + length part + 1 }
    ∷ lines_of_parts (start + length part + 1) (second ∷ parts)

-- the lines of bytes that begin at a place of a document
abbrev pub lines_from : ℕ → List ℕ → List Line
lines_from start bytes = lines_of_parts start (slice_split is_line_feed bytes)

-- the lines of a document
abbrev pub document_lines : List ℕ → List Line
document_lines document = lines_from 0 document

-- the number of the line in which a place of a document stands, counted from 1
abbrev pub line_number : List ℕ → ℕ → ℕ
line_number document place = count_by is_line_feed (take place document) + 1
