-- Laws over the definitions alone.
use Rattle.std.specs.Prelude.{◌≡◌, ℕ, true, List, ◌++◌, codes}
use Rattle.std.specs.Str.{is_utf8}
use Rattle.script.specs.declared.line.Line.{Line}
use Rattle.script.specs.Lines.{IsLine}
use Rattle.script.specs.Pieces.{Bytes}
use Rattle.script.specs.Tokens.{Quoted}
use Rattle.script.specs.Scripts.{IsRefusedAt, IsScript}

-- Bytes are at most one line.
abbrev pub IsOneLine : Bytes → Type 0
IsOneLine bytes = (a b : Line) → IsLine bytes a → IsLine bytes b → a ≡ b

-- A script is the lines of one list, or is refused by one line, and never both.
pub record HasOneReading (script : Bytes) : Type 0 where
  pub lines : (a b : List Line) → IsScript script a → IsScript script b → a ≡ b
  pub number : (m n : ℕ) → IsRefusedAt script m → IsRefusedAt script n → m ≡ n
  pub apart : (a : List Line) (n : ℕ) → IsScript script a → IsRefusedAt script n → ⊥

-- A text between quotation marks is UTF-8, where it stands in UTF-8.
abbrev pub KeepsUtf8 : Type 0
KeepsUtf8 = (front inner rest text : Bytes) → is_utf8 (front ++ (codes "\"" ++ inner)) ≡ true → Quoted inner rest text → is_utf8 text ≡ true
