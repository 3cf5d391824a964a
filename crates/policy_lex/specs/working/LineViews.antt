-- A line as the code has it, and the lines from a place of a document on.
use Rattle.std.specs.Prelude.{ℕ, List, drop}
use Rattle.policy_ast.specs.Lines.{Line, lines_from}
use Rattle.policy_lex.specs.declared.lines.Line.{Line as SeenLine}

abbrev pub seen : SeenLine → Line
seen line = record { text = line.text.now; start = line.start; next = line.next }

-- the lines from a place on
abbrev pub lines_at : List ℕ → ℕ → List Line
lines_at document place = lines_from place (drop place document)
