-- Scripts: which lines may stand behind which, and which line is refused.
use Rattle.std.specs.Prelude.{◌≡◌, ℕ, ◌+◌, ◌<◌, Bool, true, false, ◌&&◌, not, nat_le, nat_lt, List, [], ◌∷◌, ◌++◌, length}
use Rattle.std.specs.List.{list_any}
use Rattle.std.specs.Str.{bytes_eq}
use Rattle.std.specs.Str.Lines.{lines}
use Rattle.script.specs.declared.line.Line.{Line}
use Rattle.script.specs.declared.line.Line.TheVariants as line
use Rattle.script.specs.Lines.{IsLine}
use Rattle.script.specs.Pieces.{Bytes}

-- the greatest numbers of lines, of lines that make a message, and of replicas
abbrev pub most_lines : ℕ
most_lines = 100000

abbrev pub most_messages : ℕ
most_messages = 8192

abbrev pub most_replicas : ℕ
most_replicas = 8

-- what the lines of a script declare: replicas by name, in order, and messages, which are numbered from 1
pub record Declared : Type 0 where
  pub names : List Bytes
  pub messages : ℕ

abbrev pub nothing_yet : Declared
nothing_yet = record { names = []; messages = 0 }

abbrev pub declares : Declared → Bytes → Bool
declares so_far name = list_any (λ other. bytes_eq other name) so_far.names

abbrev pub has_message : Declared → ℕ → Bool
has_message so_far n = nat_le n so_far.messages

abbrev pub has_room : Declared → Bool
has_room so_far = nat_lt so_far.messages most_messages

-- whether a line may stand behind lines that declare this
abbrev pub has_place : Declared → Line → Bool
has_place so_far (line.Replica a) = not (declares so_far a) && nat_lt (length so_far.names) most_replicas
has_place so_far (line.Init a f args) = declares so_far a
has_place so_far (line.Join a b) = declares so_far a && declares so_far b
has_place so_far (line.Act a f args) = declares so_far a
has_place so_far (line.Sync a b) = declares so_far a && declares so_far b
has_place so_far (line.Ask a) = declares so_far a && has_room so_far
has_place so_far (line.Next a n) = declares so_far a && has_message so_far n && has_room so_far
has_place so_far (line.Answer a n) = declares so_far a && has_message so_far n && has_room so_far
has_place so_far (line.Take a n) = declares so_far a && has_message so_far n
has_place so_far (line.Inject message) = has_room so_far
has_place so_far (line.Restart a) = declares so_far a
has_place so_far (line.Facts a) = declares so_far a
has_place so_far (line.Effects a) = declares so_far a
has_place so_far (line.Graph a) = declares so_far a
has_place so_far line.Blank = true

abbrev pub one_message_more : Declared → Declared
one_message_more so_far = record so_far { messages = so_far.messages + 1 }

-- what is declared with one line more
abbrev pub with_line : Declared → Line → Declared
with_line so_far (line.Replica a) = record so_far { names = so_far.names ++ a ∷ [] }
with_line so_far (line.Ask a) = one_message_more so_far
with_line so_far (line.Next a n) = one_message_more so_far
with_line so_far (line.Answer a n) = one_message_more so_far
with_line so_far (line.Inject message) = one_message_more so_far
with_line so_far other = so_far

-- Lines, each behind those before it; so many stand before the first.
pub data Lines : Declared → ℕ → List Bytes → List Line → Type 0 where
  done : {so_far : Declared} {before : ℕ} → Lines so_far before [] []
  more : {so_far : Declared} {before : ℕ} {text : Bytes} {texts : List Bytes} {one : Line} {others : List Line} →
      before < most_lines → IsLine text one → has_place so_far one ≡ true → Lines (with_line so_far one) (before + 1) texts others → Lines so_far before (text ∷ texts) (one ∷ others)

-- A line may not stand there: it is one too many, or the bytes are no line that has its place there.
pub record IsRefused (so_far : Declared) (before : ℕ) (text : Bytes) : Type 0 where
  pub none : before < most_lines → (one : Line) → IsLine text one → has_place so_far one ≡ false

-- The line of this number is the first that may not stand where it does.
pub data Refuses : Declared → ℕ → List Bytes → ℕ → Type 0 where
  here : {so_far : Declared} {before : ℕ} {text : Bytes} {texts : List Bytes} → IsRefused so_far before text → Refuses so_far before (text ∷ texts) (before + 1)
  behind : {so_far : Declared} {before number : ℕ} {text : Bytes} {texts : List Bytes} {one : Line} →
      before < most_lines → IsLine text one → has_place so_far one ≡ true → Refuses (with_line so_far one) (before + 1) texts number → Refuses so_far before (text ∷ texts) number

-- the script is these lines
abbrev pub IsScript : Bytes → List Line → Type 0
IsScript script found = Lines nothing_yet 0 (lines script) found

-- the script is refused by the line of this number
abbrev pub IsRefusedAt : Bytes → ℕ → Type 0
IsRefusedAt script number = Refuses nothing_yet 0 (lines script) number
