-- The front matter as the code reads it, line by line.
use Rattle.std.specs.Prelude.{ℕ, if◌then◌else◌, List, Option, Some, None, option_map}
use Rattle.policy_ast.specs.FrontMatter.{FrontMatter, gives_version, named_version}
use Rattle.policy_ast.specs.Lines.{Line}
use Rattle.policy_ast.specs.declared.version.Version.{Version}
use Rattle.policy_lex.specs.declared.front_matter.FrontMatter.{FrontMatter as FoundFront}
use Rattle.policy_lex.specs.declared.front_matter.Key.{Key}
use Rattle.policy_lex.specs.working.LineViews.{lines_at}

-- a front matter by its key's place, its version, and the lines behind it
pub record PlacedFront : Type 0 where
  pub key : ℕ
  pub version : Option Version
  pub behind : List Line

abbrev pub placed : FrontMatter → PlacedFront
placed front = record { key = front.key.start; version = front.version; behind = front.behind }

-- the same of what the code finds in a document
abbrev pub found : List ℕ → FoundFront → PlacedFront
found document front = record { key = front.key; version = front.version; behind = lines_at document front.behind }

-- the key that a line is
abbrev pub key_of : Line → Option Key
key_of line = if gives_version line.text then Some (record { start = line.start; version = named_version line.text }) else None

-- the front matter that a line ends, by the key that was found before it
abbrev pub closed_by : Option Key → ℕ → Option FoundFront
closed_by key behind = option_map (λ (k : Key). record { key = k.start; version = k.version; behind = behind }) key
