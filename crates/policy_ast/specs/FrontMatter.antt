-- The front matter of a document, which gives the version.
use Rattle.std.specs.Prelude.{ℕ, Bool, ◌==◌, ◌&&◌, ◌||◌, not, if◌then◌else◌, List, [], ◌∷◌, ◌++◌, length, drop, codes, Option, Some, None, option_map}
use Rattle.std.specs.List.{after_first, before_first, find, list_any, take_while}
use Rattle.std.specs.Str.{byte}
use Rattle.policy_ast.specs.Lines.{Line}
use Rattle.policy_ast.specs.Spaces.{is_before_spaces, is_between_spaces}
use Rattle.policy_ast.specs.Version.{Version, Two}

-- a line that begins or ends the front matter: `---`, trailing spaces aside
abbrev pub is_rule : List ℕ → Bool
is_rule text = is_before_spaces (codes "---") text

abbrev pub is_colon : ℕ → Bool
is_colon c = c == byte ":"

-- the text before the first colon is `policy-version`, spaces around it aside
abbrev pub gives_version : List ℕ → Bool
gives_version text = list_any is_colon text && is_between_spaces (codes "policy-version") (before_first is_colon text)

-- a text is this name, spaces around it and then one pair of quotation marks aside
abbrev pub names : List ℕ → List ℕ → Bool
names name text = is_between_spaces name text || is_between_spaces (codes "\"" ++ name ++ codes "\"") text

-- the version that a line names behind its first colon, if it is one of these
abbrev pub named_version : List ℕ → Option Version
named_version text = if names (codes "2") (after_first is_colon text) then Some Two else None

-- what a front matter says: the line that gives the version, the version that it names, and the lines behind the end
pub record FrontMatter : Type 0 where
  pub key : Line
  pub version : Option Version
  pub behind : List Line

-- of the lines inside, the first that gives the version
abbrev pub with_key : Option Line → List Line → Option FrontMatter
with_key found behind = option_map (λ line. record { key = line; version = named_version line.text; behind = behind }) found

-- the lines inside a front matter, and those from its end on
abbrev pub closed : List Line → List Line → Option FrontMatter
closed inside [] = None
closed inside (end ∷ behind) = with_key (find (λ line. gives_version line.text) inside) behind

-- the front matter of the lines behind the first one
abbrev pub behind_rule : List Line → Option FrontMatter
behind_rule lines =
    let inside = take_while (λ line. not (is_rule line.text)) lines in
    closed inside (drop (length inside) lines)

-- the front matter that lines begin with; none where the first line, the end or the key is missing
abbrev pub front_matter : List Line → Option FrontMatter
front_matter [] = None
front_matter (first ∷ lines) = if is_rule first.text then behind_rule lines else None
