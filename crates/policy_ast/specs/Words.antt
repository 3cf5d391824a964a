-- The reserved words, and names.
use Rattle.std.specs.Prelude.{ℕ, Bool, not, ◌&&◌, List, [], ◌∷◌, codes}
use Rattle.std.specs.List.{list_any}
use Rattle.std.specs.Str.{bytes_eq}
use Rattle.base_bytes.specs.Words.{is_word}
use Rattle.policy_ast.specs.Version.{Version, Two}

-- the words that the grammar of a version keeps for itself. A later version may keep more.
abbrev pub reserved_words : Version → List (List ℕ)
reserved_words Two =
    codes "use" ∷ codes "let" ∷ codes "enum" ∷ codes "struct" ∷ codes "effect" ∷ codes "immutable" ∷ codes "fact" ∷
    codes "command" ∷ codes "function" ∷ codes "finish" ∷ codes "action" ∷ codes "check" ∷ codes "if" ∷ codes "else" ∷
    codes "match" ∷ codes "map" ∷ codes "publish" ∷ codes "return" ∷ codes "create" ∷ codes "update" ∷ codes "delete" ∷
    codes "emit" ∷ codes "is" ∷ codes "Some" ∷ codes "None" ∷ codes "unwrap" ∷ codes "check_unwrap" ∷ codes "this" ∷
    codes "add" ∷ codes "sub" ∷ codes "saturating_add" ∷ codes "saturating_sub" ∷ codes "query" ∷ codes "exists" ∷
    codes "at_least" ∷ codes "at_most" ∷ codes "exactly" ∷ codes "count_up_to" ∷ codes "true" ∷ codes "false" ∷
    codes "optional" ∷ []

-- whether the grammar keeps a word for itself
unfoldable pub is_reserved : Version → List ℕ → Bool
is_reserved version word = list_any (bytes_eq word) (reserved_words version)

-- a word that can name something
abbrev pub is_name : Version → List ℕ → Bool
is_name version word = is_word word && not (is_reserved version word)
