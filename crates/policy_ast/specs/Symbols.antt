-- The symbols of the language, by their text. This is the one list of them: the token of a symbol has its place in it, from 0.
use Prim.Native.String.{String}
use Rattle.std.specs.Prelude.{◌≡◌, ℕ, List, [], ◌∷◌, codes, Option, Some, option_map}
use Rattle.std.specs.List.{position, position_or_len}
use Rattle.std.specs.Str.{bytes_eq}
use Rattle.policy_ast.specs.declared.token.TokenKind.{TokenKind}
use Rattle.policy_ast.specs.declared.token.TokenKind.TheVariants.{Symbol}
use Rattle.policy_ast.specs.Version.{Version, Two}

-- the symbols of a version. A later version may have more of them, behind these.
abbrev pub symbols : Version → List (List ℕ)
symbols Two =
    codes "{" ∷ codes "}" ∷ codes "[" ∷ codes "]" ∷ codes "(" ∷ codes ")" ∷ codes "," ∷ codes ":" ∷ codes "::" ∷ codes "." ∷
    codes "?" ∷ codes "=" ∷ codes "=>" ∷ codes "==" ∷ codes "!=" ∷ codes "<" ∷ codes "<=" ∷ codes ">" ∷ codes ">=" ∷
    codes "&&" ∷ codes "||" ∷ codes "|" ∷ codes "!" ∷ codes "_" ∷ []

-- the token of a text, where that is a symbol of a version
abbrev pub symbol_of : Version → List ℕ → Option TokenKind
symbol_of version text = option_map Symbol (position (bytes_eq text) (symbols version))

-- the index of a symbol in the list of a version, and its token
abbrev pub symbol_index : Version → String → ℕ
symbol_index version text = position_or_len (bytes_eq (codes text)) (symbols version)

abbrev pub symbol : Version → String → TokenKind
symbol version text = Symbol (symbol_index version text)

-- the symbol of this text has the token of this number
abbrev pub IsSymbol : Version → String → ℕ → Type 0
IsSymbol version text number = symbol_of version (codes text) ≡ Some (Symbol number)
