-- The tokens that bytes of a policy block begin with, and what may stand between them. No two of these forms begin with the
-- same byte, but for the two comments.
use Rattle.std.specs.Prelude.{ℕ, ℤ, pos, neg_ℤ, ◌+◌, Bool, true, false, ◌==◌, ◌&&◌, not, nat_eq, if◌then◌else◌, List, [], ◌∷◌, length, take, drop, codes, Option, Some, None, option_map}
use Rattle.std.specs.Char.{is_ascii_digit}
use Rattle.std.specs.List.{find, starts_with, take_while}
use Rattle.std.specs.Option.{option_and_then, option_or}
use Rattle.std.specs.Str.{byte}
use Rattle.std.specs.Str.Parse.{digits_value}
use Rattle.base_bytes.specs.Values.{fits_int}
use Rattle.base_bytes.specs.Words.{is_word, is_word_byte}
use Rattle.policy_ast.specs.declared.token.TokenKind.{TokenKind}
use Rattle.policy_ast.specs.declared.token.TokenKind.TheVariants.{Word, Number, Quoted}
use Rattle.policy_ast.specs.Lines.{is_line_feed}
use Rattle.policy_ast.specs.Symbols.{symbol_of}
use Rattle.policy_ast.specs.Version.{Version}

-- a token, and how many bytes it takes
abbrev pub SizedToken : Type 0
SizedToken = TokenKind × ℕ

-- what stands behind a prefix, where bytes begin with it
abbrev pub behind : List ℕ → List ℕ → Option (List ℕ)
behind prefix bytes = if starts_with nat_eq bytes prefix then Some (drop (length prefix) bytes) else None

-- the whole run of letters, digits and `_`, where that is a word
unfoldable pub word_at : List ℕ → Option SizedToken
word_at bytes = let run = take_while is_word_byte bytes in if is_word run then Some (Word run, length run) else None

-- the number that digits write, with a minus sign before them or without
abbrev pub number_of : Bool → List ℕ → ℤ
number_of is_negative digits = let size = pos (digits_value 10 digits) in if is_negative then neg_ℤ size else size

-- the whole run of digits, behind a sign of so many bytes, where that is a number in range
abbrev pub number_behind : Bool → ℕ → List ℕ → Option SizedToken
number_behind is_negative sign bytes =
    let digits = take_while is_ascii_digit bytes in
    if not (length digits == 0) && fits_int (number_of is_negative digits) then Some (Number (number_of is_negative digits), sign + length digits) else None

-- a minus sign stands directly before the digits or nowhere
unfoldable pub number_at : List ℕ → Option SizedToken
number_at bytes = if starts_with nat_eq bytes (codes "-") then number_behind true 1 (drop 1 bytes) else number_behind false 0 bytes

abbrev pub is_quotation_mark : ℕ → Bool
is_quotation_mark c = c == byte "\""

abbrev pub is_backslash : ℕ → Bool
is_backslash c = c == byte "\\"

-- the byte that an escape stands for, by the byte behind its backslash
abbrev pub escaped : ℕ → Option ℕ
escaped c =
    if is_backslash c then Some c
    else if is_quotation_mark c then Some c
    else if c == byte "n" then Some (byte "\n")
    else None

-- a byte of the text that is written by so many bytes, in front of the rest of the text
abbrev pub written : ℕ → ℕ → Option (List ℕ × ℕ) → Option (List ℕ × ℕ)
written meant size rest = option_map (λ text. (meant ∷ text.0, text.1 + size)) rest

-- the text that bytes write up to its closing mark, which stands on the same line, and how many bytes these are with the mark:
-- a backslash is read together with the byte behind it
unfoldable pub text_from : List ℕ → Option (List ℕ × ℕ)
text_from [] = None
text_from (c ∷ []) = if is_quotation_mark c then Some ([], 1) else None
text_from (c ∷ next ∷ rest) =
    if is_quotation_mark c then Some ([], 1)
    else if is_line_feed c then None
    else if is_backslash c then option_and_then (λ meant. written meant 2 (text_from rest)) (escaped next)
    else written c 1 (text_from (next ∷ rest))

abbrev pub quoted : List ℕ × ℕ → SizedToken
quoted text = (Quoted text.0, text.1 + 1)

-- a text in quotation marks, with its escapes resolved
unfoldable pub quoted_at : List ℕ → Option SizedToken
quoted_at bytes = option_map quoted (option_and_then text_from (behind (codes "\"") bytes))

-- bytes that are a symbol of a version, and how many they are
abbrev pub sized_symbol : Version → List ℕ → Option SizedToken
sized_symbol version spelled = option_map (λ symbol. (symbol, length spelled)) (symbol_of version spelled)

-- the longest symbol that bytes begin with: none has more than two bytes
unfoldable pub symbol_at : Version → List ℕ → Option SizedToken
symbol_at version bytes = option_or (sized_symbol version (take 2 bytes)) (sized_symbol version (take 1 bytes))

-- the token that bytes begin with
abbrev pub token_at : Version → List ℕ → Option SizedToken
token_at version bytes = option_or (word_at bytes) (option_or (number_at bytes) (option_or (quoted_at bytes) (symbol_at version bytes)))

-- spaces, tabs and line ends separate tokens
abbrev pub separators : List (List ℕ)
separators = codes " " ∷ codes "\t" ∷ codes "\n" ∷ codes "\r\n" ∷ []

unfoldable pub separator_at : List ℕ → Option ℕ
separator_at bytes = option_map length (find (starts_with nat_eq bytes) separators)

-- a comment to the end of the line
unfoldable pub line_comment_at : List ℕ → Option ℕ
line_comment_at bytes = option_map (λ rest. length (take_while (λ c. not (is_line_feed c)) rest) + 2) (behind (codes "//") bytes)

-- how many bytes there are up to the first `*/`, and with it
unfoldable pub comment_end : List ℕ → Option ℕ
comment_end [] = None
comment_end (c ∷ rest) = if starts_with nat_eq (c ∷ rest) (codes "*/") then Some 2 else option_map (λ size. size + 1) (comment_end rest)

-- a comment between `/*` and the first `*/`
unfoldable pub block_comment_at : List ℕ → Option ℕ
block_comment_at bytes = option_and_then (λ rest. option_map (λ size. size + 2) (comment_end rest)) (behind (codes "/*") bytes)

-- how many bytes of trivia bytes begin with: a separator or a comment, which may stand between tokens
abbrev pub trivia_at : List ℕ → Option ℕ
trivia_at bytes = option_or (separator_at bytes) (option_or (line_comment_at bytes) (block_comment_at bytes))
