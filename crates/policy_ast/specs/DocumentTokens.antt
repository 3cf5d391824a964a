-- The tokens of a document: those of its policy blocks in order, or the first fault.
use Rattle.std.specs.Prelude.{◌≡◌, ℕ, zero, suc, ◌+◌, ◌-◌, ◌<◌, ◌≤◌, length, if◌then◌else◌, List, [], ◌∷◌, ◌++◌, slice_range, Option, Some, None, Result, Ok, Err}
use Rattle.std.specs.Option.{option_and_then}
use Rattle.std.specs.Str.{is_utf8}
use Rattle.std.specs.Str.Lossy.{utf8_valid_len}
use Rattle.policy_ast.specs.declared.token.Token.{Token}
use Rattle.policy_ast.specs.Fences.{BlocksResult, PolicyBlock, blocks_from}
use Rattle.policy_ast.specs.DocumentFault.{DocumentFault, NotUtf8, NoFrontMatter, WrongVersion, BadToken}
use Rattle.policy_ast.specs.FrontMatter.{FrontMatter, front_matter}
use Rattle.policy_ast.specs.Lines.{Line, document_lines, line_number}
use Rattle.policy_ast.specs.TokenForms.{SizedToken, token_at, trivia_at}
use Rattle.policy_ast.specs.Version.{Version}

-- tokens, or the fault that keeps a document from having any
abbrev pub TokensResult : Type 0
TokensResult = Result (List Token) DocumentFault

-- a token of so many bytes at a place of a document
abbrev pub token_of : List ℕ → ℕ → SizedToken → Token
token_of document place token = record { kind = token.0; line = line_number document place; start = place; end = place + token.1 }

-- tokens in front of others
abbrev pub with_tokens : List Token → TokensResult → TokensResult
with_tokens tokens (Ok behind) = Ok (tokens ++ behind)
with_tokens tokens (Err fault) = Err fault

-- what begins at a place: trivia, a token, or else a bad token; and the tokens behind it, by how many bytes it takes
abbrev pub with_piece : List ℕ → ℕ → Option ℕ → Option SizedToken → (ℕ → TokensResult) → TokensResult
with_piece document place (Some size) token behind = behind size
with_piece document place None (Some token) behind = with_tokens (token_of document place token ∷ []) (behind token.1)
with_piece document place None None behind = Err (BadToken (line_number document place))

-- the tokens of bytes that begin at a place of a document, of which so many in front belong to a piece before: at these begins none
unfoldable pub tokens_from : Version → List ℕ → ℕ → ℕ → List ℕ → TokensResult
tokens_from version document place inside [] = Ok []
tokens_from version document place (suc inside) (c ∷ rest) = tokens_from version document (place + 1) inside rest
tokens_from version document place zero (c ∷ rest) =
    with_piece document place (trivia_at (c ∷ rest)) (token_at version (c ∷ rest)) (λ size. tokens_from version document (place + 1) (size - 1) rest)

-- the tokens of a block; its end ends each token and comment
abbrev pub block_tokens : Version → List ℕ → PolicyBlock → TokensResult
block_tokens version document block = tokens_from version document block.from 0 (slice_range document block.from block.to)

-- the tokens of two things, one behind the other
abbrev pub both_tokens : TokensResult → TokensResult → TokensResult
both_tokens (Ok tokens) behind = with_tokens tokens behind
both_tokens (Err fault) behind = Err fault

-- the tokens of blocks, one after another
abbrev pub blocks_tokens : Version → List ℕ → List PolicyBlock → TokensResult
blocks_tokens version document [] = Ok []
blocks_tokens version document (block ∷ blocks) = both_tokens (block_tokens version document block) (blocks_tokens version document blocks)

abbrev pub tokens_in : Version → List ℕ → BlocksResult → TokensResult
tokens_in version document (Ok blocks) = blocks_tokens version document blocks
tokens_in version document (Err fault) = Err fault

-- the tokens of the lines behind a front matter, by the place of its key and the version that this names
abbrev pub version_tokens : List ℕ → ℕ → Option Version → List Line → TokensResult
version_tokens document key None behind = Err (WrongVersion (line_number document key))
version_tokens document key (Some version) behind = tokens_in version document (blocks_from 0 document behind)

abbrev pub tokens_behind : List ℕ → Option FrontMatter → TokensResult
tokens_behind document None = Err NoFrontMatter
tokens_behind document (Some front) = version_tokens document front.key.start front.version front.behind

-- the tokens of a document
unfoldable pub document_tokens : List ℕ → TokensResult
document_tokens document =
    if is_utf8 document then tokens_behind document (front_matter (document_lines document))
    else Err (NotUtf8 (line_number document (utf8_valid_len document)))

-- the version that a document is written in
abbrev pub document_version : List ℕ → Option Version
document_version document = option_and_then (λ (front : FrontMatter). front.version) (front_matter (document_lines document))

-- the token is one of the document: its slice, read by itself, is that token and nothing else, and its line is the one in which it begins
pub record IsTokenOf (version : Version) (document : List ℕ) (token : Token) : Type 0 where
  pub ordered : token.start < token.end
  pub within : token.end ≤ length document
  pub line : token.line ≡ line_number document token.start
  pub read : token_at version (slice_range document token.start token.end) ≡ Some (token.kind, token.end - token.start)
