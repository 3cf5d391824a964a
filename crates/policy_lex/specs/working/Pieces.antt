-- A piece as the code reads it: a token, or trivia.
use Rattle.std.specs.Prelude.{ℕ, Option, Some, None}
use Rattle.policy_ast.specs.declared.token.TokenKind.{TokenKind}
use Rattle.policy_lex.specs.declared.block_tokens.Piece.{Piece}

-- trivia go before a token
abbrev pub piece_of : Option ℕ → Option (TokenKind × ℕ) → Option Piece
piece_of (Some size) token = Some (record { token = None; size = size })
piece_of None (Some token) = Some (record { token = Some token.0; size = token.1 })
piece_of None None = None
