-- What holds of the tokens that bytes begin with.
use Rattle.std.specs.Prelude.{◌≡◌, ◌≢◌, ℕ, ◌<◌, ◌≤◌, List, [], length, take, get_or, Some}
use Rattle.policy_ast.specs.declared.token.TokenKind.{TokenKind}
use Rattle.policy_ast.specs.declared.token.TokenKind.TheVariants.{Symbol}
use Rattle.policy_ast.specs.Symbols.{symbols}
use Rattle.policy_ast.specs.TokenForms.{SizedToken, token_at}
use Rattle.policy_ast.specs.Version.{Version}

-- a token at the head of bytes: the prefix of so many bytes is that token by itself, and no longer prefix is one token
pub record IsLongestToken (version : Version) (bytes : List ℕ) (token : SizedToken) : Type 0 where
  pub read : token_at version (take token.1 bytes) ≡ Some token
  pub longest : (size : ℕ) (kind : TokenKind) → token.1 < size → size ≤ length bytes → token_at version (take size bytes) ≢ Some (kind, size)

-- the longest match is taken, and each symbol is a token
pub record TakesLongest (version : Version) : Type 0 where
  pub token : (bytes : List ℕ) (token : SizedToken) → token_at version bytes ≡ Some token → IsLongestToken version bytes token
  pub symbol : (place : ℕ) → place < length (symbols version) →
      token_at version (get_or (symbols version) place []) ≡ Some (Symbol place, length (get_or (symbols version) place []))
