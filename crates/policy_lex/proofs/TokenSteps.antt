-- The tokens of bytes, piece by piece.
use Rattle.std.proofs.Common.{◌≡◌, ℕ, zero, suc, ◌+◌, ◌-◌, ◌<◌, ◌≤◌, List, [], ◌∷◌, ◌++◌, length, drop, refl, ap, sym, ◌∙◌, arith, append_assoc, append-nil, slice_range, length-append, length-take, map, Option, Some, None, Ok, Err, IfSome}
use Rattle.std.proofs.lemmas.List.{drop-drop, drop-take}
use Rattle.policy_ast.specs.declared.token.Token.{Token}
use Rattle.policy_ast.specs.declared.token.TokenKind.{TokenKind}
use Rattle.policy_ast.specs.DocumentFault.{DocumentFault, BadToken}
use Rattle.policy_ast.specs.DocumentTokens.{IsTokenOf, TokensResult, block_tokens, blocks_tokens, both_tokens, with_tokens, token_of, tokens_from, with_piece}
use Rattle.policy_ast.specs.Lines.{line_number}
use Rattle.policy_ast.specs.TokenForms.{SizedToken, token_at, trivia_at}
use Rattle.policy_ast.specs.declared.version.Version.{Version}
use Rattle.policy_lex.specs.working.BlockViews.{plain}
use Rattle.policy_ast.proofs.LongestTokens.{token_in_prefix}
use Rattle.policy_ast.proofs.TokenPrefixes.{none_some, same_some}
use Rattle.policy_lex.specs.declared.block_tokens.Piece.{Piece}
use Rattle.policy_lex.specs.declared.blocks.Block.{Block}
use Rattle.policy_lex.specs.working.Pieces.{piece_of}
use Rattle.policy_lex.proofs.LineNumbers.{taken_twice}

-- no token begins inside a piece
tokens_inside : (version : Version) (document : List ℕ) (place inside : ℕ) (bytes : List ℕ) → tokens_from version document place inside bytes ≡ tokens_from version document (place + inside) 0 (drop inside bytes)
unfolding tokens_from
tokens_inside version document place zero bytes = let same : place ≡ place + 0 = omega arith in ap (λ p. tokens_from version document p 0 bytes) same
tokens_inside version document place (suc inside) [] = refl
tokens_inside version document place (suc inside) (c ∷ bytes) =
    let same : place + 1 + inside ≡ place + suc inside = omega arith in
    tokens_inside version document (place + 1) inside bytes ∙ ap (λ p. tokens_from version document p 0 (drop inside bytes)) same

-- what a piece makes of the tokens behind it
abbrev pub after_piece : List ℕ → ℕ → Option TokenKind → ℕ → TokensResult → TokensResult
after_piece document place None size tokens = tokens
after_piece document place (Some kind) size tokens = with_tokens (token_of document place (kind, size) ∷ []) tokens

pieced : (document : List ℕ) (place : ℕ) (trivia : Option ℕ) (token : Option SizedToken) (piece : Piece) (behind : ℕ → TokensResult) → Some piece ≡ piece_of trivia token
    → with_piece document place trivia token behind ≡ after_piece document place piece.token piece.size (behind piece.size)
pieced document place (Some size) token piece behind is =
    let same : piece ≡ record { token = None; size = size } = same_some piece (record { token = None; size = size }) is in
    ap (λ (p : Piece). after_piece document place p.token p.size (behind p.size)) (sym same)
pieced document place None (Some token) piece behind is =
    let same : piece ≡ record { token = Some token.0; size = token.1 } = same_some piece (record { token = Some token.0; size = token.1 }) is in
    ap (λ (p : Piece). after_piece document place p.token p.size (behind p.size)) (sym same)
pieced document place None None piece behind is = absurd (cc)

unpieced : (document : List ℕ) (place : ℕ) (trivia : Option ℕ) (token : Option SizedToken) (behind : ℕ → TokensResult) → None ≡ piece_of trivia token
    → with_piece document place trivia token behind ≡ Err (BadToken (line_number document place))
unpieced document place (Some size) token behind is = absurd (cc)
unpieced document place None (Some token) behind is = absurd (cc)
unpieced document place None None behind is = refl

stepped : (version : Version) (document : List ℕ) (place : ℕ) (bytes : List ℕ) → 0 < length bytes
    → tokens_from version document place 0 bytes ≡ with_piece document place (trivia_at bytes) (token_at version bytes) (λ size. tokens_from version document (place + 1) (size - 1) (drop 1 bytes))
unfolding tokens_from
stepped version document place [] some = absurd (omega (arith, some))
stepped version document place (c ∷ bytes) some = refl

advanced : (version : Version) (document : List ℕ) (place size : ℕ) (bytes : List ℕ) → 0 < size
    → tokens_from version document (place + 1) (size - 1) (drop 1 bytes) ≡ tokens_from version document (place + size) 0 (drop size bytes)
advanced version document place size bytes some =
    let there : place + 1 + (size - 1) ≡ place + size = omega arith in
    let whole : 1 + (size - 1) ≡ size = omega arith in
    tokens_inside version document (place + 1) (size - 1) (drop 1 bytes)
    ∙ rw (drop-drop (size - 1) 1 bytes, there, whole) refl

-- what is left of a range behind a piece
range_passed : (document : List ℕ) (place to size : ℕ) → place + size ≤ to → drop size (slice_range document place to) ≡ slice_range document (place + size) to
range_passed document place to size within =
    let whole : to - place ≡ size + (to - (place + size)) = omega arith in
    rw (whole, drop-take size (to - (place + size)) (drop place document), drop-drop size place document) refl

-- the tokens of a range, by the piece that it begins with
pub tokens_passed : (version : Version) (document : List ℕ) (place to : ℕ) (piece : Piece) → 0 < length (slice_range document place to) → 0 < piece.size → place + piece.size ≤ to
    → Some piece ≡ piece_of (trivia_at (slice_range document place to)) (token_at version (slice_range document place to))
    → tokens_from version document place 0 (slice_range document place to)
    ≡ after_piece document place piece.token piece.size (tokens_from version document (place + piece.size) 0 (slice_range document (place + piece.size) to))
tokens_passed version document place to piece left some within is =
    let range = slice_range document place to in
    stepped version document place range left
    ∙ pieced document place (trivia_at range) (token_at version range) piece (λ size. tokens_from version document (place + 1) (size - 1) (drop 1 range)) is
    ∙ ap (after_piece document place piece.token piece.size)
    (advanced version document place piece.size range some ∙ ap (tokens_from version document (place + piece.size) 0) (range_passed document place to piece.size within))

-- a range that begins with no piece
pub tokens_bad : (version : Version) (document : List ℕ) (place to : ℕ) → 0 < length (slice_range document place to)
    → None ≡ piece_of (trivia_at (slice_range document place to)) (token_at version (slice_range document place to))
    → tokens_from version document place 0 (slice_range document place to) ≡ Err (BadToken (line_number document place))
tokens_bad version document place to left is =
    let range = slice_range document place to in
    stepped version document place range left
    ∙ unpieced document place (trivia_at range) (token_at version range) (λ size. tokens_from version document (place + 1) (size - 1) (drop 1 range)) is

no_tokens : (version : Version) (document : List ℕ) (place : ℕ) (bytes : List ℕ) → length bytes ≡ 0 → tokens_from version document place 0 bytes ≡ Ok []
unfolding tokens_from
no_tokens version document place [] empty = refl
no_tokens version document place (c ∷ bytes) empty = absurd (omega (arith, empty))

-- a range of which nothing is left
pub tokens_past : (version : Version) (document : List ℕ) (place to : ℕ) → to ≤ place → tokens_from version document place 0 (slice_range document place to) ≡ Ok []
tokens_past version document place to past = no_tokens version document place (slice_range document place to) (omega (arith, length-take {A = ℕ}))

pub one_token_more : (prefix : List Token) (token : Token) (tokens : TokensResult) → with_tokens (prefix ++ token ∷ []) tokens ≡ with_tokens prefix (with_tokens (token ∷ []) tokens)
one_token_more prefix token (Ok tokens) = ap Ok (append_assoc prefix (token ∷ []) tokens)
one_token_more prefix token (Err fault) = refl

pub no_token_more : (prefix : List Token) → with_tokens prefix (Ok []) ≡ Ok prefix
no_token_more prefix = ap Ok (append-nil prefix)

-- one token more takes one byte more, at least
pub few_more : (tokens : List Token) (token : Token) (place size : ℕ) → length tokens ≤ place → 0 < size → length (tokens ++ token ∷ []) ≤ place + size
few_more tokens token place size few some = omega (arith, few, some, length-append tokens (token ∷ []))

ok_or : List Token → TokensResult → List Token
ok_or x (Ok y) = y
ok_or x (Err fault) = x

with_tokens_twice : (prefix middle : List Token) (tokens : TokensResult) → with_tokens (prefix ++ middle) tokens ≡ with_tokens prefix (with_tokens middle tokens)
with_tokens_twice prefix middle (Ok tokens) = ap Ok (append_assoc prefix middle tokens)
with_tokens_twice prefix middle (Err fault) = refl

with_tokens_both : (prefix all : List Token) (first behind : TokensResult) → with_tokens prefix first ≡ Ok all → with_tokens all behind ≡ with_tokens prefix (both_tokens first behind)
unfolding ok_or
with_tokens_both prefix all (Ok middle) behind is =
    let same : prefix ++ middle ≡ all = ap (ok_or []) is in
    ap (λ ts. with_tokens ts behind) (sym same) ∙ with_tokens_twice prefix middle behind
with_tokens_both prefix all (Err fault) behind is = absurd (cc)

with_tokens_failed : (prefix : List Token) (fault : DocumentFault) (first behind : TokensResult) → with_tokens prefix first ≡ Err fault → with_tokens prefix (both_tokens first behind) ≡ Err fault
with_tokens_failed prefix fault (Ok middle) behind is = absurd (cc)
with_tokens_failed prefix fault (Err other) behind is = is

-- the tokens of blocks, block by block
pub blocks_more_tokens : (version : Version) (document : List ℕ) (tokens all : List Token) (block : Block) (blocks : List Block) → with_tokens tokens (block_tokens version document (plain block)) ≡ Ok all
    → with_tokens all (blocks_tokens version document (map plain blocks)) ≡ with_tokens tokens (blocks_tokens version document (map plain (block ∷ blocks)))
blocks_more_tokens version document tokens all block blocks is = with_tokens_both tokens all (block_tokens version document (plain block)) (blocks_tokens version document (map plain blocks)) is

pub blocks_failed : (version : Version) (document : List ℕ) (tokens : List Token) (fault : DocumentFault) (block : Block) (blocks : List Block) → with_tokens tokens (block_tokens version document (plain block)) ≡ Err fault
    → with_tokens tokens (blocks_tokens version document (map plain (block ∷ blocks))) ≡ Err fault
blocks_failed version document tokens fault block blocks is = with_tokens_failed tokens fault (block_tokens version document (plain block)) (blocks_tokens version document (map plain blocks)) is

-- where the first has a fault, so has the second
pub failed_alike : (fault : Option DocumentFault) (a b : TokensResult) → ((f : DocumentFault) → a ≡ Err f → b ≡ Err f) → IfSome fault (λ f. a ≡ Err f) → IfSome fault (λ f. b ≡ Err f)
failed_alike None a b go is = tt
failed_alike (Some f) a b go is = go f is

token_of_piece : (trivia : Option ℕ) (token : Option SizedToken) (piece : Piece) (kind : TokenKind) → Some piece ≡ piece_of trivia token → piece.token ≡ Some kind → token ≡ Some (kind, piece.size)
token_of_piece (Some size) token piece kind is has =
    let same : piece ≡ record { token = None; size = size } = same_some piece (record { token = None; size = size }) is in
    absurd (none_some (sym (ap (λ (p : Piece). p.token) same) ∙ has))
token_of_piece None (Some token) piece kind is has =
    let same : piece ≡ record { token = Some token.0; size = token.1 } = same_some piece (record { token = Some token.0; size = token.1 }) is in
    let its : token.0 ≡ kind = same_some token.0 kind (sym (ap (λ (p : Piece). p.token) same) ∙ has) in
    let size : token.1 ≡ piece.size = sym (ap (λ (p : Piece). p.size) same) in
    rw (its, size) refl
token_of_piece None None piece kind is has = absurd (none_some (sym is))

-- a token that a piece of a range is, with its line
pub token_placed : (version : Version) (document : List ℕ) (place to : ℕ) (piece : Piece) (kind : TokenKind) (line : ℕ) → 0 < piece.size → place + piece.size ≤ to → to ≤ length document
    → Some piece ≡ piece_of (trivia_at (slice_range document place to)) (token_at version (slice_range document place to)) → piece.token ≡ Some kind → line ≡ line_number document place
    → IsTokenOf version document (record { kind = kind; line = line; start = place; end = place + piece.size })
token_placed version document place to piece kind line some before within is has line_is =
    let size : place + piece.size - place ≡ piece.size = omega arith in
    record {
      ordered = omega (arith, some);
      within = omega (arith, before, within);
      line = line_is;
      read = rw (size, ← taken_twice piece.size (to - place) (drop place document) (omega (arith, before)))
          (token_in_prefix version piece.size (slice_range document place to) (kind, piece.size) (token_of_piece (trivia_at (slice_range document place to)) (token_at version (slice_range document place to)) piece kind is has) (omega arith));
    }
