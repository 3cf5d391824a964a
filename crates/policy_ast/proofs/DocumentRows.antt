-- The definition of a document's tokens, computed on small documents.
use Rattle.std.proofs.Common.{◌≡◌, ℕ, pos, negsuc, List, [], ◌∷◌, ◌++◌, codes, replicate, refl, Ok, Err, Some, None}
use lib.Utf8.{encode}
use Rattle.std.specs.Str.{is_utf8, chars}
use Rattle.std.specs.Str.Lossy.{utf8_valid_len}
use Rattle.policy_ast.specs.declared.token.Token.{Token}
use Rattle.policy_ast.specs.declared.token.TokenKind.{TokenKind}
use Rattle.policy_ast.specs.declared.token.TokenKind.TheVariants.{Word, Number, Quoted, Symbol}
use Rattle.policy_ast.specs.declared.symbols.TheConstants.{ARROW, BAR, EQUALS, GREATER, UNDERSCORE}
use Rattle.policy_ast.specs.Fences.{blocks_from}
use Rattle.policy_ast.specs.DocumentTokens.{document_tokens, document_version, tokens_from}
use Rattle.policy_ast.specs.DocumentFault.{NotUtf8, NoFrontMatter, WrongVersion, OpenBlock, BadToken}
use Rattle.policy_ast.specs.Lines.{document_lines, lines_of_parts}
use Rattle.policy_ast.specs.Version.{Two}
use Rattle.policy_ast.specs.TokenForms.{block_comment_at, comment_end, line_comment_at, number_at, quoted_at, separator_at, symbol_at, text_from, word_at}

-- a document of a front matter and one policy block with this line in it, which is line 5
in_block : List ℕ → List ℕ
in_block line = codes "---\npolicy-version: 2\n---\n```policy\n" ++ line ++ codes "\n```\n"

token : TokenKind → ℕ → ℕ → Token
token kind start end = record { kind = kind; line = 5; start = start; end = end }

lines_lose_their_ends : document_lines (codes "a\r\nb\n\nc\r")
    ≡ record { text = codes "a"; start = 0; next = 3 } ∷ record { text = codes "b"; start = 3; next = 5 }
    ∷ record { text = []; start = 5; next = 6 } ∷ record { text = codes "c\r"; start = 6; next = 8 } ∷ []
unfolding lines_of_parts
lines_lose_their_ends = refl

without_a_front_matter : document_tokens (codes "x\n") ≡ Err NoFrontMatter
unfolding document_tokens is_utf8 chars encode lines_of_parts
without_a_front_matter = refl

of_another_version : document_tokens (codes "---\npolicy-version: 1\n---\n") ≡ Err (WrongVersion 2)
unfolding document_tokens is_utf8 chars encode lines_of_parts
of_another_version = refl

with_marks_around_the_version : document_tokens (codes "---  \n policy-version :  \"2\" \n---\n") ≡ Ok []
unfolding document_tokens is_utf8 chars encode lines_of_parts blocks_from
with_marks_around_the_version = refl

without_the_key : document_tokens (codes "---\nversion: 2\n---\n") ≡ Err NoFrontMatter
unfolding document_tokens is_utf8 chars encode lines_of_parts
without_the_key = refl

without_its_end : document_tokens (codes "---\npolicy-version: 2\n") ≡ Err NoFrontMatter
unfolding document_tokens is_utf8 chars encode lines_of_parts
without_its_end = refl

of_no_characters : document_tokens (codes "a\n" ++ 200 ∷ []) ≡ Err (NotUtf8 2)
unfolding document_tokens is_utf8 chars encode utf8_valid_len
of_no_characters = refl

words_numbers_and_symbols : document_tokens (in_block (codes "a=>12b -3|_"))
    ≡ Ok (token (Word (codes "a")) 36 37 ∷ token (Symbol ARROW) 37 39 ∷ token (Number (pos 12)) 39 41 ∷ token (Word (codes "b")) 41 42
    ∷ token (Number (negsuc 2)) 43 45 ∷ token (Symbol BAR) 45 46 ∷ token (Symbol UNDERSCORE) 46 47 ∷ [])
unfolding in_block token document_tokens is_utf8 chars encode lines_of_parts blocks_from word_at tokens_from number_at quoted_at symbol_at separator_at line_comment_at block_comment_at
words_numbers_and_symbols = refl

a_text : document_tokens (in_block (codes "\"a\\n\\\"\""))
    ≡ Ok (token (Quoted (codes "a\n\"")) 36 43 ∷ [])
unfolding in_block token document_tokens is_utf8 chars encode lines_of_parts blocks_from word_at tokens_from number_at quoted_at text_from symbol_at separator_at line_comment_at block_comment_at
a_text = refl

comments : document_tokens (in_block (codes "=/* > */>// x"))
    ≡ Ok (token (Symbol EQUALS) 36 37 ∷ token (Symbol GREATER) 44 45 ∷ [])
unfolding in_block token document_tokens is_utf8 chars encode lines_of_parts blocks_from word_at tokens_from number_at quoted_at symbol_at separator_at line_comment_at block_comment_at comment_end
comments = refl

a_comment_that_is_not_ended : document_tokens (in_block (codes "x /* y")) ≡ Err (BadToken 5)
unfolding in_block document_tokens is_utf8 chars encode lines_of_parts blocks_from word_at tokens_from number_at quoted_at symbol_at separator_at line_comment_at block_comment_at comment_end
a_comment_that_is_not_ended = refl

a_number_out_of_range : document_tokens (in_block (codes "9223372036854775808")) ≡ Err (BadToken 5)
unfolding in_block document_tokens is_utf8 chars encode lines_of_parts blocks_from word_at tokens_from number_at quoted_at symbol_at separator_at line_comment_at block_comment_at comment_end
a_number_out_of_range = refl

a_word_too_long : document_tokens (in_block (replicate 65 97)) ≡ Err (BadToken 5)
unfolding in_block document_tokens is_utf8 chars encode lines_of_parts blocks_from word_at tokens_from number_at quoted_at symbol_at separator_at line_comment_at block_comment_at comment_end
a_word_too_long = refl

a_block_left_open : document_tokens (codes "---\npolicy-version: 2\n---\n```policy\n;\n``\n") ≡ Err (OpenBlock 4)
unfolding document_tokens is_utf8 chars encode lines_of_parts blocks_from
a_block_left_open = refl

another_block_left_open : document_tokens (codes "---\npolicy-version: 2\n---\n```rust\n;\n``\n") ≡ Ok []
unfolding document_tokens is_utf8 chars encode lines_of_parts blocks_from
another_block_left_open = refl

escapes_take_their_next_byte : quoted_at (codes "\"a\\\\\" \"") ≡ Some (Quoted (codes "a\\"), 5)
unfolding quoted_at text_from
escapes_take_their_next_byte = refl

an_escape_that_is_not_ended : quoted_at (codes "\"a\\\"") ≡ None
unfolding quoted_at text_from
an_escape_that_is_not_ended = refl

a_backslash_before_no_escape : quoted_at (codes "\"\\t\"") ≡ None
unfolding quoted_at text_from
a_backslash_before_no_escape = refl

a_text_over_two_lines : quoted_at (codes "\"a\nb\"") ≡ None
unfolding quoted_at text_from
a_text_over_two_lines = refl

a_slash_behind_a_star_ends_no_comment_that_it_begins : block_comment_at (codes "/*/ */") ≡ Some 6
unfolding block_comment_at comment_end
a_slash_behind_a_star_ends_no_comment_that_it_begins = refl

the_first_key_wins : document_tokens (codes "---\npolicy-version: 1\npolicy-version: 2\n---\n") ≡ Err (WrongVersion 2)
unfolding document_tokens is_utf8 chars encode lines_of_parts
the_first_key_wins = refl

a_bad_token_before_an_open_block : document_tokens (codes "---\npolicy-version: 2\n---\n```policy\n;\n```\n```policy\n") ≡ Err (OpenBlock 7)
unfolding document_tokens is_utf8 chars encode lines_of_parts blocks_from
a_bad_token_before_an_open_block = refl

a_document_is_of_its_version : document_version (codes "---\npolicy-version: 2\n---\n") ≡ Some Two
unfolding lines_of_parts
a_document_is_of_its_version = refl
