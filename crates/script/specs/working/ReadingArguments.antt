-- How arguments are read.
use Rattle.std.specs.Prelude.{ℕ, zero, suc, true, false, if◌then◌else◌, codes, Option, Some, None, option_map, option_and_then}
use Rattle.std.specs.Str.{bytes_eq}
use Rattle.hex.specs.Hex.{is_hex_digit}
use Rattle.base_bytes.specs.Words.{begins_with_letter}
use Rattle.base_bytes.specs.declared.arg.Arg.{Arg}
use Rattle.base_bytes.specs.declared.arg.Arg.TheVariants as arg
use Rattle.script.specs.Pieces.{Bytes}
use Rattle.script.specs.Tokens.{author_of, bytes_of_hex, id_of_hex, is_replica_byte}
use Rattle.script.specs.working.Readers.{Reader, after, chosen, listed, mark_at, run_at, unspaced}
use Rattle.script.specs.working.ReadingTokens.{number_at, quoted_at, word_at}

abbrev pub making : {A B : Type 0} → (A → B) → Option (A × Bytes) → Option (B × Bytes)
making make found = option_map (λ a. (make a.0, a.1)) found

-- an argument that begins with no letter
abbrev pub plain_argument : Reader Arg
plain_argument bytes =
    chosen (after (codes "\"") bytes)
    (chosen (after (codes "@") bytes)
    (chosen (after (codes "0x") bytes)
    (making arg.Int (number_at bytes))
    (λ mid. making arg.Raw (run_at is_hex_digit bytes_of_hex mid)))
    (λ mid. making arg.Ident (run_at is_replica_byte author_of mid)))
    (λ mid. making arg.Str (quoted_at mid))

-- an argument that is one word
abbrev pub constant : Bytes → Bytes → Option (Arg × Bytes)
constant word rest =
    if bytes_eq word (codes "true") then Some (arg.Bool true, rest)
    else if bytes_eq word (codes "false") then Some (arg.Bool false, rest)
    else if bytes_eq word (codes "None") then Some (arg.Nothing, rest)
    else None

-- one argument in a pair of parentheses
abbrev pub some_from : Reader Arg → Reader Arg
some_from one bytes = option_and_then (λ a. option_map (λ rest. (arg.Some a.0, rest)) (mark_at (codes ")") a.1)) (one (unspaced bytes))

abbrev pub field_at : Reader Arg → Reader (Bytes × Arg)
field_at one bytes = option_and_then (λ name. option_and_then (λ mid. option_map (λ a. ((name.0, a.0), a.1)) (one (unspaced mid))) (mark_at (codes ":") name.1)) (word_at (unspaced bytes))

-- an id, from behind a word and a colon
abbrev pub ident_at : Bytes → Reader Arg
ident_at word bytes = if bytes_eq word (codes "id") then making arg.Ident (run_at is_hex_digit id_of_hex bytes) else None

-- what stands behind a word that is no part of a path
abbrev pub behind_word : Reader Arg → Bytes → Bytes → Option (Arg × Bytes)
behind_word one word bytes =
    chosen (mark_at (codes "{") bytes)
    (chosen (mark_at (codes "(") bytes)
    (chosen (after (codes ":") bytes)
    (constant word bytes)
    (λ mid. ident_at word mid))
    (λ mid. if bytes_eq word (codes "Some") then some_from one mid else None))
    (λ mid. making (arg.Fields word) (listed (codes "}") (field_at one) mid))

-- an argument that begins with a word
abbrev pub worded_argument : Reader Arg → Reader Arg
worded_argument one bytes =
    option_and_then (λ word. chosen (after (codes "::") word.1) (behind_word one word.0 word.1) (λ mid. making (arg.Variant word.0) (word_at mid))) (word_at bytes)

abbrev pub argument_over : Reader Arg → Reader Arg
argument_over one bytes = if begins_with_letter bytes then worded_argument one bytes else plain_argument bytes

-- arguments that lie in one another at most so deep
unfoldable pub argument_within : ℕ → Reader Arg
argument_within zero bytes = None
argument_within (suc deep) bytes = argument_over (argument_within deep) bytes

abbrev pub argument_at : Reader Arg
argument_at bytes = argument_within 64 (unspaced bytes)
