-- How lines are read.
use Rattle.std.specs.Prelude.{ℕ, ◌==◌, if◌then◌else◌, List, length, codes, Option, Some, None, option_map, option_and_then}
use Rattle.std.specs.Str.{bytes_eq, is_utf8}
use Rattle.base_bytes.specs.declared.arg.Arg.{Arg}
use Rattle.script.specs.declared.line.Line.{Line}
use Rattle.script.specs.declared.line.Line.TheVariants as line
use Rattle.script.specs.Pieces.{Bytes}
use Rattle.script.specs.Tokens.{message_number, replica_name, some_bytes_of_hex}
use Rattle.script.specs.working.Readers.{Reader, after, chosen, listed, mark_at, unspaced}
use Rattle.script.specs.working.ReadingArguments.{argument_at}
use Rattle.script.specs.working.ReadingTokens.{part_at, word_at}

-- what was read, where nothing but spaces is left
abbrev pub ended : {A : Type 0} → A × Bytes → Option A
ended found = if length (unspaced found.1) == 0 then Some found.0 else None

unfoldable pub one_name : Bytes → Option Bytes
one_name bytes = option_and_then ended (part_at replica_name bytes)

unfoldable pub two_names : Bytes → Option (Bytes × Bytes)
two_names bytes = option_and_then (λ a. option_and_then (λ b. ended ((a.0, b.0), b.1)) (part_at replica_name a.1)) (part_at replica_name bytes)

unfoldable pub name_and_number : Bytes → Option (Bytes × ℕ)
name_and_number bytes = option_and_then (λ a. option_and_then (λ n. ended ((a.0, n.0), n.1)) (part_at message_number a.1)) (part_at replica_name bytes)

-- the arguments of a call, from behind the mark that opens them
abbrev pub arguments_at : Reader (List Arg)
arguments_at = listed (codes ")") argument_at

unfoldable pub name_and_call : Bytes → Option (Bytes × Bytes × List Arg)
name_and_call bytes =
    option_and_then (λ a. option_and_then (λ f. option_and_then (λ inner. option_and_then (λ args. ended ((a.0, f.0, args.0), args.1)) (arguments_at inner)) (mark_at (codes "(") f.1)) (word_at (unspaced a.1)))
    (part_at replica_name bytes)

unfoldable pub hex_alone : Bytes → Option Bytes
hex_alone bytes = option_and_then ended (part_at some_bytes_of_hex bytes)

-- a line that restarts or shows a replica, by its verb
abbrev pub showing_line : Bytes → Bytes → Option Line
showing_line verb rest =
    if bytes_eq verb (codes "restart") then option_map line.Restart (one_name rest)
    else if bytes_eq verb (codes "facts") then option_map line.Facts (one_name rest)
    else if bytes_eq verb (codes "effects") then option_map line.Effects (one_name rest)
    else if bytes_eq verb (codes "graph") then option_map line.Graph (one_name rest)
    else None

-- a line that makes or takes a message, or one of those
abbrev pub message_line : Bytes → Bytes → Option Line
message_line verb rest =
    if bytes_eq verb (codes "ask") then option_map line.Ask (one_name rest)
    else if bytes_eq verb (codes "next") then option_map (λ n. line.Next n.0 n.1) (name_and_number rest)
    else if bytes_eq verb (codes "answer") then option_map (λ n. line.Answer n.0 n.1) (name_and_number rest)
    else if bytes_eq verb (codes "take") then option_map (λ n. line.Take n.0 n.1) (name_and_number rest)
    else if bytes_eq verb (codes "inject") then option_map line.Inject (hex_alone rest)
    else showing_line verb rest

-- a line from behind its verb
abbrev pub line_behind : Bytes → Bytes → Option Line
line_behind verb rest =
    if bytes_eq verb (codes "replica") then option_map line.Replica (one_name rest)
    else if bytes_eq verb (codes "init") then option_map (λ c. line.Init c.0 c.1 c.2) (name_and_call rest)
    else if bytes_eq verb (codes "join") then option_map (λ n. line.Join n.0 n.1) (two_names rest)
    else if bytes_eq verb (codes "act") then option_map (λ c. line.Act c.0 c.1 c.2) (name_and_call rest)
    else if bytes_eq verb (codes "sync") then option_map (λ n. line.Sync n.0 n.1) (two_names rest)
    else message_line verb rest

-- a line that is neither a comment nor spaces alone
abbrev pub spoken : Bytes → Option Line
spoken bytes = option_and_then (λ verb. line_behind verb.0 verb.1) (part_at Some bytes)

-- a line by its form
abbrev pub form_of : Bytes → Option Line
form_of bytes = if length (unspaced bytes) == 0 then Some line.Blank else chosen (after (codes "#") bytes) (spoken bytes) (λ text. Some line.Blank)

-- the line that bytes are
unfoldable pub line_of : Bytes → Option Line
line_of bytes = if is_utf8 bytes then form_of bytes else None
