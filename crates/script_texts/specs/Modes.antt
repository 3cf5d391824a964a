-- What the modes of the program print beside the texts of a script's lines.
use Rattle.std.specs.Prelude.{ℕ, [], ◌∷◌, codes}
use Rattle.std.specs.Fmt.{decimal}
use Rattle.std.specs.List.{concat}
use Rattle.hex.specs.Hex.{encode_lower}
use Rattle.script_texts.specs.declared.words.Input.{Input}
use Rattle.script_texts.specs.declared.words.Input.TheVariants as input
use Rattle.script_texts.specs.declared.words.PolicyFault.{PolicyFault}
use Rattle.script_texts.specs.declared.words.PolicyFault.TheVariants as policy
use Rattle.script_texts.specs.declared.words.Pass.{Pass}
use Rattle.script_texts.specs.declared.words.Pass.TheVariants as pass
use Rattle.script_texts.specs.Bytes.{Bytes}

-- the usage line
abbrev pub usage_text : Bytes
usage_text = codes "usage: aranyad check POLICY | run POLICY SCRIPT [--store DIR] | code POLICY | gen N | serve POLICY SCRIPT --rounds N\n"

-- `policy ok: items N`
abbrev pub checked_text : ℕ → Bytes
checked_text items = concat (codes "policy ok: items " ∷ decimal items ∷ codes "\n" ∷ [])

abbrev pub policy_fault : PolicyFault → Bytes
policy_fault policy.NotUtf8 = codes "not utf-8"
policy_fault policy.NoFrontMatter = codes "no front matter"
policy_fault policy.WrongVersion = codes "wrong version"
policy_fault policy.OpenBlock = codes "open block"
policy_fault policy.BadToken = codes "bad token"
policy_fault policy.Syntax = codes "syntax"
policy_fault policy.IllTyped = codes "type"

-- `policy refused: WHAT, line L`
abbrev pub policy_refused_text : PolicyFault → ℕ → Bytes
policy_refused_text what line = concat (codes "policy refused: " ∷ policy_fault what ∷ codes ", line " ∷ decimal line ∷ codes "\n" ∷ [])

-- what was read
abbrev pub input_word : Input → Bytes
input_word input.Policy = codes "policy"
input_word input.Script = codes "script"
input_word input.Calls = codes "calls"
input_word input.Snapshot = codes "snapshot"
input_word input.Messages = codes "messages"

-- `script refused: line L`
abbrev pub lines_refused_text : Input → ℕ → Bytes
lines_refused_text what line = concat (input_word what ∷ codes " refused: line " ∷ decimal line ∷ codes "\n" ∷ [])

-- `too large: script`
abbrev pub too_large_text : Input → Bytes
too_large_text what = concat (codes "too large: " ∷ input_word what ∷ codes "\n" ∷ [])

-- `journal A refused: damaged at N`
abbrev pub damaged_text : Bytes → ℕ → Bytes
damaged_text name offset = concat (codes "journal " ∷ name ∷ codes " refused: damaged at " ∷ decimal offset ∷ codes "\n" ∷ [])

-- `journal A refused: other policy HEX`
abbrev pub journal_policy_text : Bytes → Bytes → Bytes
journal_policy_text name digest = concat (codes "journal " ∷ name ∷ codes " refused: other policy " ∷ encode_lower digest ∷ codes "\n" ∷ [])

-- `gen N: lines L`
abbrev pub generated_text : ℕ → ℕ → Bytes
generated_text rounds lines = concat (codes "gen " ∷ decimal rounds ∷ codes ": lines " ∷ decimal lines ∷ codes "\n" ∷ [])

-- `A: commands C, facts F, effects E, digest HEX`
abbrev pub summary_text : Bytes → ℕ → ℕ → ℕ → Bytes → Bytes
summary_text name commands facts effects digest =
    concat (name ∷ codes ": commands " ∷ decimal commands ∷ codes ", facts " ∷ decimal facts ∷ codes ", effects " ∷ decimal effects ∷ codes ", digest " ∷ encode_lower digest ∷ codes "\n" ∷ [])

-- who made a turn of a shared replica: the main pass, the caller of its actions, or the worker of another replica
abbrev pub pass_word : Pass → Bytes
pass_word pass.Main = codes "main"
pass_word pass.Calls = codes "calls"
pass_word (pass.Sync name) = concat (codes "sync " ∷ name ∷ [])

-- `  1 main: `, in front of the reply's line
abbrev pub turn_text : ℕ → Pass → Bytes
turn_text number who = concat (codes "  " ∷ decimal number ∷ codes " " ∷ pass_word who ∷ codes ": " ∷ [])

-- `session A: said P, effects E`
abbrev pub said_text : Bytes → ℕ → ℕ → Bytes
said_text name said effects = concat (codes "session " ∷ name ∷ codes ": said " ∷ decimal said ∷ codes ", effects " ∷ decimal effects ∷ codes "\n" ∷ [])

-- `  B: heard H, refused K`
abbrev pub heard_text : Bytes → ℕ → ℕ → Bytes
heard_text name heard refused = concat (codes "  " ∷ name ∷ codes ": heard " ∷ decimal heard ∷ codes ", refused " ∷ decimal refused ∷ codes "\n" ∷ [])

-- `watch A FACT: commits C`
abbrev pub watched_text : Bytes → Bytes → ℕ → Bytes
watched_text name fact commits = concat (codes "watch " ∷ name ∷ codes " " ∷ fact ∷ codes ": commits " ∷ decimal commits ∷ codes "\n" ∷ [])

-- `reader I: reads N`
abbrev pub reader_text : ℕ → ℕ → Bytes
reader_text reader reads = concat (codes "reader " ∷ decimal reader ∷ codes ": reads " ∷ decimal reads ∷ codes "\n" ∷ [])

-- `  n count`
abbrev pub read_text : ℕ → ℕ → Bytes
read_text commits count = concat (codes "  " ∷ decimal commits ∷ codes " " ∷ decimal count ∷ codes "\n" ∷ [])

-- `watch refused: no replica A`, `watch refused: no fact FACT`, `snapshot refused: no replica A`
abbrev pub no_subject_text : Bytes → Bytes → Bytes → Bytes
no_subject_text mode kind name = concat (mode ∷ codes " refused: no " ∷ kind ∷ codes " " ∷ name ∷ codes "\n" ∷ [])

-- `snapshot refused: no finalize`, `snapshot refused: malformed`, `snapshot refused: unclosed`
abbrev pub snapshot_refused_text : Bytes → Bytes
snapshot_refused_text why = concat (codes "snapshot refused: " ∷ why ∷ codes "\n" ∷ [])

-- `snapshot refused: other policy HEX`
abbrev pub snapshot_policy_text : Bytes → Bytes
snapshot_policy_text digest = concat (codes "snapshot refused: other policy " ∷ encode_lower digest ∷ codes "\n" ∷ [])

-- `snapshot HEX: commands N`
abbrev pub snapshot_text : Bytes → ℕ → Bytes
snapshot_text digest commands = concat (codes "snapshot " ∷ encode_lower digest ∷ codes ": commands " ∷ decimal commands ∷ codes "\n" ∷ [])
