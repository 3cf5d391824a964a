-- The lines of a script: which bytes are which line.
use Rattle.std.specs.Prelude.{◌≡◌, ℕ, true, List, [], ◌++◌, codes, Some}
use Rattle.std.specs.Str.{is_utf8}
use Rattle.base_bytes.specs.declared.arg.Arg.{Arg}
use Rattle.script.specs.declared.line.Line.{Line}
use Rattle.script.specs.declared.line.Line.TheVariants as line
use Rattle.script.specs.Pieces.{Bytes, Behind, Listed, Mark, Spaces}
use Rattle.script.specs.Tokens.{Part, Word, message_number, replica_name, some_bytes_of_hex}
use Rattle.script.specs.Arguments.{Argument}

-- a line's first part, which says what it does
abbrev pub Verb : Bytes → Bytes → Bytes → Type 0
Verb verb bytes rest = Part Some bytes rest verb

-- nothing but spaces is left
abbrev pub IsEnd : Bytes → Type 0
IsEnd bytes = Spaces bytes []

-- `verb A`
pub record OfOne (verb bytes a : Bytes) : Type 0 where
  pub behind_verb : Bytes
  pub rest : Bytes
  pub verb_first : Verb verb bytes behind_verb
  pub name : Part replica_name behind_verb rest a
  pub ends : IsEnd rest

-- `verb A B`
pub record OfTwo (verb bytes a b : Bytes) : Type 0 where
  pub behind_verb : Bytes
  pub behind_name : Bytes
  pub rest : Bytes
  pub verb_first : Verb verb bytes behind_verb
  pub name : Part replica_name behind_verb behind_name a
  pub other : Part replica_name behind_name rest b
  pub ends : IsEnd rest

-- `verb A n`
pub record OfMessage (verb bytes a : Bytes) (n : ℕ) : Type 0 where
  pub behind_verb : Bytes
  pub behind_name : Bytes
  pub rest : Bytes
  pub verb_first : Verb verb bytes behind_verb
  pub name : Part replica_name behind_verb behind_name a
  pub number : Part message_number behind_name rest n
  pub ends : IsEnd rest

-- `verb A f(args)`
pub record OfCall (verb bytes a f : Bytes) (args : List Arg) : Type 0 where
  pub behind_verb : Bytes
  pub behind_name : Bytes
  pub behind_action : Bytes
  pub inner : Bytes
  pub rest : Bytes
  pub verb_first : Verb verb bytes behind_verb
  pub name : Part replica_name behind_verb behind_name a
  pub action : Behind Word behind_name behind_action f
  pub opens : Mark (codes "(") behind_action inner
  pub arguments : Listed (codes ")") (Behind Argument) inner rest args
  pub ends : IsEnd rest

-- `inject HEX`
pub record OfHex (bytes message : Bytes) : Type 0 where
  pub behind_verb : Bytes
  pub rest : Bytes
  pub verb_first : Verb (codes "inject") bytes behind_verb
  pub hex : Part some_bytes_of_hex behind_verb rest message
  pub ends : IsEnd rest

-- the forms of lines
pub data HasForm (bytes : Bytes) : Line → Type 0 where
  empty : IsEnd bytes → HasForm bytes line.Blank
  comment : {text : Bytes} → bytes ≡ codes "#" ++ text → HasForm bytes line.Blank
  replica : {a : Bytes} → OfOne (codes "replica") bytes a → HasForm bytes (line.Replica a)
  init : {a f : Bytes} {args : List Arg} → OfCall (codes "init") bytes a f args → HasForm bytes (line.Init a f args)
  join : {a b : Bytes} → OfTwo (codes "join") bytes a b → HasForm bytes (line.Join a b)
  act : {a f : Bytes} {args : List Arg} → OfCall (codes "act") bytes a f args → HasForm bytes (line.Act a f args)
  sync : {a b : Bytes} → OfTwo (codes "sync") bytes a b → HasForm bytes (line.Sync a b)
  ask : {a : Bytes} → OfOne (codes "ask") bytes a → HasForm bytes (line.Ask a)
  next : {a : Bytes} {n : ℕ} → OfMessage (codes "next") bytes a n → HasForm bytes (line.Next a n)
  answer : {a : Bytes} {n : ℕ} → OfMessage (codes "answer") bytes a n → HasForm bytes (line.Answer a n)
  take : {a : Bytes} {n : ℕ} → OfMessage (codes "take") bytes a n → HasForm bytes (line.Take a n)
  inject : {message : Bytes} → OfHex bytes message → HasForm bytes (line.Inject message)
  restart : {a : Bytes} → OfOne (codes "restart") bytes a → HasForm bytes (line.Restart a)
  facts : {a : Bytes} → OfOne (codes "facts") bytes a → HasForm bytes (line.Facts a)
  effects : {a : Bytes} → OfOne (codes "effects") bytes a → HasForm bytes (line.Effects a)
  graph : {a : Bytes} → OfOne (codes "graph") bytes a → HasForm bytes (line.Graph a)

-- the bytes are this line: UTF-8 of one of the forms
pub record IsLine (bytes : Bytes) (line : Line) : Type 0 where
  pub utf8 : is_utf8 bytes ≡ true
  pub form : HasForm bytes line
