-- What the files of a policy and of a script are taken for: a well-typed policy, lines, or a refusal.
use Rattle.std.specs.Prelude.{◌≡◌, ℕ, nat_lt, if◌then◌else◌, List, length, Option, Some, None, Ok, Err}
use Rattle.sha2.specs.Sha256.{sha256}
use Rattle.policy_ast.specs.DocumentFault.{DocumentFault, NotUtf8, NoFrontMatter, WrongVersion, OpenBlock, BadToken}
use Rattle.policy_ast.specs.DocumentTokens.{document_tokens}
use Rattle.policy_ast.specs.declared.policy.PlacedItem.{PlacedItem}
use Rattle.policy_ast.specs.declared.token.Token.{Token}
use Rattle.policy_ast.specs.grammar.Policies.{IsFaultLine, Spells}
use Rattle.policy_rules.specs.WellTyped.{HasTypeFault, IsWellTyped}
use Rattle.script.specs.Scripts.{IsRefusedAt, IsScript}
use Rattle.script_texts.specs.Modes.{policy_refused_text}
use Rattle.script_texts.specs.declared.words.PolicyFault.TheVariants as why
use Rattle.aranyad.specs.declared.loading.Loaded.{Loaded}
use Rattle.aranyad.specs.declared.loading.Loaded.TheVariants as loaded
use Rattle.aranyad.specs.declared.loading.Script.{Script}
use Rattle.aranyad.specs.declared.loading.Script.TheVariants as script

-- ---- files

abbrev pub policy_limit : ℕ
policy_limit = 1048576

abbrev pub script_limit : ℕ
script_limit = 4194304

-- A file that is read up to a limit: it isn't there, or it is too long, or its bytes.
abbrev pub limited : ℕ → Option (List ℕ) → Option (Option (List ℕ))
limited limit None = None
limited limit (Some file) = Some (if nat_lt limit (length file) then None else Some file)

-- What is so of the bytes of a file that is there.
abbrev pub Holds : Option (Option (List ℕ)) → (Option (List ℕ) → Type 0) → Type 0
Holds file is = (bytes : Option (List ℕ)) × (file ≡ Some bytes) × is bytes

-- ---- policies

-- The line that is printed for a document without tokens.
abbrev pub fault_line : DocumentFault → List ℕ
fault_line (NotUtf8 line) = policy_refused_text why.NotUtf8 line
fault_line NoFrontMatter = policy_refused_text why.NoFrontMatter 1
fault_line (WrongVersion line) = policy_refused_text why.WrongVersion line
fault_line (OpenBlock line) = policy_refused_text why.OpenBlock line
fault_line (BadToken line) = policy_refused_text why.BadToken line

-- Items that were spelled, in a document of this digest: the first that isn't well typed refuses it.
pub data IsTyped (digest : List ℕ) (policy : List PlacedItem) : Loaded → Type 0 where
  ill_typed : (line : ℕ) → HasTypeFault policy line → IsTyped digest policy (loaded.Refused (policy_refused_text why.IllTyped line))
  well_typed : IsWellTyped policy → IsTyped digest policy (loaded.Whole digest policy)

-- Tokens of such a document: they spell items, or there is a syntax fault.
pub data IsParsed (digest : List ℕ) (tokens : List Token) : Loaded → Type 0 where
  no_items : (line : ℕ) → IsFaultLine tokens line → IsParsed digest tokens (loaded.Refused (policy_refused_text why.Syntax line))
  items : {is : Loaded} (policy : List PlacedItem) → Spells tokens policy → IsTyped digest policy is → IsParsed digest tokens is

-- A document: it has tokens, or a fault before.
pub data IsRead (document : List ℕ) : Loaded → Type 0 where
  no_tokens : (fault : DocumentFault) → document_tokens document ≡ Err fault → IsRead document (loaded.Refused (fault_line fault))
  tokens : {is : Loaded} (ts : List Token) → document_tokens document ≡ Ok ts → IsParsed (sha256 document) ts is → IsRead document is

-- A policy's file: its document, where it isn't too long.
abbrev pub IsLoaded : Option (List ℕ) → Loaded → Type 0
IsLoaded None is = is ≡ loaded.TooLarge
IsLoaded (Some document) is = IsRead document is

-- ---- scripts

-- A script's file: its lines, or the first that is refused, where it isn't too long.
abbrev pub IsScriptFile : Option (List ℕ) → Script → Type 0
IsScriptFile None is = is ≡ script.TooLarge
IsScriptFile (Some bytes) script.TooLarge = ⊥
IsScriptFile (Some bytes) (script.Refused number) = IsRefusedAt bytes number
IsScriptFile (Some bytes) (script.Lines lines) = IsScript bytes lines.items

-- The lines of a script stand in their order, whatever the files tell.
abbrev pub ArePlaced : Script → Type 0
ArePlaced script.TooLarge = Unit {0}
ArePlaced (script.Refused number) = Unit {0}
ArePlaced (script.Lines lines) = (bytes : List ℕ) × IsScript bytes lines.items
