-- What the readers answer, as contracts of private functions see it.
use Rattle.std.specs.Prelude.{◌≡◌, List, Option, Some, None, Result, Ok, Err, ⊤}
use Rattle.std.specs.Borrow.{Bor}
use Rattle.policy_ast.specs.declared.part.Part.{Part}
use Rattle.policy_ast.specs.declared.token.Token.{Token}
use Rattle.policy_ast.specs.grammar.Parts.{Kinds, part}
use Rattle.policy_ast.specs.grammar.Policies.{kinds}
use Rattle.base_bytes.specs.declared.no_memory.NoMemory.{NoMemory}
use Rattle.policy_parse.specs.declared.unparsed.Unparsed.{Unparsed}
use Rattle.policy_parse.specs.declared.unparsed.Unparsed.TheVariants as unparsed

-- A reader's call answered what its definition reads, or that it reads nothing. Out of memory says nothing.
abbrev pub Reads : {X A : Type 0} → (X → A) → Result X Unparsed → Option A → Type 0
Reads view (Ok x) found = found ≡ Some (view x)
Reads view (Err unparsed.NoMatch) found = found ≡ None
Reads view (Err unparsed.NoMemory) found = ⊤

-- such a call's answer for whoever goes on where the tokens don't begin so
abbrev pub or_none : {X : Type 0} → Result X Unparsed → Result (Option X) NoMemory
or_none (Ok x) = Ok (Some x)
or_none (Err unparsed.NoMatch) = Ok None
or_none (Err unparsed.NoMemory) = Err (record {})

-- what was read, with the kinds of the tokens that are left: a part
abbrev pub part_read : {A : Type 0} → Part A × Bor (List Token) → Part A × Kinds
part_read p = (p.0, kinds p.1.now)

-- what is no node
abbrev pub leaf_read : {A : Type 0} → A × Bor (List Token) → Part A × Kinds
leaf_read p = (part p.0 0, kinds p.1.now)

-- an operator
abbrev pub operator_read : {A : Type 0} → A × Bor (List Token) → A × Kinds
operator_read p = (p.0, kinds p.1.now)

-- fixed tokens
abbrev pub fixed_read : Bor (List Token) → Part Unit × Kinds
fixed_read rest = (part tt 0, kinds rest.now)

-- one fixed token
abbrev pub token_read : Bor (List Token) → Kinds
token_read rest = kinds rest.now
