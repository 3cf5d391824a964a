-- What an answer says of a definition's value.
use Rattle.std.specs.Prelude.{◌≡◌, List, Option, Some, None, Result, Ok, Err, IfSome, Vec}
use Rattle.policy_ast.specs.DocumentFault.{DocumentFault}
use Rattle.policy_ast.specs.DocumentFault as fault
use Rattle.policy_lex.specs.declared.fault.LexFault.{LexFault}
use Rattle.policy_lex.specs.declared.fault.LexFault.TheVariants.{NotUtf8, NoFrontMatter, WrongVersion, OpenBlock, BadToken, NoMemory}

-- the fault of the document that an answer names; out of memory names none
abbrev pub named : LexFault → Option DocumentFault
named (NotUtf8 line) = Some (fault.NotUtf8 line)
named NoFrontMatter = Some fault.NoFrontMatter
named (WrongVersion line) = Some (fault.WrongVersion line)
named (OpenBlock line) = Some (fault.OpenBlock line)
named (BadToken line) = Some (fault.BadToken line)
named NoMemory = None

-- an answer is the value that is defined, or that memory ran out
abbrev pub IsAnswer : {A : Type 0} → Result A DocumentFault → Result A LexFault → Type 0
IsAnswer defined (Ok value) = defined ≡ Ok value
IsAnswer defined (Err fault) = IfSome (named fault) (λ f. defined ≡ Err f)

-- an answer's vector by its elements
abbrev pub listed : {A Allocator : Type 0} → Result (Vec A Allocator) LexFault → Result (List A) LexFault
listed (Ok vector) = Ok vector.items
listed (Err fault) = Err fault
