-- Files by name: what a read gives, and the name that a failed read leaves.
use Rattle.std.specs.Prelude.{◌≡◌, ℕ, ◌+◌, List, take, Option, None, Some, IfSome, Result, Ok, Err, IsErr}
use Rattle.std.specs.Option.{option_map}
use Rattle.outside.specs.declared.faults.ReadFail.{ReadFail}
use Rattle.outside.specs.declared.faults.ReadFail.TheVariants as fail

-- the bytes of each file by its name, and None at a name that isn't there
abbrev pub Holding : Type 0
Holding = List ℕ → Option (List ℕ)

-- where the files are told: these bytes are the first limit + 1 of the named file, or all of a shorter one
abbrev pub ReadsFile : Option Holding → List ℕ → ℕ → List ℕ → Type 0
ReadsFile holds name limit bytes = IfSome holds (λ at. option_map (take (limit + 1)) (at name) ≡ Some bytes)

-- where the files are told: a read of a name that isn't there gives no bytes
abbrev pub FailsMissing : {T : Type 0} → Option Holding → List ℕ → Result T ReadFail → Type 0
FailsMissing holds name result = IfSome holds (λ at. at name ≡ None → IsErr result)

-- the name of the latest failed read, after a read of this name
abbrev pub last_after : {T : Type 0} → Result T ReadFail → List ℕ → Option (List ℕ) → Option (List ℕ)
last_after (Ok x) name before = before
last_after (Err fail.Failed) name before = Some name
last_after (Err fail.NoMemory) name before = before
