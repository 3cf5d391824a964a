-- How a reader goes through bytes from the left. What a form is stands apart, in Pieces and Payload; the laws in proofs/ say that the two agree.
use Rattle.std.specs.Prelude.{◌≡◌, ℕ, ◌==◌, nat_lt, nat_le, replicate, Bool, if◌then◌else◌, List, [], ◌∷◌, length, take, drop, Option, Some, None, option_map, Result, Ok, Err, ⊤}
use Rattle.std.specs.Int.{Width, w8, byte_len, from_be_bytes}
use Rattle.std.specs.Option.{option_and_then}
use Rattle.base_bytes.specs.declared.no_memory.NoMemory.{NoMemory}
use Rattle.base_bytes.specs.declared.unread.Unread.{Unread}
use Rattle.base_bytes.specs.declared.unread.Unread.TheVariants as unread

-- A value at the front of bytes and the bytes behind it, or nothing where none stands there.
abbrev pub Reading : Type 0 → Type 0
Reading A = List ℕ → Option (A × List ℕ)

-- What a reader's call answered: the value at the front, and the reader then stands behind it, or that none stands there. A call that ran out of memory says nothing.
abbrev pub Reads : {X A : Type 0} → (X → A) → Result X Unread → List ℕ → Option (A × List ℕ) → Type 0
Reads view (Ok x) rest found = found ≡ Some (view x, rest)
Reads view (Err unread.Malformed) rest found = found ≡ None
Reads view (Err unread.NoMemory) rest found = ⊤

-- The same of a call that reads to the end of the bytes.
abbrev pub ReadsAll : {X : Type 0} → Result X Unread → Option (X × List ℕ) → Type 0
ReadsAll (Ok x) found = found ≡ Some (x, [])
ReadsAll {X} (Err unread.Malformed) found = (x : X) → found ≡ Some (x, []) → ⊥
ReadsAll (Err unread.NoMemory) found = ⊤

-- What such a call answers to its caller: None where the bytes are no spelling.
abbrev pub or_none : {X : Type 0} → Result X Unread → Result (Option X) NoMemory
or_none (Ok x) = Ok (Some x)
or_none (Err unread.Malformed) = Ok None
or_none (Err unread.NoMemory) = Err (record {})

-- So many bytes.
abbrev pub bytes_at : ℕ → Reading (List ℕ)
bytes_at count bytes = if nat_lt (length bytes) count then None else Some (take count bytes, drop count bytes)

-- A value made of another.
abbrev pub made : {A B : Type 0} → (A → B) → Reading A → Reading B
made make read bytes = option_map (λ found. (make found.0, found.1)) (read bytes)

-- A value that passes a test.
abbrev pub passing : {A : Type 0} → (A → Bool) → Reading A → Reading A
passing test read bytes = option_and_then (λ found. if test found.0 then Some found else None) (read bytes)

-- What the value before it asks for.
abbrev pub followed : {A B : Type 0} → Reading A → (A → Reading B) → Reading B
followed first second bytes = option_and_then (λ found. second found.0 found.1) (first bytes)

-- Two values.
abbrev pub pair : {A B : Type 0} → Reading A → Reading B → Reading (A × B)
pair first second bytes = option_and_then (λ found. option_map (λ next. ((found.0, next.0), next.1)) (second found.1)) (first bytes)

-- Values in order, each read in its own way.
abbrev pub in_order : {A : Type 0} → List (Reading A) → Reading (List A)
in_order [] bytes = Some ([], bytes)
in_order (read ∷ more) bytes = made (λ both. both.0 ∷ both.1) (pair read (in_order more)) bytes

-- A number.
abbrev pub number_at : Width → Reading ℕ
number_at width = made (from_be_bytes width) (bytes_at (byte_len width))

-- A length, and that many bytes.
abbrev pub counted_at : Width → Reading (List ℕ)
counted_at width = followed (number_at width) bytes_at

-- A truth.
abbrev pub flag_at : Reading Bool
flag_at = made (λ byte. byte == 1) (passing (λ byte. nat_lt byte 2) (number_at w8))

-- A number, at most so great, and so many values.
abbrev pub listed_at : {A : Type 0} → Width → ℕ → Reading A → Reading (List A)
listed_at width most read = followed (passing (λ count. nat_le count most) (number_at width)) (λ count. in_order (replicate count read))

-- The byte that must stand there, and what is read behind it.
abbrev pub behind : {A : Type 0} → ℕ → Reading A → Reading A
behind byte read = made (λ both. both.1) (pair (passing (λ it. it == byte) (number_at w8)) read)

-- The value of a reading that left nothing.
abbrev pub ended : {A : Type 0} → A × List ℕ → Option A
ended found = if length found.1 == 0 then Some found.0 else None

-- A value that is the whole of a piece.
abbrev pub inside : {A : Type 0} → Reading (List ℕ) → Reading A → Reading A
inside piece read bytes = option_and_then (λ found. option_map (λ value. (value, found.1)) (option_and_then ended (read found.0))) (piece bytes)
