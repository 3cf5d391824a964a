-- How pieces are read from the front of bytes. The laws in proofs/ say that this agrees with the definitions.
use Rattle.std.specs.Prelude.{◌≡◌, ℕ, zero, suc, Bool, nat_eq, if◌then◌else◌, List, [], ◌∷◌, ◌++◌, length, drop, codes, Option, Some, None, option_map, option_and_then, Result, Ok, Err, ⊤}
use Rattle.std.specs.Borrow.{Bor}
use Rattle.std.specs.List.{starts_with, take_while}
use Rattle.base_bytes.specs.declared.unread.Unread.{Unread}
use Rattle.base_bytes.specs.declared.unread.Unread.TheVariants as unread
use Rattle.script.specs.Pieces.{Bytes, is_space}

-- what the bytes begin with, and the bytes behind it
abbrev pub Reader : Type 0 → Type 0
Reader A = Bytes → Option (A × Bytes)

-- A reader's call answered what its definition reads, or that it reads nothing. Out of memory says nothing.
abbrev pub Reads : {X A : Type 0} → (X → A) → Result X Unread → Option A → Type 0
Reads view (Ok x) found = found ≡ Some (view x)
Reads view (Err unread.Malformed) found = found ≡ None
Reads view (Err unread.NoMemory) found = ⊤

-- what was read, and the bytes that are left
abbrev pub seen : {A : Type 0} → A × Bor Bytes → A × Bytes
seen found = (found.0, found.1.now)

abbrev pub rest_seen : Bor Bytes → Bytes
rest_seen rest = rest.now

-- a look that isn't a failure: what is done where nothing is seen, and where something is
abbrev pub chosen : {A B : Type 0} → Option A → B → (A → B) → B
chosen None x f = x
chosen (Some a) x f = f a

-- the bytes behind others, where they begin with these
abbrev pub after : Bytes → Bytes → Option Bytes
after front bytes = if starts_with nat_eq bytes front then Some (drop (length front) bytes) else None

-- the bytes behind a run
abbrev pub past : (ℕ → Bool) → Bytes → Bytes
past passes bytes = drop (length (take_while passes bytes)) bytes

-- a run that says something
abbrev pub run_at : {A : Type 0} → (ℕ → Bool) → (Bytes → Option A) → Reader A
run_at passes says bytes = option_map (λ a. (a, past passes bytes)) (says (take_while passes bytes))

-- the bytes behind the spaces in front
unfoldable pub unspaced : Bytes → Bytes
unspaced bytes = past is_space bytes

abbrev pub mark_at : Bytes → Bytes → Option Bytes
mark_at mark bytes = after mark (unspaced bytes)

-- further members of a list, at most so many, and the mark that closes it
unfoldable pub members : {A : Type 0} → Bytes → Reader A → ℕ → List A → Reader (List A)
members close one zero found bytes = None
members close one (suc k) found bytes =
    option_and_then (λ a. chosen (mark_at close a.1) (option_and_then (λ mid. members close one k (found ++ a.0 ∷ []) mid) (mark_at (codes ",") a.1)) (λ rest. Some (found ++ a.0 ∷ [], rest)))
    (one bytes)

-- a list up to the mark that closes it
abbrev pub listed : {A : Type 0} → Bytes → Reader A → Reader (List A)
listed close one bytes = chosen (mark_at close bytes) (members close one (length bytes) [] bytes) (λ rest. Some ([], rest))
