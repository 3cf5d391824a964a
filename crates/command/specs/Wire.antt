-- The form of a command as bytes, versions 1 and 2. All numbers are big-endian.
use Rattle.std.specs.Prelude.{◌≡◌, ℕ, ◌<◌, ◌≤◌, ◌^◌, IsTrue, List, [], ◌∷◌, ◌++◌, length, Option, Some, None, ⊤}
use Rattle.std.specs.Cmp.Lexicographic.{slice_cmp}
use Rattle.std.specs.Int.{w8, w16, w32, to_be_bytes}
use Rattle.std.specs.Ordering.{nat_cmp}
use Rattle.std.specs.declared.cmp.Ordering.TheVariants.{Less}
use Rattle.sha2.specs.Sha256.{sha256}
use Rattle.base_bytes.specs.Pieces.{counted}
use Rattle.base_bytes.specs.Words.{is_word}
use Rattle.command.specs.Kinds.{carried}
use Rattle.command.specs.declared.command.Command.{Command}
use Rattle.command.specs.declared.command.Command.TheVariants.{Init, Basic, Finalize, Merge}

-- The version, the kind of the command, and in version 2 the cut that it carries.
abbrev pub header : Option ℕ → ℕ → List ℕ
header None kind = 1 ∷ kind ∷ []
header (Some cut) kind = 2 ∷ kind ∷ to_be_bytes w32 cut

-- The name with a length in two bytes, and the payload with a length in four.
abbrev pub content : List ℕ → List ℕ → List ℕ
content name payload = counted w16 name ++ counted w32 payload

-- An init before its tag.
abbrev pub init_body : Option ℕ → List ℕ → List ℕ → List ℕ → List ℕ → List ℕ
init_body cut digest author name payload = header cut 0 ++ digest ++ author ++ content name payload

-- A basic command before its tag.
abbrev pub basic_body : Option ℕ → ℕ → List ℕ → List ℕ → List ℕ → List ℕ → List ℕ
basic_body cut priority parent author name payload = header cut 1 ++ to_be_bytes w32 priority ++ parent ++ author ++ content name payload

-- A finalize before its tag.
abbrev pub finalize_body : Option ℕ → List ℕ → List ℕ → List ℕ → List ℕ → List ℕ
finalize_body cut parent author name payload = header cut 2 ++ parent ++ author ++ content name payload

-- A merge, which has no tag.
abbrev pub merge_body : Option ℕ → List ℕ → List ℕ → List ℕ
merge_body cut left right = header cut 3 ++ left ++ right

-- The body: all before the tag's length. It is what a tag seals.
abbrev pub body : Command → List ℕ
body (Init cut digest author name payload tag) = init_body cut digest author name payload
body (Basic cut priority parent author name payload tag) = basic_body cut priority parent author name payload
body (Finalize cut parent author name payload tag) = finalize_body cut parent author name payload
body (Merge cut left right) = merge_body cut left right

-- What follows the body: the tag with its length in one byte.
abbrev pub after_body : Command → List ℕ
after_body (Init cut digest author name payload tag) = counted w8 tag
after_body (Basic cut priority parent author name payload tag) = counted w8 tag
after_body (Finalize cut parent author name payload tag) = counted w8 tag
after_body (Merge cut left right) = []

-- The bytes of a command.
abbrev pub wire : Command → List ℕ
wire command = body command ++ after_body command

-- The id of a command: the digest of its bytes.
abbrev pub command_id : Command → List ℕ
command_id command = sha256 (wire command)

-- The name is a word, and the payload has at most 4,096 bytes.
pub record AreContent (name payload : List ℕ) : Type 0 where
  pub word : IsTrue (is_word name)
  pub small : length payload ≤ 4096

-- The command is in the wire form, as far as the types of its parts leave that open.
abbrev pub IsInForm : Command → Type 0
IsInForm (Init cut digest author name payload tag) = AreContent name payload
IsInForm (Basic cut priority parent author name payload tag) = AreContent name payload
IsInForm (Finalize cut parent author name payload tag) = AreContent name payload
IsInForm (Merge cut left right) = slice_cmp nat_cmp left right ≡ Less

-- Two ids have 32 bytes each.
pub record AreIds (one other : List ℕ) : Type 0 where
  pub one_size : length one ≡ 32
  pub other_size : length other ≡ 32

-- A cut that is carried is of its type.
abbrev pub HasCut : Option ℕ → Type 0
HasCut None = ⊤
HasCut (Some cut) = cut < 2 ^ 32

-- The numbers and ids before the name are of their types.
abbrev pub HasFront : Command → Type 0
HasFront (Init cut digest author name payload tag) = AreIds digest author
HasFront (Basic cut priority parent author name payload tag) = (priority < 2 ^ 32) × AreIds parent author
HasFront (Finalize cut parent author name payload tag) = AreIds parent author
HasFront (Merge cut left right) = AreIds left right

-- The tag has at most 64 bytes.
abbrev pub HasTag : Command → Type 0
HasTag (Init cut digest author name payload tag) = length tag ≤ 64
HasTag (Basic cut priority parent author name payload tag) = length tag ≤ 64
HasTag (Finalize cut parent author name payload tag) = length tag ≤ 64
HasTag (Merge cut left right) = ⊤

-- The relation between a command and its bytes. It also says the lengths that the types of the parts keep, and that the priority is below 2^32, for a reader of bytes who has no command yet. That each number of a list is a byte, the types alone say.
pub record IsWire (command : Command) (told : List ℕ) : Type 0 where
  pub in_form : IsInForm command
  pub cut : HasCut (carried command)
  pub front : HasFront command
  pub tag : HasTag command
  pub spelled : told ≡ wire command

-- The command is in the wire form.
abbrev pub IsFormed : Command → Type 0
IsFormed command = IsWire command (wire command)

-- At the front of bytes stands a command with its length in four bytes before it, and behind it the rest.
pub record IsCountedFront (command : Command) (rest bytes : List ℕ) : Type 0 where
  pub form : IsFormed command
  pub front : bytes ≡ counted w32 (wire command) ++ rest
