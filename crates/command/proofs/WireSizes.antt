-- How many bytes a command has at most.
use Rattle.std.proofs.Common.{◌≡◌, ℕ, ◌+◌, ◌≤◌, List, [], ◌++◌, length, Option, Some, None, length-append, ap, arith}
use Rattle.std.specs.Int.{w8, w16, w32, to_be_bytes}
use Rattle.base_bytes.specs.Pieces.{counted}
use Rattle.command.specs.Wire.{HasFront, HasTag, IsInForm, IsWire, content, header, wire}
use Rattle.command.specs.declared.command.Command.{Command}
use Rattle.command.specs.declared.command.Command.TheVariants.{Init, Basic, Finalize, Merge}
use Rattle.command.proofs.CommandFormats.{word_short}

content_size : (name payload : List ℕ) → length (content name payload) ≡ 6 + length name + length payload
content_size name payload = omega (arith, length-append (counted w16 name) (counted w32 payload), length-append (to_be_bytes w16 (length name)) name, length-append (to_be_bytes w32 (length payload)) payload)

sizes : (h a b c t : List ℕ) → length ((((h ++ a) ++ b) ++ c) ++ t) ≡ length h + length a + length b + length c + length t
sizes h a b c t = omega (arith, length-append (((h ++ a) ++ b) ++ c) t, length-append ((h ++ a) ++ b) c, length-append (h ++ a) b, length-append h a)

header_size : (cut : Option ℕ) (kind : ℕ) → length (header cut kind) ≤ 6
header_size None kind = omega arith
header_size (Some cut) kind = omega arith

wire_size : (command : Command) → IsInForm command → HasFront command → HasTag command → length (wire command) ≤ 4305
wire_size (Init cut digest author name payload tag) form front small =
    let n = word_short name form.word in
    omega (arith, header_size cut 0, sizes (header cut 0) digest author (content name payload) (counted w8 tag), content_size name payload, n, form.small, front.one_size, front.other_size, small)
wire_size (Basic cut priority parent author name payload tag) form front small =
    let n = word_short name form.word in
    omega (arith, header_size cut 1, length-append (header cut 1) (to_be_bytes w32 priority), sizes (header cut 1 ++ to_be_bytes w32 priority) parent author (content name payload) (counted w8 tag), content_size name payload, n, form.small, front.1.one_size, front.1.other_size, small)
wire_size (Finalize cut parent author name payload tag) form front small =
    let n = word_short name form.word in
    omega (arith, header_size cut 2, sizes (header cut 2) parent author (content name payload) (counted w8 tag), content_size name payload, n, form.small, front.one_size, front.other_size, small)
wire_size (Merge cut left right) form front small =
    omega (arith, header_size cut 3, length-append ((header cut 3 ++ left) ++ right) [], length-append (header cut 3 ++ left) right, length-append (header cut 3) left, front.one_size, front.other_size)

pub wire_within : (command : Command) (told : List ℕ) → IsWire command told → length told ≤ 4305
wire_within command told is = omega (arith, ap length is.spelled, wire_size command is.in_form is.front is.tag)
