-- Commands are read as their form says.
use Rattle.std.proofs.Common.{◌≡◌, ℕ, List, [], ◌++◌, Some, Result, Ok, Err, refl, sym, ap, arith, ◌∙◌}
use Rattle.std.specs.Prelude.{IfOk}
use Rattle.std.specs.Int.{w32}
use Rattle.std.proofs.lemmas.List.{append-nil}
use Rattle.base_bytes.specs.Laws.{IsUnambiguous}
use Rattle.base_bytes.specs.Pieces.{counted}
use Rattle.base_bytes.specs.declared.unread.Unread.{Unread}
use Rattle.base_bytes.proofs.Codes.{IsReadBy, unambiguous}
use Rattle.base_bytes.proofs.Formats.{AreBytes, IsFormat, inside_format, told_format, wide_32}
use Rattle.command.specs.Reading.{command_at, counted_command_at}
use Rattle.command.specs.Wire.{IsCountedFront, IsFormed, IsWire, wire}
use Rattle.command.specs.declared.command.Command.{Command}
use Rattle.command.proofs.CommandFormats.{command_format}
use Rattle.command.proofs.WireSizes.{wire_within}

pub is_wire : (bytes : List ℕ) → AreBytes bytes → (command : Command) → command_at bytes ≡ Some (command, []) → IsWire command bytes
is_wire bytes are command is =
    let t = command_format.takes bytes (command, []) are is in
    record { cut = t.1.0; in_form = t.1.1.0; front = t.1.1.1; tag = t.1.1.2; spelled = t.0 ∙ append-nil (wire command) }

read_by : (command : Command) (told : List ℕ) → IsWire command told → IsReadBy command_at command told
read_by command told is = record { found = λ rest. ap (λ bytes. command_at (bytes ++ rest)) is.spelled ∙ command_format.again command rest (is.cut, (is.in_form, is.front, is.tag)) }

pub read_whole : (bytes : List ℕ) (command : Command) → IsWire command bytes → command_at bytes ≡ Some (command, [])
read_whole bytes command is = ap command_at (sym (append-nil bytes)) ∙ (read_by command bytes is).found []

pub commands : IsUnambiguous IsWire
commands = unambiguous (λ x y told others is is_too. (command_at, read_by x told is, read_by y others is_too)) (λ x told others is is_too. is.spelled ∙ sym is_too.spelled)

-- ---- behind a length

pub counted_command_format : IsFormat IsFormed (λ command. counted w32 (wire command)) counted_command_at
counted_command_format = told_format (inside_format command_format wide_32) IsFormed (λ command. counted w32 (wire command))
    (λ command is. ((is.cut, (is.in_form, is.front, is.tag)), omega (arith, wire_within command (wire command) is)))
    (λ command is are. record { cut = is.0.0; in_form = is.0.1.0; front = is.0.1.1; tag = is.0.1.2; spelled = refl }) (λ command. refl)

pub is_counted_front : (answer : Result Command Unread) (bytes told rest : List ℕ) → bytes ≡ counted w32 told ++ rest → IfOk answer (λ command. IsWire command told) → IfOk answer (λ command. IsCountedFront command rest bytes)
is_counted_front (Ok command) bytes told rest front is =
    record { form = record { cut = is.cut; in_form = is.in_form; front = is.front; tag = is.tag; spelled = refl }; front = front ∙ ap (λ piece. counted w32 piece ++ rest) is.spelled }
is_counted_front (Err error) bytes told rest front is = tt

pub read_counted_front : (bytes : List ℕ) (command : Command) (rest : List ℕ) → IsCountedFront command rest bytes → counted_command_at bytes ≡ Some (command, rest)
read_counted_front bytes command rest is = ap counted_command_at is.front ∙ counted_command_format.again command rest is.form
