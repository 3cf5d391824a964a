-- How a command is read. What its form is stands in Wire; the laws in proofs/ say that the two agree.
use Rattle.std.specs.Prelude.{ℕ, zero, suc, nat_le, Bool, true, false, List, length, Option, Some, None}
use Rattle.std.specs.Cmp.Lexicographic.{slice_cmp}
use Rattle.std.specs.Int.{w8, w16, w32}
use Rattle.std.specs.Ordering.{nat_cmp}
use Rattle.std.specs.declared.cmp.Ordering.{Ordering}
use Rattle.std.specs.declared.cmp.Ordering.TheVariants.{Less}
use Rattle.base_bytes.specs.Reading.{Reading, bytes_at, counted_at, followed, inside, made, number_at, pair, passing}
use Rattle.base_bytes.specs.Words.{is_word}
use Rattle.command.specs.declared.command.Command.{Command}
use Rattle.command.specs.declared.command.Command.TheVariants.{Init, Basic, Finalize, Merge}

abbrev pub name_at : Reading (List ℕ)
name_at = passing is_word (counted_at w16)

abbrev pub payload_at : Reading (List ℕ)
payload_at = passing (λ payload. nat_le (length payload) 4096) (counted_at w32)

abbrev pub tag_at : Reading (List ℕ)
tag_at = passing (λ tag. nat_le (length tag) 64) (counted_at w8)

-- A name, a payload and a tag.
abbrev pub Content : Type 0
Content = List ℕ × (List ℕ × List ℕ)

abbrev pub content_at : Reading Content
content_at = pair name_at (pair payload_at tag_at)

abbrev pub init_at : Option ℕ → Reading Command
init_at cut = made (λ p. Init cut p.0 p.1.0 p.1.1.0 p.1.1.1.0 p.1.1.1.1) (pair (bytes_at 32) (pair (bytes_at 32) content_at))

abbrev pub basic_at : Option ℕ → Reading Command
basic_at cut = made (λ p. Basic cut p.0 p.1.0 p.1.1.0 p.1.1.1.0 p.1.1.1.1.0 p.1.1.1.1.1) (pair (number_at w32) (pair (bytes_at 32) (pair (bytes_at 32) content_at)))

abbrev pub finalize_at : Option ℕ → Reading Command
finalize_at cut = made (λ p. Finalize cut p.0 p.1.0 p.1.1.0 p.1.1.1.0 p.1.1.1.1) (pair (bytes_at 32) (pair (bytes_at 32) content_at))

abbrev pub is_less : Ordering → Bool
is_less Less = true
is_less _ = false

abbrev pub merge_at : Option ℕ → Reading Command
merge_at cut = made (λ p. Merge cut p.0 p.1) (passing (λ p. is_less (slice_cmp nat_cmp p.0 p.1)) (pair (bytes_at 32) (bytes_at 32)))

-- Behind the byte of the kind, and the cut where there is one.
abbrev pub kind_at : Option ℕ → ℕ → Reading Command
kind_at cut zero = init_at cut
kind_at cut (suc zero) = basic_at cut
kind_at cut (suc (suc zero)) = finalize_at cut
kind_at cut (suc (suc (suc zero))) = merge_at cut
kind_at cut (suc (suc (suc (suc kind)))) = λ bytes. None

-- What stands between the version and the fields: the kind, and in version 2 the cut.
abbrev pub front_at : ℕ → Reading (ℕ × Option ℕ)
front_at zero = λ bytes. None
front_at (suc zero) = made (λ kind. (kind, None)) (number_at w8)
front_at (suc (suc zero)) = made (λ p. (p.0, Some p.1)) (pair (number_at w8) (number_at w32))
front_at (suc (suc (suc version))) = λ bytes. None

abbrev pub header_at : Reading (ℕ × Option ℕ)
header_at = followed (number_at w8) front_at

abbrev pub command_at : Reading Command
command_at = followed header_at (λ p. kind_at p.1 p.0)

-- A command with a length in four bytes.
abbrev pub counted_command_at : Reading Command
counted_command_at = inside (counted_at w32) command_at
