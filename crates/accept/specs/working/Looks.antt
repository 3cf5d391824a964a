-- What a look at one command tells of the first finalize beside a tip.
use Rattle.std.specs.Prelude.{◌≡◌, true, false}
use Rattle.accept.specs.declared.parallel.Look.{Look}
use Rattle.accept.specs.declared.parallel.Look.TheVariants as look
use Rattle.command.specs.Ancestors.{IsUpTo}
use Rattle.command.specs.Kinds.{is_finalize}
use Rattle.command.specs.Wire.{command_id}
use Rattle.command.specs.declared.command.Command.{Command}
use Rattle.std.specs.Prelude.{List}

abbrev pub Looks : List Command → Command → Command → Look → Type 0
Looks cs tip x look.Other = is_finalize x ≡ false
Looks cs tip x look.UpTo = (is_finalize x ≡ true) × IsUpTo cs tip x
Looks cs tip x (look.Beside id) = (is_finalize x ≡ true) × (IsUpTo cs tip x → ⊥) × (command_id x ≡ id)
