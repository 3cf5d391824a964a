use Rattle.std.proofs.Common.{◌≡◌, All, length}
use Rattle.command.specs.Wire.{IsInForm}
use Rattle.benches.proofs.responses.commands.Given as goal

abbrev pub invariant-loop : goal.invariant-loop
invariant-loop l = record {
  number : length l.all ≡ l.counter;
  forms : All IsInForm l.all;
}
