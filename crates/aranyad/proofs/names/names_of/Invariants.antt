use Rattle.std.proofs.Common.{◌≡◌, ◌++◌, drop}
use Rattle.aranyad.specs.Scripts.{names_of}
use Rattle.aranyad.proofs.names.names_of.Given as goal

abbrev pub invariant-loop-line : goal.invariant-loop-line
invariant-loop-line l = l.names.items ++ names_of (drop l.line-index l.lines) ≡ names_of l.lines
