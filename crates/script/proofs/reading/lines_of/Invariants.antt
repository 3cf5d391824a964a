use Rattle.std.proofs.Common.{◌≡◌, ◌≤◌, [], length}
use Rattle.std.specs.Str.Lines.{lines}
use Rattle.script.specs.Scripts.{most_lines, nothing_yet}
use Rattle.script.specs.working.ReadingScripts.{declared, script_from}
use Rattle.script.proofs.reading.lines_of.Given as goal

abbrev pub invariant-loop-text : goal.invariant-loop-text
invariant-loop-text l = record {
  so_far : script_from (declared l.seen) l.found.items (lines l.rest) ≡ script_from nothing_yet [] (lines l.bytes);
  few : length l.found.items ≤ most_lines;
}

abbrev pub decreases-loop-text : goal.decreases-loop-text
decreases-loop-text l = length l.rest
