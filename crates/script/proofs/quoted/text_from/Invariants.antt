use Rattle.std.proofs.Common.{◌≡◌, false, length}
use Rattle.script.specs.working.ReadingTokens.{text_from}
use Rattle.script.proofs.Turns.{with_text}
use Rattle.script.proofs.quoted.text_from.Given as goal

abbrev pub invariant-loop-rest : goal.invariant-loop-rest
invariant-loop-rest l = with_text l.text (text_from false l.rest) ≡ text_from false l.bytes

abbrev pub decreases-loop-rest : goal.decreases-loop-rest
decreases-loop-rest l = length l.rest
