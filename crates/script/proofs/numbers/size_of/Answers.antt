use Rattle.std.proofs.Common.{sym, arith}
use Rattle.script.proofs.DigitRuns.{digits_too_large}
use Rattle.script.proofs.numbers.size_of.Goals as goal

pub returns-then-size : goal.returns-then-size
returns-then-size c =
    sym (digits_too_large c.args.digits.now c.loop-digit.digit-index c.loop-digit.size _ (omega arith) c.loop-digit.invariant (omega (arith, c.if-size.true)))
