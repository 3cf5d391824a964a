use Rattle.std.proofs.Common.{sym, ◌∙◌, arith}
use Rattle.script.proofs.Turns.{text_ended}
use Rattle.script.proofs.quoted.text_from.Goals as goal

pub returns : goal.returns
returns c = sym c.loop-rest.invariant ∙ text_ended c.loop-rest.text c.loop-rest.rest.now (grind (arith, c.is_empty.ensures, c.loop-rest-test.false))
