use Rattle.std.proofs.Common.{ap, length, ◌∙◌}
use Rattle.std.specs.Prelude.{nat_lt}
use Rattle.policy_meaning.proofs.ArgumentFacts.{fits_text_is}
use Rattle.policy_meaning.proofs.plain.is_short_text.Goals as goal

pub returns : goal.returns
returns c = ap (λ a. nat_lt (length a) 4294967296) c.as_slice.ensures.bytes ∙ fits_text_is c.args.text.now c.as_slice.ensures.utf8
