use Rattle.std.proofs.Common.{subst, sym}
use Rattle.base_bytes.specs.Reaching.{NoneReachesItself}
use Rattle.accept.proofs.forms.call.Goals as goal

pub call_of-requires-clause-finite : goal.call_of-requires-clause-finite
call_of-requires-clause-finite c = subst NoneReachesItself (sym c.in_ok-shapes.ensures) (c.structs_are_finite.ensures c.args.policy.now c.requires.well_typed)
