use Rattle.std.proofs.Common.{◌≡◌, take}
use Rattle.base_bytes.proofs.arg.+arguments.Given as goal

abbrev pub invariant-copy_fields-loop-name : goal.invariant-copy_fields-loop-name
invariant-copy_fields-loop-name l = l.all ≡ take l.name-index l.fields
