use Rattle.std.proofs.Common.{◌≡◌, ◌++◌, drop}
use Rattle.std.specs.List.{flat_map}
use Rattle.script_texts.specs.Values.{quoted_byte}
use Rattle.script_texts.proofs.values.push_bytes.Given as goal

abbrev pub invariant-loop-byte : goal.invariant-loop-byte
invariant-loop-byte l = l.into ++ flat_map quoted_byte (drop l.byte-index l.text) ≡ l.initial.into ++ flat_map quoted_byte l.text
