use Rattle.std.proofs.Common.{◌≡◌, ◌++◌, length, take, drop, IsTrue}
use Rattle.base_bytes.specs.Payload.{spelling_all, are_short}
use Rattle.base_bytes.proofs.encode.+encode.Given as goal

-- what is left is what each further call requires
abbrev pub invariant-append_values-loop-value : goal.invariant-append_values-loop-value
invariant-append_values-loop-value l = record {
  told : l.into ++ spelling_all (drop l.value-index l.values) ≡ l.initial.into ++ spelling_all l.values;
  front : take (length l.initial.into) l.into ≡ l.initial.into;
  short : IsTrue (are_short (drop l.value-index l.values));
}
