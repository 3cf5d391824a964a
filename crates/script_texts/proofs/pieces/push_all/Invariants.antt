use Rattle.std.proofs.Common.{◌≡◌, ◌++◌, drop, map}
use Rattle.std.specs.List.{concat}
use Rattle.script_texts.proofs.pieces.push_all.Given as goal

abbrev pub invariant-loop-part : goal.invariant-loop-part
invariant-loop-part l = l.into ++ concat (map (λ part. part.now) (drop l.part-index l.parts)) ≡ l.initial.into ++ concat (map (λ part. part.now) l.parts)
