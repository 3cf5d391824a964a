use Rattle.std.proofs.Common.{◌≡◌, ◌++◌, drop, map}
use Rattle.std.specs.Prelude.{string_bytes}
use Rattle.std.specs.List.{concat}
use Rattle.script_texts.proofs.pieces.phrase.Given as goal

abbrev pub invariant-loop-part : goal.invariant-loop-part
invariant-loop-part l = string_bytes l.text ++ concat (map (λ part. part.now) (drop l.part-index l.parts)) ≡ concat (map (λ part. part.now) l.parts)
