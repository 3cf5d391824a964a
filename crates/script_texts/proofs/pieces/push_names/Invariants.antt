use Rattle.std.proofs.Common.{◌≡◌, ◌++◌, ◌∷◌, [], codes, drop, map}
use Rattle.std.specs.List.{concat, flat_map}
use Rattle.script_texts.proofs.pieces.push_names.Given as goal

abbrev pub invariant-loop-name : goal.invariant-loop-name
invariant-loop-name l =
    l.into ++ flat_map (λ name. concat (codes " " ∷ name ∷ [])) (map (λ name. name.now) (drop l.name-index l.names)) ≡ l.initial.into ++ flat_map (λ name. concat (codes " " ∷ name ∷ [])) (map (λ name. name.now) l.names)
