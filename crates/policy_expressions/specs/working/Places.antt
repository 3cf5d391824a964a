-- Names that stand in the same order.
use Rattle.std.specs.Prelude.{Bool, true, false, ◌&&◌, List, [], ◌∷◌}
use Rattle.std.specs.Str.{bytes_eq}
use Rattle.policy_rules.specs.Names.{Name}

-- The two lists have the same names in the same order.
abbrev pub are_same : List Name → List Name → Bool
are_same [] [] = true
are_same [] (m ∷ ms) = false
are_same (n ∷ ns) [] = false
are_same (n ∷ ns) (m ∷ ms) = bytes_eq n m && are_same ns ms
