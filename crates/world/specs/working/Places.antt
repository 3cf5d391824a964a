-- The place of the replica of a name.
use Rattle.std.specs.Prelude.{ℕ, suc, Bool, if◌then◌else◌, List, [], ◌∷◌, map}
use Rattle.std.specs.List.{list_any}
use Rattle.std.specs.Str.{bytes_eq}
use Rattle.script_texts.specs.Bytes.{Bytes}
use Rattle.world.specs.Worlds.{Named}

-- Some replica has the name.
abbrev pub is_named : {D : Type 0} → List (Named D) → Bytes → Bool
is_named replicas name = list_any (λ other. bytes_eq other name) (map (λ r. r.name) replicas)

-- The place of the first that has it.
abbrev pub place_in : {D : Type 0} → List (Named D) → Bytes → ℕ
place_in [] name = 0
place_in (r ∷ rs) name = if bytes_eq r.name name then 0 else suc (place_in rs name)
