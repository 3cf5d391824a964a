-- The scope that is kept as a map from names to types.
use Rattle.std.specs.Prelude.{List, String, map, string_bytes}
use Rattle.policy_rules.specs.Scopes.{Scope}
use Rattle.policy_rules.specs.declared.types.Named.{Named}
use Rattle.policy_rules.specs.declared.types.NamedType.{NamedType}

-- One entry of the map.
abbrev pub named : {Y : Type 0} → String Y × NamedType → Named
named entry = record { name = string_bytes entry.0; ty = entry.1 }

-- All entries, in the order in which they came.
abbrev pub scope_of : {Y : Type 0} → List (String Y × NamedType) → Scope
scope_of entries = map named entries
