use Rattle.std.proofs.Common.{◌≡◌, ◌++◌, drop}
use Rattle.std.specs.List.{filter_map}
use Rattle.command.specs.Closed.{place_of}
use Rattle.accept.proofs.places.places_of.Given as goal

-- The places so far, and those of the ids that are left, are those of all.
abbrev pub invariant-loop-id : goal.invariant-loop-id
invariant-loop-id g l = l.places ++ filter_map (place_of (g.G.Graph.commands l.graph)) (drop l.id-index l.ids) ≡ filter_map (place_of (g.G.Graph.commands l.graph)) l.ids
