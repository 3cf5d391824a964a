-- Whether a message is for a replica.
use Rattle.std.specs.Prelude.{ℕ, if◌then◌else◌, List, Option, Some, None}
use Rattle.std.specs.Str.{bytes_eq}
use Rattle.replica.specs.declared.refusal.Refusal.{Refusal}
use Rattle.replica.specs.declared.refusal.Refusal.TheVariants as refusal

-- Why a message about a graph isn't for a replica of this one.
abbrev pub refused_for : List ℕ → Option (List ℕ) → Option Refusal
refused_for graph None = Some refusal.NoGraph
refused_for graph (Some own) = if bytes_eq graph own then None else Some (refusal.OtherGraph graph)
