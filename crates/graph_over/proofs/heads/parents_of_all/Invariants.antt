use Rattle.std.specs.Prelude.{◌≡◌, ℕ, List, take}
use Rattle.std.specs.List.{list_any}
use Rattle.std.specs.Str.{bytes_eq}
use Rattle.command.specs.Ancestors.{is_parent}
use Rattle.graph_over.proofs.heads.parents_of_all.Given as goal

abbrev pub invariant-loop-command : goal.invariant-loop-command
invariant-loop-command l = (id : List ℕ) → list_any (bytes_eq id) l.parents.keys ≡ is_parent (take l.command-index l.commands) id
