use Rattle.std.proofs.Common.{◌≡◌, ◌-◌, length}
use Rattle.transaction.specs.Merging.{merges}
use Rattle.transaction.proofs.opening.merge_all.Given as goal

abbrev pub invariant-loop-turn : goal.invariant-loop-turn
invariant-loop-turn g l = (merges (g.G.Graph.commands l.graph) (l.turn-end - l.turn) l.draft ≡ merges (g.G.Graph.commands l.graph) (length l.fn.draft.heads) l.fn.draft) × (l.draft.refusal ≡ l.fn.draft.refusal)
