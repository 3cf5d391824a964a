use Rattle.std.proofs.Common.{◌≡◌, drop, [], None}
use Rattle.command.specs.Ancestors.{heads}
use Rattle.transaction.specs.Drafts.{head_ids, with_places}
use Rattle.transaction.proofs.acting.first_draft.Given as goal

abbrev pub invariant-loop-place : goal.invariant-loop-place
invariant-loop-place g l =
    (with_places (g.G.Graph.commands l.graph) l.draft.heads (drop l.place-index l.place-items) ≡ head_ids (g.G.Graph.commands l.graph))
    × (l.draft ≡ record { heads = l.draft.heads; commands = []; entries = []; refusal = None }) × (l.place-items ≡ heads (g.G.Graph.commands l.graph))
