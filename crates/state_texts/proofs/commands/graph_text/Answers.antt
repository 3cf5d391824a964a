use Rattle.std.proofs.Common.{◌≡◌, ◌+◌, ◌++◌, ◌⊎◌, inl, inr, ◌<◌, ◌≤◌, None, Some, drop, flat_map, get_or, length, slice_get, ap, arith, ◌∙◌}
use Rattle.std.proofs.lemmas.Option.{slice_get_cases}
use Rattle.command.specs.declared.command.Command.{Command}
use Rattle.state_texts.proofs.Behind.{line_behind}
use Rattle.state_texts.specs.States.{command_line, graph_text}
use Rattle.state_texts.proofs.commands.graph_text.Goals as goal

pub loop-place-preserved : goal.loop-place-preserved
loop-place-preserved g c = by (slice_get_cases (g.G.Graph.commands c.args.graph.now) c.loop-place.place).1
  where
    by : ((x : Command) × (c.loop-place.place < length (g.G.Graph.commands c.args.graph.now)) × (slice_get (g.G.Graph.commands c.args.graph.now) c.loop-place.place ≡ Some x)
        × (get_or (g.G.Graph.commands c.args.graph.now) c.loop-place.place x ≡ x))
        ⊎ ((length (g.G.Graph.commands c.args.graph.now) ≤ c.loop-place.place) × (slice_get (g.G.Graph.commands c.args.graph.now) c.loop-place.place ≡ None))
        → c.extend.new.self ++ flat_map command_line (drop (c.loop-place.place + 1) (g.G.Graph.commands c.args.graph.now)) ≡ graph_text c.args.name.now (g.G.Graph.commands c.args.graph.now)
    by (inl found) =
        ap (λ t. t ++ flat_map command_line (drop (c.loop-place.place + 1) (g.G.Graph.commands c.args.graph.now))) c.in_ok-extend.ensures.ok
        ∙ line_behind command_line (g.G.Graph.commands c.args.graph.now) c.loop-place.place found.0 c.loop-place.text c.as_slice.result.now _ found.2
        (c.as_slice.ensures ∙ c.in_ok-line.ensures found.0 found.2) c.loop-place.invariant
    by (inr gone) = absurd (omega (arith, gone.0, c.loop-place-test.true, c.len-place-end.ensures))
