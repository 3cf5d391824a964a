use Rattle.std.proofs.Common.{◌||◌, Some, sym, ap, ◌∙◌}
use Rattle.std.specs.List.{list_any}
use Rattle.std.specs.Str.{bytes_eq}
use Rattle.std.proofs.lemmas.Option.{slice_get-get_or}
use Rattle.command.specs.Kinds.{parents_of}
use Rattle.graph_over.proofs.GatheredHeads.{one_more}
use Rattle.graph_over.proofs.heads.parents_of_all.Goals as goal

pub loop-command-preserved : goal.loop-command-preserved
loop-command-preserved c = λ id.
    c.in_ok-add_parents.ensures id ∙ ap (λ b. b || list_any (bytes_eq id) (parents_of c.command-item.result)) (c.loop-command.invariant id)
    ∙ one_more c.args.commands.now c.loop-command.command-index c.command-item.result id
    (slice_get-get_or c.args.commands.now c.loop-command.command-index c.command-item.result c.loop-command-test.true ∙ ap Some (sym c.command-item.is))
