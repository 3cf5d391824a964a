use Rattle.std.proofs.Common.{map, sym, ap, subst, ◌∙◌}
use Rattle.std.specs.Str.{bytes_eq}
use Rattle.indexmap.proofs.CallerLemmas.{insert_entry-new}
use Rattle.command.specs.Closed.{IsHeld}
use Rattle.command.specs.Wire.{command_id}
use Rattle.graph_set.proofs.Entries.{absent, commands, commands_more, ids, ids_more}
use Rattle.graph_set.proofs.list_graph.put.Goals as goal

pub returns-clause-keys : goal.returns-clause-keys
returns-clause-keys c =
    let es = c.args.commands.now.entries in
    let none = absent es c.id_of-id.result c.requires.named (λ h. c.requires.fresh (subst (λ i. IsHeld (commands es) i) c.id_of-id.ensures.id h)) in
    let whole = c.in_ok-insert.ensures.entries ∙ insert_entry-new bytes_eq c.args.commands.now c.id_of-id.result c.args.command none in
    ap ids whole ∙ ids_more es c.id_of-id.result c.args.command c.requires.named c.id_of-id.ensures.id ∙ ap (λ l. map command_id (commands l)) (sym whole)

pub returns-clause-values : goal.returns-clause-values
returns-clause-values c =
    let es = c.args.commands.now.entries in
    let none = absent es c.id_of-id.result c.requires.named (λ h. c.requires.fresh (subst (λ i. IsHeld (commands es) i) c.id_of-id.ensures.id h)) in
    let whole = c.in_ok-insert.ensures.entries ∙ insert_entry-new bytes_eq c.args.commands.now c.id_of-id.result c.args.command none in
    ap commands whole ∙ commands_more es c.id_of-id.result c.args.command
