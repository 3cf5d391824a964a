use Rattle.std.proofs.Common.{sym, ap, ◌∙◌, slice_get, not}
use Rattle.graph_set.proofs.Entries.{id_there, none_there}
use Rattle.graph_set.proofs.KeptHeads.{any_either, other_there, other_nowhere}
use Rattle.indexmap.specs.IndexMap.{values}
use Rattle.graph_set.proofs.heads.is_other.Goals as goal

pub returns-in-Some : goal.returns-in-Some
returns-in-Some c =
    ap not (c.contains.ensures.value ∙ any_either c.in-Some.id.now c.args.ids.now)
    ∙ sym (other_there c.args.ids.now (slice_get (values c.args.commands.now) c.args.place) c.in-Some.id.now
    (id_there c.args.commands.now.entries c.args.place c.in-Some.id.now c.in-Some.field-0-1.now c.requires.named c.in-Some.ensures.entry))

pub returns-in-None : goal.returns-in-None
returns-in-None c = sym (other_nowhere c.args.ids.now (slice_get (values c.args.commands.now) c.args.place) (none_there c.args.commands.now.entries c.args.place (sym c.in-None.ensures.entry)))
