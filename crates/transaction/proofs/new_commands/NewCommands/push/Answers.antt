use Rattle.std.proofs.Common.{ap, ◌∙◌, rules}
use Rattle.std.specs.Str.{bytes_eq}
use Rattle.indexmap.specs.IndexSet.{insert_key}
use Rattle.transaction.proofs.DraftFacts.{pushed}
use Rattle.transaction.proofs.new_commands.NewCommands.push.Goals as goal

pub invariant_of-self-2 : goal.invariant_of-self-2
invariant_of-self-2 c =
    pushed c.self.inside.commands c.push.new.self c.args.command c.args.id c.self.inside.ids.keys c.insert.new.self.keys c.self.invariant.0 c.self.invariant.1 c.requires.id c.requires.formed (search rules)
    (c.in-Ok.ensures.keys ∙ ap (λ ks. insert_key bytes_eq ks c.args.id) c.reserve.ensures.keys) c.in_ok-push.ensures.ok
