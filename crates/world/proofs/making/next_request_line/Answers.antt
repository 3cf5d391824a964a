use Rattle.std.proofs.Common.{rules, ◌≡◌, Some, sym, subst}
use Rattle.std.specs.Option.{option_copied}
use Rattle.world.specs.Lines.{SaysNext}
use Rattle.world.specs.working.Running.{Making}
use Rattle.world.proofs.ChangeFacts.{next_says}
use Rattle.world.proofs.making.next_request_line.Goals as goal

pub returns : goal.returns
returns g c =
    let same : option_copied c.args.message ≡ Some c.as_slice.result.now = search rules in
    record {
      line = subst (λ message. Making (SaysNext c.args.replicas.now c.args.name.now message c.args.number) c.next_line.result) (sym same)
          (next_says c.args.replicas.now c.args.name.now c.args.number c.requires.up c.as_slice.result.now c.next-reply.result c.next_line.result c.next-reply.ensures.reply c.next_line.ensures);
    }
