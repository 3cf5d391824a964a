use Rattle.std.proofs.Common.{rules, ◌≡◌, Some, sym, subst}
use Rattle.std.specs.Option.{option_copied}
use Rattle.world.specs.Lines.{SaysAnswer}
use Rattle.world.specs.working.Running.{Making}
use Rattle.world.proofs.ChangeFacts.{answer_says}
use Rattle.world.proofs.making.response_line.Goals as goal

pub returns : goal.returns
returns g c =
    let same : option_copied c.args.message ≡ Some c.as_slice.result.now = search rules in
    record {
      line = subst (λ message. Making (SaysAnswer c.args.replicas.now c.args.name.now message c.args.number) c.answer_line.result) (sym same)
          (answer_says c.args.replicas.now c.args.name.now c.args.number c.requires.up c.as_slice.result.now c.answer-reply.result c.answer_line.result c.answer-reply.ensures.reply c.answer_line.ensures);
    }
