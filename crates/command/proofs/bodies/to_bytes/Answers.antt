use Rattle.std.proofs.Common.{[]}
use Rattle.command.specs.Wire.{IsWire}
use Rattle.command.proofs.WireSizes.{wire_within}
use Rattle.command.proofs.bodies.to_bytes.Goals as goal

pub returns-clause-form : goal.returns-clause-form
returns-clause-form c = record {
  in_form = c.requires;
  cut = c.in_ok-write.ensures.cut;
  front = c.in_ok-write.ensures.front;
  tag = c.in_ok-write.ensures.tag;
  spelled = c.in_ok-write.ensures.told.more [] c.new-out.ensures;
}

pub returns-clause-size : goal.returns-clause-size
returns-clause-size c =
    let told : IsWire c.args.command.now c.write.new.out.bytes = record {
      in_form = c.requires;
      cut = c.in_ok-write.ensures.cut;
      front = c.in_ok-write.ensures.front;
      tag = c.in_ok-write.ensures.tag;
      spelled = c.in_ok-write.ensures.told.more [] c.new-out.ensures;
    } in
    wire_within c.args.command.now c.write.new.out.bytes told
