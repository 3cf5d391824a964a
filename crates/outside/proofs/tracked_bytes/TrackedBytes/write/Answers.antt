use Rattle.std.proofs.Common.{rules, refl, ◌≡◌, length, [], ◌∷◌, ◌++◌, take, drop}
use Rattle.outside.specs.Disk.{overwritten}
use Rattle.outside.specs.declared.call.Call.TheVariants as call
use Rattle.outside.specs.declared.replaced.Replaced.{Replaced}
use Rattle.outside.proofs.Written.{image_recorded, moment_written, past_written, content_of}
use Rattle.outside.proofs.tracked_bytes.TrackedBytes.write.Goals as goal

pub invariant_of-self-2 : goal.invariant_of-self-2
invariant_of-self-2 c =
    let write : Replaced = record { at = c.args.at; written_length = length c.args.front.now; under = c.in_ok-under.under; range_length = c.args.range_length } in
    let pushed : c.push.new.self.items ≡ c.args.self.now.calls.items ++ call.Wrote write ∷ [] = search rules in
    let is : c.overwrite.new.bytes.items ≡ overwritten c.args.self.now.bytes.items c.args.at c.args.front.now = search rules in
    let under : c.in_ok-under.under ≡ take (length c.args.front.now) (drop c.args.at c.args.self.now.bytes.items) = search rules in
    record { are_bytes = search rules; image = image_recorded _ _ write _ _ c.args.front.now pushed is c.requires.inside refl under c.requires.front c.args.self.now.image }

pub returns-clause-ok : goal.returns-clause-ok
returns-clause-ok c =
    let write : Replaced = record { at = c.args.at; written_length = length c.args.front.now; under = c.in_ok-under.under; range_length = c.args.range_length } in
    let pushed : c.push.new.self.items ≡ c.args.self.now.calls.items ++ call.Wrote write ∷ [] = search rules in
    let is : c.overwrite.new.bytes.items ≡ overwritten c.args.self.now.bytes.items c.args.at c.args.front.now = search rules in
    let under : c.in_ok-under.under ≡ take (length c.args.front.now) (drop c.args.at c.args.self.now.bytes.items) = search rules in
    content_of is
    (moment_written _ _ write _ _ c.args.front.now pushed is c.requires.inside refl under)
    (past_written _ _ write _ _ c.args.front.now pushed is c.requires.inside refl under)
