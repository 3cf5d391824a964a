use Rattle.std.proofs.Common.{rules, arith, ap, ◌≡◌, length, map, length-append}
use Rattle.std.specs.Int.{w32, to_be_bytes}
use Rattle.std.specs.List.{concat}
use Rattle.std.proofs.lemmas.List.Elements.{recursion_from_All}
use Rattle.command.specs.Wire.{IsFormed}
use Rattle.journal.specs.Commits.{commit_body, counted_command}
use Rattle.journal.specs.declared.commit.Commit.TheVariants as a_commit
use Rattle.journal.proofs.Committed.{sizes_of}
use Rattle.journal.proofs.bodies.write_list.Goals as goal

pub returns-clause-size : goal.returns-clause-size
returns-clause-size c =
    let commands = c.args.commands.now in
    let body : c.write_commands.new.into ≡ commit_body (a_commit.Commands commands) = search rules in
    let sizes = sizes_of commands (recursion_from_All IsFormed commands (search rules)) in
    let joined = length-append (to_be_bytes w32 (length commands)) (concat (map counted_command commands)) in
    (c.requires.some, omega (arith, ap length body, sizes.0, joined), omega (arith, ap length body, sizes.1, joined))
