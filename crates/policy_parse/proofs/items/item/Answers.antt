use Rattle.std.proofs.Common.{sym, arith}
use Rattle.policy_ast.specs.grammar.Fixed.{word}
use Rattle.policy_ast.specs.grammar.Policies.{kinds}
use Rattle.policy_parse.proofs.Shorter.{after_shorter}
use Rattle.policy_parse.proofs.Turns.{kinds_length}
use Rattle.policy_parse.proofs.items.item.Goals as goal

pub enumeration-requires : goal.enumeration-requires
enumeration-requires c =
    let first = after_shorter (word "enum") (kinds c.args.tokens.now) (kinds c.in-Some-after_word-2.rest.now) (sym c.in-Some-after_word-2.ensures) in
    let all = c.requires in
    let before = kinds_length c.args.tokens.now in
    let behind = kinds_length c.in-Some-after_word-2.rest.now in
    omega (arith, first, all, before, behind)
