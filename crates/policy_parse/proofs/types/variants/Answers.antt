use Rattle.std.proofs.Common.{arith}
use Rattle.policy_ast.specs.grammar.Fixed.{close_brace}
use Rattle.policy_ast.specs.grammar.Policies.{kinds}
use Rattle.policy_ast.proofs.grammar.ReadingFields.{read_name}
use Rattle.policy_parse.proofs.Turns.{kinds_length, listed_few}
use Rattle.policy_parse.proofs.types.variants.Goals as goal

pub new-tree-requires : goal.new-tree-requires
new-tree-requires c =
    let few = listed_few close_brace read_name (kinds c.args.tokens.now) (c.in_ok-names.names, kinds c.in_ok-names.rest.now) c.in_ok-names.ensures in
    let given = c.requires in
    let same = kinds_length c.args.tokens.now in
    omega (arith, few, given, same)
