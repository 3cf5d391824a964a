-- What stands behind a member of a list.
use Rattle.std.specs.Prelude.{◌≡◌, Some, None, Result, Ok, Err, ⊤}
use Rattle.policy_ast.specs.declared.token.TokenKind.{TokenKind}
use Rattle.policy_ast.specs.grammar.Fixed.{comma}
use Rattle.policy_ast.specs.grammar.Parts.{Kinds}
use Rattle.policy_ast.specs.grammar.Policies.{kinds}
use Rattle.policy_ast.proofs.grammar.Reading.{after}
use Rattle.policy_parse.specs.declared.lists.Separator.{Separator}
use Rattle.policy_parse.specs.declared.lists.Separator.TheVariants as separator
use Rattle.policy_parse.specs.declared.unparsed.Unparsed.{Unparsed}
use Rattle.policy_parse.specs.declared.unparsed.Unparsed.TheVariants as unparsed

-- the symbol that closes the list, or a comma, or neither
abbrev pub StandsBehind : TokenKind → Kinds → Result Separator Unparsed → Type 0
StandsBehind close ts (Ok (separator.Close rest)) = after close ts ≡ Some (kinds rest.now)
StandsBehind close ts (Ok (separator.Comma rest)) = (after close ts ≡ None) × (after comma ts ≡ Some (kinds rest.now))
StandsBehind close ts (Err unparsed.NoMatch) = (after close ts ≡ None) × (after comma ts ≡ None)
StandsBehind close ts (Err unparsed.NoMemory) = ⊤
