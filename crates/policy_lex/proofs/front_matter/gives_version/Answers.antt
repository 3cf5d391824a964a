use Rattle.std.proofs.Common.{refl, sym}
use Rattle.policy_ast.specs.FrontMatter.{is_colon}
use Rattle.policy_lex.proofs.FirstPlaces.{first_found, none_found}
use Rattle.policy_lex.proofs.front_matter.gives_version.Goals as goal

pub returns-in-Some : goal.returns-in-Some
returns-in-Some c =
    let found = first_found is_colon c.args.text.now c.in-Some.place (sym c.in-Some.ensures.place) in
    rw (found.0, found.1) c.is_between_spaces.ensures

pub returns-in-None : goal.returns-in-None
returns-in-None c = rw (none_found is_colon c.args.text.now (sym c.in-None.ensures.place)) refl
