use Rattle.aranyad.specs.Loading as loading
use Rattle.aranyad.proofs.Loadings.{ok_map}
use Rattle.aranyad.proofs.loading.parsed_policy.Goals as goal

pub returns-in-Ok : goal.returns-in-Ok
returns-in-Ok c = ok_map c.typed_policy.result _ _ (λ is typed. loading.items c.in-Ok.policy c.in-Ok.ensures.policy typed) c.typed_policy.ensures

pub returns-in_ok-line-in-Err-Syntax : goal.returns-in_ok-line-in-Err-Syntax
returns-in_ok-line-in-Err-Syntax c =
    rw (c.in_ok-line-in-Err-Syntax.ensures, c.in-Err-Syntax.field-0-is) (loading.no_items c.in-Err-Syntax.item_line (rw c.in-Err-Syntax.field-0-is at c.in-Err-Syntax.ensures.cause))
