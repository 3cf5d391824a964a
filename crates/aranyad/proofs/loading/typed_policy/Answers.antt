use Rattle.aranyad.specs.Loading as loading
use Rattle.aranyad.proofs.loading.typed_policy.Goals as goal

pub returns-in-Ok : goal.returns-in-Ok
returns-in-Ok c = rw c.in-Ok.ensures.policy (loading.well_typed c.in-Ok.ensures.well_typed)

pub returns-in_ok-line-in-Err-IllTyped : goal.returns-in_ok-line-in-Err-IllTyped
returns-in_ok-line-in-Err-IllTyped c =
    rw (c.in_ok-line-in-Err-IllTyped.ensures, c.in-Err-IllTyped.field-0-is) (loading.ill_typed c.in-Err-IllTyped.item_line (rw c.in-Err-IllTyped.field-0-is at c.in-Err-IllTyped.ensures.fault))
