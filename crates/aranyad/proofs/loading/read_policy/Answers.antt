use Rattle.aranyad.specs.Loading as loading
use Rattle.aranyad.proofs.Loadings.{fault_read, ok_map}
use Rattle.policy_lex.specs.Answers.{named}
use Rattle.aranyad.proofs.loading.read_policy.Goals as goal

pub returns-in-Ok : goal.returns-in-Ok
returns-in-Ok c =
    ok_map c.parsed_policy.result _ _ (λ is parsed. loading.tokens c.in-Ok.tokens.items c.in-Ok.ensures.answer parsed)
    (rw (c.as_slice.ensures.value, c.sha256.ensures) at c.parsed_policy.ensures)

pub returns-in_ok-fault_line-in-Err : goal.returns-in_ok-fault_line-in-Err
returns-in_ok-fault_line-in-Err c =
    fault_read c.args.document.now c.in_ok-fault_line-in-Err.field-0 (named c.in-Err.fault) c.in_ok-fault_line-in-Err.ensures c.in-Err.ensures.answer
