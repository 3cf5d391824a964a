-- What files are taken for, step by step.
use Rattle.std.proofs.Common.{ℕ, List, Option, Some, None, Result, Ok, Err, sym, subst, ◌≡◌}
use Rattle.std.specs.Prelude.{IfOk, IfSome, MatchOption}
use Rattle.policy_ast.specs.DocumentFault.{DocumentFault}
use Rattle.policy_ast.specs.DocumentTokens.{document_tokens}
use Rattle.aranyad.specs.Loading as loading
use Rattle.aranyad.specs.Loading.{IsRead, fault_line}
use Rattle.aranyad.specs.declared.loading.Loaded.TheVariants as loaded

-- what is owed after Ok follows from what a part gave
pub ok_map : {T E : Type 0} (result : Result T E) (P Q : T → Type 0) → ((x : T) → P x → Q x) → IfOk result P → IfOk result Q
ok_map (Ok x) P Q step p = step x p
ok_map (Err e) P Q step p = tt

-- the document has no tokens, and its fault has this line
pub fault_read : (document text : List ℕ) (fault : Option DocumentFault) → MatchOption fault ⊥ (λ f. text ≡ fault_line f) → IfSome fault (λ f. document_tokens document ≡ Err f) →
    IsRead document (loaded.Refused text)
fault_read document text None line faults = absurd line
fault_read document text (Some f) line faults = subst (λ t. IsRead document (loaded.Refused t)) (sym line) (loading.no_tokens f faults)
