-- What is known of a new command before any facts are looked at.
use Rattle.std.specs.Prelude.{◌≡◌, ℕ, true, List, Option, Some, None}
use Rattle.accept.specs.Admission.{early_reasons, first_of, ill_formed}
use Rattle.accept.specs.declared.forms.Form.{Form}
use Rattle.accept.specs.declared.forms.Form.TheVariants as form
use Rattle.accept.specs.declared.reasons.Early.{Early}
use Rattle.accept.specs.declared.reasons.Early.TheVariants as early
use Rattle.braid_run.specs.Soundness.{Criteria}
use Rattle.command.specs.Kinds.{is_merge}
use Rattle.command.specs.declared.command.Command.{Command}
use Rattle.policy_ast.specs.declared.policy.PlacedItem.{PlacedItem}
use Rattle.policy_meaning.specs.Commands.{call_of}
use Rattle.policy_meaning.specs.Typed.{IsCommandOf}
use Rattle.policy_meaning.specs.declared.call.Call.{Call}

-- The command is this call, of the types that the policy declares.
pub record IsTheCall (policy : List PlacedItem) (c : Command) (call : Call) : Type 0 where
  pub is : call_of policy c ≡ Some call
  pub typed : IsCommandOf policy call.command call.fields

-- The command is a merge, and so no call.
pub record IsNoCall (policy : List PlacedItem) (c : Command) : Type 0 where
  pub merge : is_merge c ≡ true
  pub is : call_of policy c ≡ None

-- What is against it by the policy, or the call that it is.
abbrev pub IsForm : List PlacedItem → Command → Form → Type 0
IsForm policy c (form.Ill cause) = ill_formed policy c ≡ Some cause
IsForm policy c (form.Called call) = (ill_formed policy c ≡ None) × IsTheCall policy c call
IsForm policy c form.Merge = (ill_formed policy c ≡ None) × IsNoCall policy c

-- The first early reason, or the call that it is.
abbrev pub IsEarly : Criteria → Option (List ℕ) → List Command → Command → Early → Type 0
IsEarly criteria graph_id cs c (early.Against cause) = first_of (early_reasons criteria graph_id cs c) ≡ Some cause
IsEarly criteria graph_id cs c (early.Called call) = (first_of (early_reasons criteria graph_id cs c) ≡ None) × IsTheCall criteria.policy c call
IsEarly criteria graph_id cs c early.Merge = (first_of (early_reasons criteria graph_id cs c) ≡ None) × IsNoCall criteria.policy c
