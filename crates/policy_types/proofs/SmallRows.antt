-- The definitions at small cases: what is as asked for, and what is not.
use Rattle.std.proofs.Common.{◌≡◌, ℕ, true, List, [], ◌∷◌, codes, zero, suc, Some, refl, subst}
use Rattle.std.proofs.lemmas.Option.{same_Some}
use Rattle.base_bytes.specs.declared.value.Value.{Value}
use Rattle.base_bytes.specs.declared.value.Value.TheVariants as value
use Rattle.policy_ast.specs.declared.item.Item.{Item}
use Rattle.policy_ast.specs.declared.item.Item.TheVariants as item
use Rattle.policy_ast.specs.declared.item.Section.{Section}
use Rattle.policy_ast.specs.declared.item.Section.TheVariants as section
use Rattle.policy_ast.specs.declared.policy.PlacedItem.{PlacedItem}
use Rattle.policy_meaning.specs.Applying.{Passes, Sticks}
use Rattle.policy_meaning.specs.Blocks.{policy_block}
use Rattle.policy_meaning.specs.Outcomes.{Done, Ends, Check, Fault, Stuck}
use Rattle.policy_meaning.specs.Typed.{AreTyped, IsCommandOf}
use Rattle.policy_meaning.specs.declared.call.Call.{Call}
use Rattle.policy_meaning.specs.declared.ends.FaultKind.TheVariants as fault
use Rattle.policy_rules.specs.Items as rules
use Rattle.policy_rules.specs.Items.{AreSections, IsItem, IsOfKind}
use Rattle.policy_rules.specs.Names.{Name}
use Rattle.policy_rules.specs.Statements as statement_rules
use Rattle.policy_rules.specs.WellTyped.{IsWellTyped}
use Rattle.policy_rules.specs.declared.types.NamedType.TheVariants as ty
use Rattle.policy_types.proofs.PolicyLaws.{blocks_end}
use Rattle.policy_types.proofs.Values.{is_bool}
use Rattle.policy_types.specs.Endings.{Gives}
use Rattle.policy_types.specs.EndsWell.{EndsWell}
use Rattle.policy_types.specs.Fitting.{AreOf, Fits, IsId}
use Rattle.policy_types.specs.NeverStuck.{BlocksEndWell}

-- ---- evaluations

a_value_of_another_type_is_asked_for : (good : Value → Type 0) (v : Value) (turns : ℕ) → Gives good (Done v turns) → good v
a_value_of_another_type_is_asked_for good v turns is = is

a_fault_is_no_stuck_end : (good : Value → Type 0) → Gives good (Ends (Fault fault.Unwrap))
a_fault_is_no_stuck_end good = tt

a_failed_check_names_no_recall : (good : Value → Type 0) (name : Name) → Gives good (Ends (Check (Some name))) → ⊥
a_failed_check_names_no_recall good name is = absurd (cc)

nothing_sticks : (good : Value → Type 0) → Gives good (Ends Stuck) → ⊥
nothing_sticks good is = is

-- ---- names and values

one_bool : (items : List Item) (name : Name) → Fits items (record { name = name; ty = ty.Bool } ∷ []) (record { name = name; value = value.Bool true } ∷ [])
one_bool items name = (refl, is_bool items true, tt)

a_value_is_missing : (items : List Item) (name : Name) → Fits items (record { name = name; ty = ty.Bool } ∷ []) [] → ⊥
a_value_is_missing items name fit = fit

an_argument_too_many : (items : List Item) (v : Value) → AreOf items [] (v ∷ []) → ⊥
an_argument_too_many items v are = are

-- ---- a policy of one command, whose block is empty

sections : List Section
sections = section.Fields [] ∷ section.Seal ∷ section.Open ∷ section.Policy [] ∷ []

policy : List PlacedItem
policy = record { line = 1; item = item.Command (codes "c") sections } ∷ []

call : ℕ → List ℕ → Call
call number id = record { command = number; fields = []; author = id; id = id }

are_sections : (items : List Item) → AreSections items (codes "c") sections
unfolding sections
are_sections items = rules.more_sections (rules.fields_section refl) (rules.more_sections rules.seal_section (rules.more_sections rules.open_section
    (rules.more_sections (rules.policy_section statement_rules.no_stmts) rules.no_sections)))

well_typed : IsWellTyped policy
unfolding policy sections
well_typed zero i at = subst (IsItem (item.Command (codes "c") sections ∷ []) []) (same_Some _ i at) (record {
  free = refl;
  of_kind = rules.command refl refl (are_sections (item.Command (codes "c") sections ∷ []));
  nests = refl;
  chains = refl;
})
well_typed (suc n) i at = absurd (cc)

it_is_a_command : (id : List ℕ) → IsCommandOf policy 0 []
unfolding IsCommandOf policy sections
it_is_a_command id = refl

no_facts : AreTyped policy []
unfolding AreTyped
no_facts = refl

-- it passes, as the law says of it
its_blocks_end_well : (id : List ℕ) → IsId id → BlocksEndWell policy (call 0 id) []
unfolding call
its_blocks_end_well id is = blocks_end policy well_typed (call 0 id) [] (it_is_a_command id) is is no_facts

its_policy_passes : (id : List ℕ) → policy_block policy (call 0 id) [] ≡ Passes [] []
unfolding policy_block policy sections call
its_policy_passes id = refl

-- an item that isn't there is no command, and the meaning of such a call is stuck
no_such_command : (id : List ℕ) → policy_block policy (call 1 id) [] ≡ Sticks
unfolding policy_block policy sections call
no_such_command id = refl

stuck_is_not_well : EndsWell policy Sticks → ⊥
stuck_is_not_well is = is
