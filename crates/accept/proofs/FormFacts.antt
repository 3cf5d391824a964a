-- A command held against a well-typed policy.
use Rattle.std.proofs.Common.{◌≡◌, true, List, Option, Some, None, option_map, refl, sym, ap, ◌∙◌}
use Rattle.std.specs.List.{list_all, position_or_len}
use Rattle.std.proofs.lemmas.List.Folds.{find_at}
use Rattle.base_bytes.proofs.Bools.{and_then}
use Rattle.accept.specs.Admission.{form_by, form_of, ill_formed}
use Rattle.accept.specs.working.Forms.{IsNoCall}
use Rattle.braid_run.specs.Soundness.{declared_kind}
use Rattle.command.specs.declared.command.Command.{Command}
use Rattle.command.specs.declared.command.Command.TheVariants as command
use Rattle.policy_ast.specs.declared.item.Item.{Item}
use Rattle.policy_ast.specs.declared.item.Item.TheVariants as item
use Rattle.policy_ast.specs.declared.item.Section.{Section}
use Rattle.policy_ast.specs.declared.policy.PlacedItem.{PlacedItem}
use Rattle.policy_meaning.specs.Commands.{Content, call_of, content_of}
use Rattle.policy_meaning.specs.declared.call.Call.{Call}
use Rattle.policy_rules.specs.Commands.{CommandKind, are_attributes, attributes_of, is_attribute}
use Rattle.policy_rules.specs.Items.{IsOfKind}
use Rattle.policy_rules.specs.Names.{Name, is_named, item_named}
use Rattle.policy_rules.specs.WellTyped.{IsWellTyped, items_of}

kind_attributes : (items : List Item) (name : Name) (sections : List Section) → IsOfKind items (item.Command name sections) → are_attributes (attributes_of sections) ≡ true
kind_attributes items name sections (Rattle.policy_rules.specs.Items.command has are all) = are

-- the attributes of a command of a well-typed policy
pub attributes_are : (policy : List PlacedItem) → IsWellTyped policy → (name own : Name) (sections : List Section) → item_named (items_of policy) name ≡ Some (item.Command own sections)
    → list_all is_attribute (attributes_of sections) ≡ true
attributes_are policy typed name own sections found =
    let at = sym (find_at (is_named name) (items_of policy)) ∙ found in
    and_then (list_all is_attribute (attributes_of sections)) _
    (kind_attributes (items_of policy) own sections (typed (position_or_len (is_named name) (items_of policy)) (item.Command own sections) at).of_kind) (λ all one. all)

-- a merge is no call
pub merge_is_none : (policy : List PlacedItem) (c : Command) → None ≡ option_map (λ content. content.name) (content_of c) → (ill_formed policy c ≡ None) × IsNoCall policy c
unfolding call_of
merge_is_none policy (command.Init cut digest author name payload tag) none = absurd cc
merge_is_none policy (command.Basic cut priority parent author name payload tag) none = absurd cc
merge_is_none policy (command.Finalize cut parent author name payload tag) none = absurd cc
merge_is_none policy (command.Merge cut left right) none = (refl, record { merge = refl; is = refl })

-- what is against a command by the kind that is declared for its name
pub form_is : (policy : List PlacedItem) (c : Command) (content : Content) (kind : Option CommandKind) (called : Option Call) → content_of c ≡ Some content
    → declared_kind policy content.name ≡ kind → call_of policy c ≡ called → ill_formed policy c ≡ form_by kind c called
form_is policy c content kind called is declared calls =
    ap (form_of policy c) is ∙ ap (λ k. form_by k c (call_of policy c)) declared ∙ ap (form_by kind c) calls
