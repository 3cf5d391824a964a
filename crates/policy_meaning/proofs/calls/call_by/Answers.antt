use Rattle.std.proofs.Common.{None, Some, ap, arith, subst, sym, ◌∙◌}
use Rattle.base_bytes.specs.Reaching.{NoneReachesItself}
use Rattle.policy_meaning.proofs.CallFacts.{call_found}
use Rattle.policy_meaning.proofs.CallLaws.{is_call_by}
use Rattle.policy_meaning.proofs.DeclaredFacts.{AreFields, command_is_declared}
use Rattle.policy_meaning.specs.Commands.{Content, IsCallBy, command_number, not_declared}
use Rattle.policy_rules.specs.WellTyped.{items_of}
use Rattle.policy_meaning.proofs.calls.call_by.Goals as goal

pub returns-in-Some-2-clause-call : goal.returns-in-Some-2-clause-call
returns-in-Some-2-clause-call c =
    let items = items_of c.args.items.now in
    let content : Content = record { name = c.args.name.now; payload = c.args.payload.now; author = c.args.author } in
    call_found items c.args.shapes.now c.requires.shapes c.args.id content c.in-Some.command
    (ap (command_number items) (sym c.as_slice.ensures.bytes) ∙ sym c.command_number.ensures ∙ c.in-Some.is) (Some c.in-Some-2.fields)
    (sym c.in-Some-2.is ∙ c.in_ok-fields-in-Some.ensures.fields)

pub returns-in-None-2-clause-call : goal.returns-in-None-2-clause-call
returns-in-None-2-clause-call c =
    let items = items_of c.args.items.now in
    let content : Content = record { name = c.args.name.now; payload = c.args.payload.now; author = c.args.author } in
    call_found items c.args.shapes.now c.requires.shapes c.args.id content c.in-Some.command
    (ap (command_number items) (sym c.as_slice.ensures.bytes) ∙ sym c.command_number.ensures ∙ c.in-Some.is) None
    (sym c.in-None-2.is ∙ c.in_ok-fields-in-Some.ensures.fields)

pub returns-in-Some-2-clause-is_call : goal.returns-in-Some-2-clause-is_call
returns-in-Some-2-clause-is_call c =
    let items = items_of c.args.items.now in
    let content : Content = record { name = c.args.name.now; payload = c.args.payload.now; author = c.args.author } in
    subst (IsCallBy items c.args.id content) (sym (returns-in-Some-2-clause-call c))
    (is_call_by items (subst NoneReachesItself c.requires.shapes c.requires.finite) c.args.id content (λ i. omega (arith, c.type_inv.payload i)))

pub returns-in-None-2-clause-is_call : goal.returns-in-None-2-clause-is_call
returns-in-None-2-clause-is_call c =
    let items = items_of c.args.items.now in
    let content : Content = record { name = c.args.name.now; payload = c.args.payload.now; author = c.args.author } in
    subst (IsCallBy items c.args.id content) (sym (returns-in-None-2-clause-call c))
    (is_call_by items (subst NoneReachesItself c.requires.shapes c.requires.finite) c.args.id content (λ i. omega (arith, c.type_inv.payload i)))

pub returns-in-None-clause-is_call : goal.returns-in-None-clause-is_call
returns-in-None-clause-is_call c = not_declared (ap (command_number (items_of c.args.items.now)) (sym c.as_slice.ensures.bytes) ∙ sym c.command_number.ensures ∙ c.in-None.is)

pub returns-in-Some-2-clause-declared : goal.returns-in-Some-2-clause-declared
returns-in-Some-2-clause-declared c =
    let items = items_of c.args.items.now in
    command_is_declared items c.in-Some.command c.in-Some-2.fields c.args.name.now
    (ap (command_number items) (sym c.as_slice.ensures.bytes) ∙ sym c.command_number.ensures ∙ c.in-Some.is)
    (subst (λ s. AreFields s c.in-Some.command c.in-Some-2.fields) c.requires.shapes (rw c.in-Some-2.is at c.in_ok-fields-in-Some.ensures.typed))
