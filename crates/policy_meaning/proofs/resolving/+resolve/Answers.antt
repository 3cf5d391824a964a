use Rattle.std.proofs.Common.{◌≡◌, None, Some, SFits, ap, rules, subst, sym, w64, ◌∙◌}
use Rattle.std.specs.Prelude.{IfOk}
use Rattle.std.specs.Option.{option_copied}
use Rattle.std.proofs.lemmas.Int.{to_z-of_z}
use Rattle.base_bytes.specs.declared.arg.Arg.TheOpen.{Arg-F}
use Rattle.base_bytes.specs.declared.arg.Arg.TheVariants as arg
use Rattle.policy_meaning.proofs.ArgumentFacts.{fields_found, fields_not, loop_more, loop_none, resolving_by, some_found, taken, taken_is, told}
use Rattle.base_bytes.specs.declared.ty.Ty.{out-Ty}
use Rattle.policy_meaning.specs.Resolving.{resolved_layer}
use Rattle.policy_meaning.specs.working.Resolutions.{given_of, names_at, resolving, types_for, values_for}
use Rattle.policy_rules.specs.WellTyped.{items_of}
use Rattle.policy_meaning.proofs.resolving.+resolve.Goals as goal

pub value_of-returns-in-Bool : goal.value_of-returns-in-Bool
value_of-returns-in-Bool t c = c.bool_at.ensures (items_of c.args.policy.now) ∙ sym (resolving_by (items_of c.args.policy.now) c.args.arg.now (Arg-F.Bool c.in-Bool.truth) c.args.ty.now (c.in-Bool.is ∙ sym (arg.rolls-Bool c.in-Bool.truth)))

pub value_of-returns-in-Ident : goal.value_of-returns-in-Ident
value_of-returns-in-Ident t c = c.id_at.ensures (items_of c.args.policy.now) ∙ sym (resolving_by (items_of c.args.policy.now) c.args.arg.now (Arg-F.Ident c.in-Ident.id) c.args.ty.now (c.in-Ident.is ∙ sym (arg.rolls-Ident c.in-Ident.id)))

pub value_of-returns-in-Nothing : goal.value_of-returns-in-Nothing
value_of-returns-in-Nothing t c = c.nothing_at.ensures (items_of c.args.policy.now) ∙ sym (resolving_by (items_of c.args.policy.now) c.args.arg.now Arg-F.Nothing c.args.ty.now (c.in-Nothing.is ∙ sym arg.rolls-Nothing))

pub value_of-returns-in-Str : goal.value_of-returns-in-Str
value_of-returns-in-Str t c = told (λ found is. is (items_of c.args.policy.now) ∙ sym (resolving_by (items_of c.args.policy.now) c.args.arg.now (Arg-F.Str c.in-Str.text) c.args.ty.now (c.in-Str.is ∙ sym (arg.rolls-Str c.in-Str.text)))) c.text_at.result c.text_at.ensures

pub value_of-returns-in-Raw : goal.value_of-returns-in-Raw
value_of-returns-in-Raw t c = told (λ found is. is (items_of c.args.policy.now) ∙ sym (resolving_by (items_of c.args.policy.now) c.args.arg.now (Arg-F.Raw c.in-Raw.bytes) c.args.ty.now (c.in-Raw.is ∙ sym (arg.rolls-Raw c.in-Raw.bytes)))) c.bytes_at.result c.bytes_at.ensures

pub value_of-returns-in-Variant : goal.value_of-returns-in-Variant
value_of-returns-in-Variant t c = c.variant_at.ensures ∙ sym (resolving_by (items_of c.args.policy.now) c.args.arg.now (Arg-F.Variant c.in-Variant.name c.in-Variant.variant) c.args.ty.now (c.in-Variant.is ∙ sym (arg.rolls-Variant c.in-Variant.name c.in-Variant.variant)))

pub value_of-returns-in-Some-types_for : goal.value_of-returns-in-Some-types_for
value_of-returns-in-Some-types_for t c =
    let items = items_of c.args.policy.now in
    let number = c.in-Some-struct_number.number in
    let types = c.in-Some-types_for.types.now in
    told
    (λ found is. is
    ∙ sym
    (fields_found items c.args.arg.now c.in-Fields.name c.in-Fields.given c.args.ty.now number c.in-Fields.is (sym c.struct_number.ensures ∙ c.in-Some-struct_number.is) (Some types)
    (sym (ap option_copied c.in-Some-types_for.is) ∙ c.types_for.ensures ∙ ap (types_for items number c.in-Fields.name) c.as_slice.ensures)))
    c.struct_of.result
    (c.struct_of.ensures (values_for (names_at items number) types (given_of items c.in-Fields.given))
    (subst (λ given. IfOk c.fields_of.result (λ values. values ≡ values_for (names_at items number) types (given_of items given))) c.as_slice-in-Some-types_for.ensures c.fields_of.ensures))

pub value_of-returns-in-None-types_for : goal.value_of-returns-in-None-types_for
value_of-returns-in-None-types_for t c =
    let items = items_of c.args.policy.now in
    let number = c.in-Some-struct_number.number in
    sym
    (fields_found items c.args.arg.now c.in-Fields.name c.in-Fields.given c.args.ty.now number c.in-Fields.is (sym c.struct_number.ensures ∙ c.in-Some-struct_number.is) None
    (sym (ap option_copied c.in-None-types_for.is) ∙ c.types_for.ensures ∙ ap (types_for items number c.in-Fields.name) c.as_slice.ensures))

pub value_of-returns-in-None : goal.value_of-returns-in-None
value_of-returns-in-None t c = sym
    (fields_not (items_of c.args.policy.now) c.args.arg.now c.in-Fields.name c.in-Fields.given c.args.ty.now c.in-Fields.is (sym c.struct_number.ensures ∙ c.in-None.is))

pub value_of-returns-in-Some-inner_type : goal.value_of-returns-in-Some-inner_type
value_of-returns-in-Some-inner_type t c =
    let items = items_of c.args.policy.now in
    let inner = c.in-Some-inner_type.t.now in
    told
    (λ found is. is
    ∙ sym
    (some_found items c.args.arg.now c.in-Some.inner c.args.ty.now (Some inner) c.in-Some.is (sym (ap option_copied c.in-Some-inner_type.is) ∙ c.inner_type.ensures)))
    c.some_of.result
    (c.some_of.ensures (resolving items c.in-Some.inner inner)
    (subst (λ a. IfOk c.value_of.result (λ found. found ≡ resolving items a inner)) c.get.ensures c.value_of.ensures))

pub value_of-returns-in-None-inner_type : goal.value_of-returns-in-None-inner_type
value_of-returns-in-None-inner_type t c = sym
    (some_found (items_of c.args.policy.now) c.args.arg.now c.in-Some.inner c.args.ty.now None c.in-Some.is (sym (ap option_copied c.in-None-inner_type.is) ∙ c.inner_type.ensures))

pub fields_of-returns-in-None-2 : goal.fields_of-returns-in-None-2
fields_of-returns-in-None-2 t c =
    let items = items_of c.args.policy.now in
    loop_none items (names_at items c.args.number) c.args.types.now c.args.given.now c.loop-i.i c.index-types-i.result c.place_of_field.result c.loop-i-test.true c.index-types-i.is
    c.place_of_field.ensures.place c.loop-i.values (values_for (names_at items c.args.number) c.args.types.now (given_of items c.args.given.now))
    (taken_is items c.args.given.now c.index-types-i.result c.place_of_field.result c.in-Some.at c.index-given-at.result None c.in-Some.is c.place_of_field.ensures.within
    c.index-given-at.is (sym c.in-None-2.is ∙ c.in_ok-value-in-Some.ensures ∙ ap (λ g. resolving items g.1 c.index-types-i.result) (sym c.index-given-at.is)))
    c.loop-i.invariant

pub fields_of-returns-in-None : goal.fields_of-returns-in-None
fields_of-returns-in-None t c =
    let items = items_of c.args.policy.now in
    loop_none items (names_at items c.args.number) c.args.types.now c.args.given.now c.loop-i.i c.index-types-i.result c.place_of_field.result c.loop-i-test.true c.index-types-i.is
    c.place_of_field.ensures.place c.loop-i.values (values_for (names_at items c.args.number) c.args.types.now (given_of items c.args.given.now))
    (ap (taken items c.args.given.now c.index-types-i.result) c.in-None.is)
    c.loop-i.invariant

pub fields_of-loop-i-preserved : goal.fields_of-loop-i-preserved
fields_of-loop-i-preserved t c =
    let items = items_of c.args.policy.now in
    rw c.in_ok-push-in-Some-2.ensures.ok
    (loop_more items (names_at items c.args.number) c.args.types.now c.args.given.now c.loop-i.i c.index-types-i.result c.place_of_field.result c.loop-i-test.true c.index-types-i.is
    c.place_of_field.ensures.place c.loop-i.values c.in-Some-2.value (values_for (names_at items c.args.number) c.args.types.now (given_of items c.args.given.now))
    (taken_is items c.args.given.now c.index-types-i.result c.place_of_field.result c.in-Some.at c.index-given-at.result (Some c.in-Some-2.value) c.in-Some.is
    c.place_of_field.ensures.within
    c.index-given-at.is (sym c.in-Some-2.is ∙ c.in_ok-value-in-Some.ensures ∙ ap (λ g. resolving items g.1 c.index-types-i.result) (sym c.index-given-at.is)))
    c.loop-i.invariant)

pub value_of-returns-in-Int : goal.value_of-returns-in-Int
value_of-returns-in-Int t c =
    let items = items_of c.args.policy.now in
    let fits : SFits w64 c.in-Int.number = search rules in
    subst (λ n. c.int_at.result ≡ resolved_layer items (Arg-F.Int n) (out-Ty c.args.ty.now)) (to_z-of_z w64 c.in-Int.number fits) (c.int_at.ensures items)
    ∙ sym (resolving_by items c.args.arg.now (Arg-F.Int c.in-Int.number) c.args.ty.now (c.in-Int.is ∙ sym (arg.rolls-Int c.in-Int.number)))
