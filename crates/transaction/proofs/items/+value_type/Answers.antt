use Rattle.std.proofs.Common.{ap, sym, ◌∙◌}
use Rattle.base_bytes.specs.declared.ty.Ty.TheVariants as value_type
use Rattle.policy_ast.specs.declared.field.FieldType.{out-FieldType}
use Rattle.policy_ast.specs.declared.field.FieldType.TheOpen.{FieldType-F}
use Rattle.policy_ast.specs.declared.field.FieldType.TheVariants as field_type
use Rattle.policy_rules.specs.Shapes.{value_type_of}
use Rattle.policy_rules.specs.Types.{written_type}
use Rattle.policy_meaning.proofs.FieldTypes.{typed_by_form}
use Rattle.transaction.proofs.items.+value_type.Goals as goal

pub returns-in-Int : goal.returns-in-Int
returns-in-Int t c = sym (typed_by_form (c.args.heads.now) c.args.t.now FieldType-F.Int (ap out-FieldType c.in-Int.is ∙ field_type.outs-Int))

pub returns-in-Bool : goal.returns-in-Bool
returns-in-Bool t c = sym (typed_by_form (c.args.heads.now) c.args.t.now FieldType-F.Bool (ap out-FieldType c.in-Bool.is ∙ field_type.outs-Bool))

pub returns-in-Str : goal.returns-in-Str
returns-in-Str t c = sym (typed_by_form (c.args.heads.now) c.args.t.now FieldType-F.Str (ap out-FieldType c.in-Str.is ∙ field_type.outs-Str))

pub returns-in-Raw : goal.returns-in-Raw
returns-in-Raw t c = sym (typed_by_form (c.args.heads.now) c.args.t.now FieldType-F.Raw (ap out-FieldType c.in-Raw.is ∙ field_type.outs-Raw))

pub returns-in-Ident : goal.returns-in-Ident
returns-in-Ident t c = sym (typed_by_form (c.args.heads.now) c.args.t.now FieldType-F.Ident (ap out-FieldType c.in-Ident.is ∙ field_type.outs-Ident))

pub returns-in-Enum : goal.returns-in-Enum
returns-in-Enum t c =
    c.enum_type.ensures
    ∙ sym (typed_by_form (c.args.heads.now) c.args.t.now (FieldType-F.Enum c.in-Enum.name) (ap out-FieldType c.in-Enum.is ∙ field_type.outs-Enum c.in-Enum.name))

pub returns-in-Struct : goal.returns-in-Struct
returns-in-Struct t c =
    c.struct_type.ensures
    ∙ sym (typed_by_form (c.args.heads.now) c.args.t.now (FieldType-F.Struct c.in-Struct.name) (ap out-FieldType c.in-Struct.is ∙ field_type.outs-Struct c.in-Struct.name))

pub returns-in_ok-new-in-Optional : goal.returns-in_ok-new-in-Optional
returns-in_ok-new-in-Optional t c =
    ap value_type.Optional
    (c.in_ok-new-in-Optional.ensures ∙ c.in_ok-inner-in-Optional.ensures ∙ ap (λ inner. value_type_of (c.args.heads.now) (written_type inner)) c.get.ensures)
    ∙ sym (typed_by_form (c.args.heads.now) c.args.t.now (FieldType-F.Optional c.in-Optional.inner) (ap out-FieldType c.in-Optional.is ∙ field_type.outs-Optional c.in-Optional.inner))
