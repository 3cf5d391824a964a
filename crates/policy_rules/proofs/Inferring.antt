-- What the rules give an expression as its type is what is inferred of it.
use Rattle.std.proofs.Common.{◌≡◌, Bool, true, false, ◌&&◌, ◌||◌, List, [], codes, map, Option, Some, refl, sym, ap, ◌∙◌}
use Rattle.policy_ast.specs.declared.expr.ElseExpr.{ElseExpr}
use Rattle.policy_ast.specs.declared.expr.Expr.{Expr, fold_out-Expr, fold-roll-Expr, map-Expr}
use Rattle.policy_ast.specs.declared.expr.Expr.TheOpen.{Expr-F}
use Rattle.policy_ast.specs.declared.expr.Expr.TheVariants as expr
use Rattle.policy_ast.specs.declared.expr.ExprBlock.{ExprBlock}
use Rattle.policy_ast.specs.declared.expr.IfExpr.{IfExpr}
use Rattle.policy_ast.specs.declared.expr.Let.{Let}
use Rattle.policy_ast.specs.declared.item.Item.{Item}
use Rattle.policy_ast.specs.declared.pattern.Pattern.{Pattern}
use Rattle.policy_rules.proofs.Maps.{bind_names, bind_values, free_names, free_values, map_block, map_else, map_gap, map_let, map_pattern, value_part_map}
use Rattle.policy_rules.specs.Expressions as rules
use Rattle.policy_rules.specs.Expressions.{HasBlockType, HasElseType, HasType, HasTypeByForm, HaveGapTypes, HaveTypes, Introduce, IsPattern, count_type, is_device_call, is_envelope_call}
use Rattle.policy_rules.specs.Names.{Name}
use Rattle.policy_rules.specs.Scopes.{Scope}
use Rattle.policy_rules.specs.declared.context.Block.TheVariants as block
use Rattle.policy_rules.specs.declared.context.Context.{Context}
use Rattle.policy_rules.specs.declared.types.NamedType.{NamedType}
use Rattle.policy_rules.specs.declared.types.NamedType.TheVariants as ty
use Rattle.policy_rules.specs.Inference.{Found, all_types, block_type, else_type, found, found_layer, gap_types, inferred, inner_layer, inner_of, introduced, is_action_block, is_bool, is_bool_layer, is_command_block, is_foreign_call, is_int, is_int_layer, is_nothing, is_one_envelope, pattern_of, struct_layer, struct_of, type_layer}

-- ---- what a type is

pub bool_is : is_bool ty.Bool ≡ true
bool_is = ap is_bool_layer ty.outs-Bool

pub int_is : is_int ty.Int ≡ true
int_is = ap is_int_layer ty.outs-Int

pub inner_is : (t : NamedType) → inner_of (ty.Optional t) ≡ Some t
inner_is t = ap inner_layer (ty.outs-Optional t)

pub struct_is : (name : Name) → struct_of (ty.Struct name) ≡ Some name
struct_is name = ap struct_layer (ty.outs-Struct name)

pub or_second : (a b : Bool) → b ≡ true → (a || b) ≡ true
or_second true b is = refl
or_second false b is = is

device_found : (context : Context) (of called : Name) → is_device_call of called ≡ true → context.block ≡ block.Action → is_foreign_call context of called [] ≡ true
device_found context of called is at =
    or_second (is_envelope_call of called && (is_command_block context.block && is_one_envelope [])) (is_device_call of called && (is_action_block context.block && is_nothing []))
    (rw (is, at) refl)

module _ (items : List Item) (context : Context) where
  abbrev find : Expr → Found
  find = found items context

  -- the name `envelope` is known
  envelope_found : (find (expr.Name (codes "envelope"))).is_envelope ≡ true
  envelope_found = ap (λ e. (find e).is_envelope) (sym (expr.rolls-Name (codes "envelope")))
      ∙ ap (λ f. f.is_envelope) (fold-roll-Expr Found (found_layer items context) (Expr-F.Name (codes "envelope")))

  mutual
    pub infers : {scope : Scope} {e : Expr} {t : NamedType} → HasType items context scope e t → inferred items context e scope ≡ Some t
    infers {scope} {e} (rules.rule r) = ap (λ f. f.type_within scope) (fold_out-Expr Found (found_layer items context) e) ∙ infers_layer r

    pub infers_layer : {scope : Scope} {layer : Expr-F Expr} {t : NamedType} → HasTypeByForm items context scope layer t
        → type_layer items context (map-Expr Expr Found find layer) scope ≡ Some t
    infers_layer (rules.or p q) = rw (infers p, infers q, bool_is) refl
    infers_layer (rules.and p q) = rw (infers p, infers q, bool_is) refl
    infers_layer (rules.equality t u w is p q join) = rw (infers p, infers q, is, join) refl
    infers_layer (rules.order is p q) = rw (infers p, infers q, is, int_is) refl
    infers_layer (rules.presence t p) = rw (infers p, inner_is t) refl
    infers_layer (rules.not p) = rw (infers p, bool_is) refl
    infers_layer (rules.unwrap {t = t} p) = rw (infers p, inner_is t) refl
    infers_layer (rules.check_unwrap {t = t} p) = rw (infers p, inner_is t) refl
    infers_layer (rules.field struct_name fields p is has) = rw (infers p, struct_is struct_name, is, has) refl
    infers_layer (rules.literal is) = is
    infers_layer rules.none = refl
    infers_layer (rules.some p) = rw (infers p) refl
    infers_layer (rules.this is) = rw is refl
    infers_layer (rules.name is) = is
    infers_layer (rules.envelope_call is at one) = rw (one, envelope_found, is, at) refl
    infers_layer (rules.device_call {of = of} {called = called} is at) = rw (device_found context of called is at) refl
    infers_layer (rules.call types function is all fit) = rw (is, infers_all all, fit) refl
    infers_layer (rules.fields {binds = binds} types declared is all fit) = rw (bind_names find binds, bind_values find binds, is, infers_all all, fit) refl
    infers_layer (rules.calculation p q) = rw (infers p, infers q, int_is) refl
    infers_layer (rules.query {p = p} is) = infers_pattern is (ty.Optional (ty.Struct p.fact))
    infers_layer (rules.exists is) = infers_pattern is ty.Bool
    infers_layer (rules.counted {op = op} more is) = rw (more, infers_pattern is (count_type op)) refl
    infers_layer (rules.choice {x = x} t u head then otherwise join) = rw (infers head, infers_block then, infers_else otherwise x, bool_is, join) refl

    pub infers_all : {scope : Scope} {es : List Expr} {types : List NamedType} → HaveTypes items context scope es types → all_types (map find es) scope ≡ Some types
    infers_all rules.no_types = refl
    infers_all (rules.more_types p more) = rw (infers p, infers_all more) refl

    pub infers_gaps : {scope : Scope} {es : List (Option Expr)} {types : List (Option NamedType)} → HaveGapTypes items context scope es types
        → gap_types (map (map_gap find) es) scope ≡ Some types
    infers_gaps rules.no_gaps = refl
    infers_gaps (rules.gap more) = rw (infers_gaps more) refl
    infers_gaps (rules.no_gap p more) = rw (infers p, infers_gaps more) refl

    pub infers_pattern : {scope : Scope} {p : Pattern Expr} → IsPattern items context scope p → (t : NamedType) → pattern_of items context (map_pattern find p) scope t ≡ Some t
    infers_pattern (rules.pattern_of {p = p} fact keys values is ks vs fit) t =
        rw (
          value_part_map find p.values,
          free_names find p.keys,
          free_values find p.keys,
          free_names find (rules.value_part p.values),
          free_values find (rules.value_part p.values),
          is,
          infers_gaps ks,
          infers_gaps vs,
          fit,
        ) refl

    pub infers_lets : {scope after : Scope} {lets : List (Let Expr)} → Introduce items context scope lets after → introduced items context (map (map_let find) lets) scope ≡ Some after
    infers_lets rules.no_lets = refl
    infers_lets (rules.more_lets t p may more) = rw (infers p, may, infers_lets more) refl

    pub infers_block : {scope : Scope} {b : ExprBlock Expr} {t : NamedType} → HasBlockType items context scope b t → block_type items context (map_block find b) scope ≡ Some t
    infers_block (rules.block_of inner lets p) = rw (infers_lets lets, infers p) refl

    pub infers_else : {scope : Scope} {e : ElseExpr Expr} {t : NamedType} → HasElseType items context scope e t → (x : IfExpr Expr) → else_type items context (map_else find x e) scope ≡ Some t
    infers_else (rules.else_block b) x = infers_block b
    infers_else (rules.else_if p) x = infers p
