-- What is inferred of an expression is what the rules give it as its type.
use Rattle.std.proofs.Common.{◌≡◌, Bool, true, false, ◌&&◌, List, [], ◌∷◌, codes, map, Option, Some, None, refl, sym, ap, subst, ◌∙◌}
use Rattle.std.proofs.lemmas.Bool.{false≢true}
use Rattle.std.proofs.lemmas.Option.{same_Some}
use Rattle.std.proofs.lemmas.Slice.Eq.{bytes_eq-Decides}
use Rattle.base_bytes.proofs.Bools.{and_then, either}
use Rattle.base_bytes.proofs.Formats.{bind_then, map_then}
use Rattle.policy_ast.specs.declared.bind.Bind.{Bind}
use Rattle.policy_ast.specs.declared.expr.Arithmetic.{Arithmetic}
use Rattle.policy_ast.specs.declared.expr.Comparison.{Comparison}
use Rattle.policy_ast.specs.declared.expr.ElseExpr.{ElseExpr}
use Rattle.policy_ast.specs.declared.expr.ElseExpr.TheVariants as else_expr
use Rattle.policy_ast.specs.declared.expr.Expr.{Expr, fold_out-Expr, fold-roll-Expr, ind-Expr, map-Expr, out-Expr, out-roll-Expr, roll-Expr, roll-out-Expr}
use Rattle.policy_ast.specs.declared.expr.Expr.TheOpen.{Expr-F}
use Rattle.policy_ast.specs.declared.expr.Expr.TheVariants as expr
use Rattle.policy_ast.specs.declared.expr.ExprBlock.{ExprBlock}
use Rattle.policy_ast.specs.declared.expr.IfExpr.{IfExpr}
use Rattle.policy_ast.specs.declared.expr.Let.{Let}
use Rattle.policy_ast.specs.declared.expr.Unary.{Unary}
use Rattle.policy_ast.specs.declared.expr.Unary.TheVariants as unary
use Rattle.policy_ast.specs.declared.item.Item.{Item}
use Rattle.policy_ast.specs.declared.pattern.Free.{Free}
use Rattle.policy_ast.specs.declared.pattern.Pattern.{Pattern}
use Rattle.policy_rules.proofs.Maps.{bind_names, free_names, map_bind, map_block, map_else, map_free, map_gap, map_let, map_pattern, map_values, value_part_map}
use Rattle.policy_rules.specs.Expressions as rules
use Rattle.policy_rules.specs.Expressions.{HasBlockType, HasElseType, HasType, HasTypeByForm, HaveGapTypes, HaveTypes, Introduce, IsPattern, arithmetic_type, count_type, is_device_call, is_envelope_call, is_equality, is_positive, value_part}
use Rattle.policy_rules.specs.FieldLists.{arguments_fit, in_any_order, pattern_fits}
use Rattle.policy_rules.specs.Heads.{fact_named, function_named, struct_named}
use Rattle.policy_rules.specs.Names.{Name}
use Rattle.policy_rules.specs.Scopes.{Scope, may_introduce, with_name}
use Rattle.policy_rules.specs.Types.{joined}
use Rattle.policy_rules.specs.declared.context.Block.{Block}
use Rattle.policy_rules.specs.declared.context.Block.TheVariants as block
use Rattle.policy_rules.specs.declared.context.Context.{Context}
use Rattle.policy_rules.specs.declared.types.NamedType.{NamedType, out-NamedType, roll-NamedType, roll-out-NamedType}
use Rattle.policy_rules.specs.declared.types.NamedType.TheOpen.{NamedType-F}
use Rattle.policy_rules.specs.declared.types.NamedType.TheVariants as ty
use Rattle.policy_rules.specs.Inference.{Found, all_types, block_type, compared_type, else_type, envelope_layer, found, found_layer, gap_types, inferred, inner_layer, inner_of, introduced, is_action_block, is_bool, is_bool_layer, is_command_block, is_foreign_call, is_int, is_int_layer, is_nothing, is_one_envelope, only_if, pattern_of, struct_layer, struct_of, type_layer, unary_type}

-- ---- taking answers apart

pub same_some : {A : Type 0} {x y : A} → Some x ≡ Some y → x ≡ y
same_some {x = x} {y = y} is = same_Some x y is

pub only_if_then : {A P : Type 0} (b : Bool) (o : Option A) (y : A) → only_if b o ≡ Some y → (b ≡ true → o ≡ Some y → P) → P
only_if_then true o y is go = go refl is
only_if_then false o y is go = absurd (cc)

bool_from : (l : NamedType-F NamedType) → is_bool_layer l ≡ true → roll-NamedType l ≡ ty.Bool
bool_from NamedType-F.Bool is = ty.rolls-Bool
bool_from l is = absurd (false≢true is)

pub bool_then : (t : NamedType) → is_bool t ≡ true → t ≡ ty.Bool
bool_then t is = sym (roll-out-NamedType t) ∙ bool_from (out-NamedType t) is

int_from : (l : NamedType-F NamedType) → is_int_layer l ≡ true → roll-NamedType l ≡ ty.Int
int_from NamedType-F.Int is = ty.rolls-Int
int_from l is = absurd (false≢true is)

int_then : (t : NamedType) → is_int t ≡ true → t ≡ ty.Int
int_then t is = sym (roll-out-NamedType t) ∙ int_from (out-NamedType t) is

inner_from : (l : NamedType-F NamedType) (u : NamedType) → inner_layer l ≡ Some u → roll-NamedType l ≡ ty.Optional u
inner_from (NamedType-F.Optional inner) u is = ty.rolls-Optional inner ∙ ap ty.Optional (same_some is)
inner_from l u is = absurd (cc)

inner_then : (t u : NamedType) → inner_of t ≡ Some u → t ≡ ty.Optional u
inner_then t u is = sym (roll-out-NamedType t) ∙ inner_from (out-NamedType t) u is

struct_from : (l : NamedType-F NamedType) (name : Name) → struct_layer l ≡ Some name → roll-NamedType l ≡ ty.Struct name
struct_from (NamedType-F.Struct other) name is = ty.rolls-Struct other ∙ ap ty.Struct (same_some is)
struct_from l name is = absurd (cc)

pub struct_then : (t : NamedType) (name : Name) → struct_of t ≡ Some name → t ≡ ty.Struct name
struct_then t name is = sym (roll-out-NamedType t) ∙ struct_from (out-NamedType t) name is

pub command_block_then : (b : Block) → is_command_block b ≡ true → b ≡ block.Command
command_block_then block.Command is = refl
command_block_then b is = absurd (false≢true is)

pub action_block_then : (b : Block) → is_action_block b ≡ true → b ≡ block.Action
action_block_then block.Action is = refl
action_block_then b is = absurd (false≢true is)

-- both operands pass a test of types
both_then : {P : Type 0} (test : NamedType → Bool) (w : NamedType) (only : (t : NamedType) → test t ≡ true → t ≡ w) (o p : Option NamedType) (t u r s : NamedType)
    → o ≡ Some t → p ≡ Some u → only_if (test t && test u) (Some r) ≡ Some s → (o ≡ Some w → p ≡ Some w → s ≡ r → P) → P
both_then test w only o p t u r s is is_too both go =
    only_if_then (test t && test u) (Some r) s both (λ b same. and_then (test t) (test u) b (λ one other.
    go (is ∙ ap Some (only t one)) (is_too ∙ ap Some (only u other)) (sym (same_some same))))

module _ (items : List Item) (context : Context) where
  abbrev find : Expr → Found
  find = found items context

  -- each type that is inferred of the expression is its type
  abbrev Finds : Expr → Type 0
  Finds e = (scope : Scope) (t : NamedType) → inferred items context e scope ≡ Some t → HasType items context scope e t

  abbrev Child : Type 0
  Child = (e : Expr) × Finds e

  abbrev tree : Child → Expr
  tree c = c.0

  -- ---- the name `envelope`

  envelope_from : (layer : Expr-F Expr) → envelope_layer items context (map-Expr Expr Found find layer) ≡ true → roll-Expr layer ≡ expr.Name (codes "envelope")
  envelope_from (Expr-F.Name name) is = expr.rolls-Name name ∙ ap expr.Name ((bytes_eq-Decides name (codes "envelope")).0 is)
  envelope_from layer is = absurd (false≢true is)

  envelope_then : (e : Expr) → (find e).is_envelope ≡ true → e ≡ expr.Name (codes "envelope")
  envelope_then e is =
      sym (roll-out-Expr e) ∙ envelope_from (out-Expr e) (sym (ap (λ f. f.is_envelope) (fold_out-Expr Found (found_layer items context) e)) ∙ is)

  one_envelope : (es : List Expr) → is_one_envelope (map (λ f. f.is_envelope) (map find es)) ≡ true → es ≡ expr.Name (codes "envelope") ∷ []
  one_envelope [] is = absurd (false≢true is)
  one_envelope (e ∷ []) is = ap (λ e. e ∷ []) (envelope_then e is)
  one_envelope (e ∷ d ∷ es) is = absurd (false≢true is)

  no_arguments : (es : List Expr) → is_nothing (map (λ f. f.is_envelope) (map find es)) ≡ true → es ≡ []
  no_arguments [] is = refl
  no_arguments (e ∷ es) is = absurd (false≢true is)

  -- ---- lists

  all_found : (cs : List Child) (scope : Scope) (types : List NamedType) → all_types (map find (map tree cs)) scope ≡ Some types → HaveTypes items context scope (map tree cs) types
  all_found [] scope types is = rw (sym (same_some is)) rules.no_types
  all_found (c ∷ cs) scope types is =
      bind_then (inferred items context c.0 scope) _ types is (λ t has rest. map_then (all_types (map find (map tree cs)) scope) _ types rest (λ more all same.
      rw (sym same) (rules.more_types (c.1 scope t has) (all_found cs scope more all))))

  binds_found : (bs : List (Bind Child)) (scope : Scope) (types : List NamedType)
      → all_types (map (λ b. b.value) (map (map_bind find) (map (map_bind tree) bs))) scope ≡ Some types → HaveTypes items context scope (map (λ b. b.value) (map (map_bind tree) bs)) types
  binds_found [] scope types is = rw (sym (same_some is)) rules.no_types
  binds_found (b ∷ bs) scope types is =
      bind_then (inferred items context b.value.0 scope) _ types is (λ t has rest.
      map_then (all_types (map (λ b. b.value) (map (map_bind find) (map (map_bind tree) bs))) scope) _ types rest (λ more all same.
      rw (sym same) (rules.more_types (b.value.1 scope t has) (binds_found bs scope more all))))

  -- the gaps of a part of a pattern
  abbrev gaps_in : List (Free Child) → List (Option Found)
  gaps_in xs = map (λ x. x.value) (map (map_free find) (map (map_free tree) xs))

  abbrev gap_trees : List (Free Child) → List (Option Expr)
  gap_trees xs = map (λ x. x.value) (map (map_free tree) xs)

  abbrev GapsFound : List (Option Found) → List (Option Expr) → Type 0
  GapsFound founds trees = (scope : Scope) (types : List (Option NamedType)) → gap_types founds scope ≡ Some types → HaveGapTypes items context scope trees types

  gap_found : (o : Option Child) (founds : List (Option Found)) (trees : List (Option Expr)) → GapsFound founds trees → GapsFound (map_gap find (map_gap tree o) ∷ founds) (map_gap tree o ∷ trees)
  gap_found None founds trees later scope types is = map_then (gap_types founds scope) _ types is (λ more all same. rw (sym same) (rules.gap (later scope more all)))
  gap_found (Some c) founds trees later scope types is =
      bind_then (inferred items context c.0 scope) _ types is (λ t has rest. map_then (gap_types founds scope) _ types rest (λ more all same.
      rw (sym same) (rules.no_gap (c.1 scope t has) (later scope more all))))

  gaps_found : (xs : List (Free Child)) → GapsFound (gaps_in xs) (gap_trees xs)
  gaps_found [] scope types is = rw (sym (same_some is)) rules.no_gaps
  gaps_found (x ∷ xs) scope types is = gap_found x.value (gaps_in xs) (gap_trees xs) (gaps_found xs) scope types is

  values_found : (o : Option (List (Free Child)))
      → GapsFound (map (λ x. x.value) (value_part (map_values find (map_values tree o)))) (map (λ x. x.value) (value_part (map_values tree o)))
  values_found None scope types is = rw (sym (same_some is)) rules.no_gaps
  values_found (Some xs) scope types is = gaps_found xs scope types is

  value_names : (o : Option (List (Free Expr))) → map (λ x. x.name) (value_part (map_values find o)) ≡ map (λ x. x.name) (value_part o)
  value_names o = ap (map (λ x. x.name)) (value_part_map find o) ∙ free_names find (value_part o)

  -- ---- patterns, blocks and what follows `else`

  pattern_found : {P : Type 0} (p : Pattern Child) (scope : Scope) (u t : NamedType) → pattern_of items context (map_pattern find (map_pattern tree p)) scope u ≡ Some t
      → (IsPattern items context scope (map_pattern tree p) → t ≡ u → P) → P
  pattern_found p scope u t is go =
      bind_then (fact_named items p.fact) _ t is (λ fact named rest. bind_then (gap_types (gaps_in p.keys) scope) _ t rest (λ keys ks others.
      bind_then (gap_types (map (λ x. x.value) (value_part (map_values find (map_values tree p.values)))) scope) _ t others (λ values vs last.
      only_if_then (pattern_fits fact (map (λ x. x.name) (map (map_free find) (map (map_free tree) p.keys))) keys
      (map (λ x. x.name) (value_part (map_values find (map_values tree p.values)))) values) (Some u) t last (λ fit same.
      go (rules.pattern_of fact keys values named (gaps_found p.keys scope keys ks) (values_found p.values scope values vs)
      (ap (λ names. pattern_fits fact names keys (map (λ x. x.name) (value_part (map_values tree p.values))) values) (sym (free_names find (map (map_free tree) p.keys)))
      ∙ ap (λ names. pattern_fits fact (map (λ x. x.name) (map (map_free find) (map (map_free tree) p.keys))) keys names values) (sym (value_names (map_values tree p.values)))
      ∙ fit))
      (sym (same_some same))))))

  lets_found : (ls : List (Let Child)) (scope after : Scope) → introduced items context (map (map_let find) (map (map_let tree) ls)) scope ≡ Some after
      → Introduce items context scope (map (map_let tree) ls) after
  lets_found [] scope after is = rw (sym (same_some is)) rules.no_lets
  lets_found (l ∷ ls) scope after is =
      bind_then (inferred items context l.value.0 scope) _ after is (λ t has rest.
      only_if_then (may_introduce items context scope l.name) (introduced items context (map (map_let find) (map (map_let tree) ls)) (with_name scope l.name t)) after rest (λ may more.
      rules.more_lets t (l.value.1 scope t has) may (lets_found ls (with_name scope l.name t) after more)))

  block_found : (b : ExprBlock Child) (scope : Scope) (t : NamedType) → block_type items context (map_block find (map_block tree b)) scope ≡ Some t → HasBlockType items context scope (map_block tree b) t
  block_found b scope t is =
      bind_then (introduced items context (map (map_let find) (map (map_let tree) b.lets)) scope) _ t is (λ inner lets has. rules.block_of inner (lets_found b.lets scope inner lets) (b.value.1 inner t has))

  else_found : (y : IfExpr Expr) (x : IfExpr Child) (e : ElseExpr Child) (scope : Scope) (t : NamedType) → else_type items context (map_else find y (map_else tree x e)) scope ≡ Some t
      → HasElseType items context scope (map_else tree x e) t
  else_found y x (else_expr.Block b) scope t is = rules.else_block (block_found b scope t is)
  else_found y x (else_expr.If c) scope t is = rules.else_if (c.1 scope t is)

  -- ---- one form

  abbrev plain : Expr-F Child → Expr-F Expr
  plain layer = map-Expr Child Expr tree layer

  abbrev FindsLayer : Expr-F Child → Type 0
  FindsLayer layer = (scope : Scope) (t : NamedType) → type_layer items context (map-Expr Expr Found find (plain layer)) scope ≡ Some t → HasTypeByForm items context scope (plain layer) t

  or_found : (a b : Child) → FindsLayer (Expr-F.Or a b)
  or_found a b scope t is =
      bind_then (inferred items context a.0 scope) _ t is (λ u one rest. bind_then (inferred items context b.0 scope) _ t rest (λ w other last.
      both_then is_bool ty.Bool bool_then (inferred items context a.0 scope) (inferred items context b.0 scope) u w ty.Bool t one other last (λ p q same.
      rw same (rules.or (a.1 scope ty.Bool p) (b.1 scope ty.Bool q)))))

  and_found : (a b : Child) → FindsLayer (Expr-F.And a b)
  and_found a b scope t is =
      bind_then (inferred items context a.0 scope) _ t is (λ u one rest. bind_then (inferred items context b.0 scope) _ t rest (λ w other last.
      both_then is_bool ty.Bool bool_then (inferred items context a.0 scope) (inferred items context b.0 scope) u w ty.Bool t one other last (λ p q same.
      rw same (rules.and (a.1 scope ty.Bool p) (b.1 scope ty.Bool q)))))

  calculation_found : (op : Arithmetic) (a b : Child) → FindsLayer (Expr-F.Arithmetic op a b)
  calculation_found op a b scope t is =
      bind_then (inferred items context a.0 scope) _ t is (λ u one rest. bind_then (inferred items context b.0 scope) _ t rest (λ w other last.
      both_then is_int ty.Int int_then (inferred items context a.0 scope) (inferred items context b.0 scope) u w (arithmetic_type op) t one other last (λ p q same.
      rw same (rules.calculation (a.1 scope ty.Int p) (b.1 scope ty.Int q)))))

  compared_found : (op : Comparison) (a b : Child) (scope : Scope) (t u w : NamedType) → inferred items context a.0 scope ≡ Some u → inferred items context b.0 scope ≡ Some w
      → (is_equal : Bool) → is_equality op ≡ is_equal → compared_type is_equal u w ≡ Some t → HasTypeByForm items context scope (Expr-F.Compare a.0 op b.0) t
  compared_found op a b scope t u w one other true is last =
      map_then (joined u w) _ t last (λ v join same. rw (sym same) (rules.equality u w v is (a.1 scope u one) (b.1 scope w other) join))
  compared_found op a b scope t u w one other false is last =
      both_then is_int ty.Int int_then (inferred items context a.0 scope) (inferred items context b.0 scope) u w ty.Bool t one other last (λ p q same.
      rw same (rules.order is (a.1 scope ty.Int p) (b.1 scope ty.Int q)))

  compare_found : (a : Child) (op : Comparison) (b : Child) → FindsLayer (Expr-F.Compare a op b)
  compare_found a op b scope t is =
      bind_then (inferred items context a.0 scope) _ t is (λ u one rest. bind_then (inferred items context b.0 scope) _ t rest (λ w other last.
      compared_found op a b scope t u w one other (is_equality op) refl last))

  unary_found : (op : Unary) (a : Child) (scope : Scope) (t u : NamedType) → inferred items context a.0 scope ≡ Some u → unary_type op u ≡ Some t → HasTypeByForm items context scope (Expr-F.Unary op a.0) t
  unary_found unary.Not a scope t u one last =
      only_if_then (is_bool u) (Some ty.Bool) t last (λ is same. rw (sym (same_some same)) (rules.not (a.1 scope ty.Bool (one ∙ ap Some (bool_then u is)))))
  unary_found unary.Unwrap a scope t u one last = rules.unwrap (a.1 scope (ty.Optional t) (one ∙ ap Some (inner_then u t last)))
  unary_found unary.CheckUnwrap a scope t u one last = rules.check_unwrap (a.1 scope (ty.Optional t) (one ∙ ap Some (inner_then u t last)))

  field_found : (a : Child) (name : Name) → FindsLayer (Expr-F.Field a name)
  field_found a name scope t is =
      bind_then (inferred items context a.0 scope) _ t is (λ u one rest. bind_then (struct_of u) _ t rest (λ struct_name of more. bind_then (struct_named items struct_name) _ t more (λ fields named last.
      rules.field struct_name fields (a.1 scope (ty.Struct struct_name) (one ∙ ap Some (struct_then u struct_name of))) named last)))

  foreign_found : (of called : Name) (arguments : List Child) → FindsLayer (Expr-F.ForeignCall of called arguments)
  foreign_found of called arguments scope t is =
      let told : List Bool = map (λ f. f.is_envelope) (map find (map tree arguments)) in
      let is_envelope : Bool = is_envelope_call of called && (is_command_block context.block && is_one_envelope told) in
      let is_device : Bool = is_device_call of called && (is_action_block context.block && is_nothing told) in
      only_if_then (is_foreign_call context of called told) (Some ty.Ident) t is (λ foreign same. rw (sym (same_some same)) (either is_envelope is_device foreign
      (λ both. and_then (is_envelope_call of called) (is_command_block context.block && is_one_envelope told) both (λ names rest.
      and_then (is_command_block context.block) (is_one_envelope told) rest (λ at one. rules.envelope_call names (command_block_then context.block at) (one_envelope (map tree arguments) one))))
      (λ both. and_then (is_device_call of called) (is_action_block context.block && is_nothing told) both (λ names rest.
      and_then (is_action_block context.block) (is_nothing told) rest (λ at nothing.
      subst (λ es. HasTypeByForm items context scope (Expr-F.ForeignCall of called es) ty.Ident) (sym (no_arguments (map tree arguments) nothing))
      (rules.device_call names (action_block_then context.block at)))))))

  call_found : (called : Name) (arguments : List Child) → FindsLayer (Expr-F.Call called arguments)
  call_found called arguments scope t is =
      bind_then (function_named items called) _ t is (λ function named rest. bind_then (all_types (map find (map tree arguments)) scope) _ t rest (λ types all last.
      only_if_then (arguments_fit types function.parameters) (Some function.result) t last (λ fit same.
      rw (sym (same_some same)) (rules.call types function named (all_found arguments scope types all) fit))))

  fields_found : (name : Name) (binds : List (Bind Child)) → FindsLayer (Expr-F.Struct name binds)
  fields_found name binds scope t is =
      let plain_binds : List (Bind Expr) = map (map_bind tree) binds in
      bind_then (struct_named items name) _ t is (λ declared named rest. bind_then (all_types (map (λ b. b.value) (map (map_bind find) plain_binds)) scope) _ t rest (λ types all last.
      only_if_then (in_any_order declared (map (λ b. b.name) (map (map_bind find) plain_binds)) types) (Some (ty.Struct name)) t last (λ fit same.
      rw (sym (same_some same)) (rules.fields types declared named (binds_found binds scope types all)
      (ap (λ names. in_any_order declared names types) (sym (bind_names find plain_binds)) ∙ fit)))))

  choice_found : (x : IfExpr Child) → FindsLayer (Expr-F.If x)
  choice_found x scope t is =
      bind_then (inferred items context x.head.0 scope) _ t is (λ c head rest. bind_then (block_type items context (map_block find (map_block tree x.then)) scope) _ t rest (λ u then more.
      bind_then (else_type items context (map_else find (record { head = x.head.0; then = map_block tree x.then; otherwise = map_else tree x x.otherwise }) (map_else tree x x.otherwise)) scope) _ t more (λ w other last.
      only_if_then (is_bool c) (joined u w) t last (λ is_head join.
      rules.choice u w (x.head.1 scope ty.Bool (head ∙ ap Some (bool_then c is_head))) (block_found x.then scope u then)
      (else_found (record { head = x.head.0; then = map_block tree x.then; otherwise = map_else tree x x.otherwise }) x x.otherwise scope w other) join))))

  finds_layer : (layer : Expr-F Child) → FindsLayer layer
  finds_layer (Expr-F.Or a b) scope t is = or_found a b scope t is
  finds_layer (Expr-F.And a b) scope t is = and_found a b scope t is
  finds_layer (Expr-F.Compare a op b) scope t is = compare_found a op b scope t is
  finds_layer (Expr-F.Is a op) scope t is = bind_then (inferred items context a.0 scope) _ t is (λ u one rest. map_then (inner_of u) _ t rest (λ inner of same.
      rw (sym same) (rules.presence inner (a.1 scope (ty.Optional inner) (one ∙ ap Some (inner_then u inner of))))))
  finds_layer (Expr-F.Unary op a) scope t is = bind_then (inferred items context a.0 scope) _ t is (λ u one rest. unary_found op a scope t u one rest)
  finds_layer (Expr-F.Field a name) scope t is = field_found a name scope t is
  finds_layer (Expr-F.Literal l) scope t is = rules.literal is
  finds_layer Expr-F.None scope t is = rw (sym (same_some is)) rules.none
  finds_layer (Expr-F.Some a) scope t is = map_then (inferred items context a.0 scope) _ t is (λ u one same. rw (sym same) (rules.some (a.1 scope u one)))
  finds_layer Expr-F.This scope t is = map_then context.this _ t is (λ command at same. rw (sym same) (rules.this at))
  finds_layer (Expr-F.Name name) scope t is = rules.name is
  finds_layer (Expr-F.ForeignCall of called arguments) scope t is = foreign_found of called arguments scope t is
  finds_layer (Expr-F.Call called arguments) scope t is = call_found called arguments scope t is
  finds_layer (Expr-F.Struct name binds) scope t is = fields_found name binds scope t is
  finds_layer (Expr-F.Arithmetic op a b) scope t is = calculation_found op a b scope t is
  finds_layer (Expr-F.Query p) scope t is = pattern_found p scope (ty.Optional (ty.Struct p.fact)) t is (λ has same. rw same (rules.query has))
  finds_layer (Expr-F.Exists p) scope t is = pattern_found p scope ty.Bool t is (λ has same. rw same (rules.exists has))
  finds_layer (Expr-F.Count op n p) scope t is =
      only_if_then (is_positive n) (pattern_of items context (map_pattern find (map_pattern tree p)) scope (count_type op)) t is (λ more rest.
      pattern_found p scope (count_type op) t rest (λ has same. rw same (rules.counted more has)))
  finds_layer (Expr-F.If x) scope t is = choice_found x scope t is

  -- ---- all expressions

  finds_step : (layer : Expr-F Child) → Finds (roll-Expr (plain layer))
  finds_step layer scope t is = rules.rule (subst (λ l. HasTypeByForm items context scope l t) (sym (out-roll-Expr (plain layer)))
      (finds_layer layer scope t (sym (ap (λ f. f.type_within scope) (fold-roll-Expr Found (found_layer items context) (plain layer))) ∙ is)))

  pub finds : (e : Expr) → Finds e
  finds = ind-Expr Finds (λ x y is. subst (λ l. Finds (roll-Expr l)) is (finds_step y))
