-- The types of expressions: one rule for each form, and the same for the patterns, the blocks and the lists that stand in them.
use Rattle.std.specs.Prelude.{◌≡◌, ℤ, pos, negsuc, Bool, true, false, ◌&&◌, ◌||◌, nat_le, List, [], ◌∷◌, codes, map, unwrap_or, Option, Some, None}
use Rattle.std.specs.Str.{bytes_eq}
use Rattle.base_bytes.specs.Values.{fits_int}
use Rattle.policy_ast.specs.declared.bind.Bind.{Bind}
use Rattle.policy_ast.specs.declared.expr.Arithmetic.{Arithmetic}
use Rattle.policy_ast.specs.declared.expr.Arithmetic.TheVariants as arithmetic
use Rattle.policy_ast.specs.declared.expr.Comparison.{Comparison}
use Rattle.policy_ast.specs.declared.expr.Comparison.TheVariants as comparison
use Rattle.policy_ast.specs.declared.expr.Count.{Count}
use Rattle.policy_ast.specs.declared.expr.Count.TheVariants as count
use Rattle.policy_ast.specs.declared.expr.ElseExpr.{ElseExpr}
use Rattle.policy_ast.specs.declared.expr.ElseExpr.TheVariants as else_expr
use Rattle.policy_ast.specs.declared.expr.Expr.{Expr, out-Expr}
use Rattle.policy_ast.specs.declared.expr.Expr.TheOpen.{Expr-F}
use Rattle.policy_ast.specs.declared.expr.Expr.TheVariants as expr
use Rattle.policy_ast.specs.declared.expr.ExprBlock.{ExprBlock}
use Rattle.policy_ast.specs.declared.expr.IfExpr.{IfExpr}
use Rattle.policy_ast.specs.declared.expr.Let.{Let}
use Rattle.policy_ast.specs.declared.expr.Presence.{Presence}
use Rattle.policy_ast.specs.declared.expr.Unary.TheVariants as unary
use Rattle.policy_ast.specs.declared.item.Item.{Item}
use Rattle.policy_ast.specs.declared.literal.Literal.{Literal}
use Rattle.policy_ast.specs.declared.pattern.Free.{Free}
use Rattle.policy_ast.specs.declared.pattern.Pattern.{Pattern}
use Rattle.policy_rules.specs.FieldLists.{arguments_fit, in_any_order, pattern_fits}
use Rattle.policy_rules.specs.Heads.{FactHead, FunctionHead, fact_named, function_named, literal_type, struct_named}
use Rattle.policy_rules.specs.Names.{Name}
use Rattle.policy_rules.specs.Scopes.{Scope, may_introduce, name_type, type_in, with_name}
use Rattle.policy_rules.specs.Types.{joined}
use Rattle.policy_rules.specs.declared.context.Block.TheVariants as block
use Rattle.policy_rules.specs.declared.context.Context.{Context}
use Rattle.policy_rules.specs.declared.types.Named.{Named}
use Rattle.policy_rules.specs.declared.types.NamedType.{NamedType}
use Rattle.policy_rules.specs.declared.types.NamedType.TheVariants as ty

-- `==` and `!=`, where the others are orders.
abbrev pub is_equality : Comparison → Bool
is_equality comparison.Equal = true
is_equality comparison.NotEqual = true
is_equality other = false

-- `add` and `sub` may be out of range; the saturating forms stop at the ends.
abbrev pub arithmetic_type : Arithmetic → NamedType
arithmetic_type arithmetic.Add = ty.Optional ty.Int
arithmetic_type arithmetic.Sub = ty.Optional ty.Int
arithmetic_type arithmetic.SaturatingAdd = ty.Int
arithmetic_type arithmetic.SaturatingSub = ty.Int

-- `count_up_to` gives a number, and the other counts say whether it is met.
abbrev pub count_type : Count → NamedType
count_type count.CountUpTo = ty.Int
count_type other = ty.Bool

-- At least 1, and a number of 64 bits.
abbrev pub is_positive : ℤ → Bool
is_positive (pos n) = nat_le 1 n && fits_int (pos n)
is_positive (negsuc n) = false

-- `envelope::author_id` and `envelope::command_id`.
abbrev pub is_envelope_call : Name → Name → Bool
is_envelope_call of called = bytes_eq of (codes "envelope") && (bytes_eq called (codes "author_id") || bytes_eq called (codes "command_id"))

-- `device::current_device_id`.
abbrev pub is_device_call : Name → Name → Bool
is_device_call of called = bytes_eq of (codes "device") && bytes_eq called (codes "current_device_id")

-- What a pattern names of the fact's values; the part may be left out.
abbrev pub value_part : {E : Type 0} → Option (List (Free E)) → List (Free E)
value_part part = unwrap_or part []

module _ (items : List Item) (context : Context) where
  mutual
    -- In this scope the expression is of this type.
    pub data HasType : Scope → Expr → NamedType → Type 0 where
      rule : {scope : Scope} {e : Expr} {t : NamedType} → HasTypeByForm scope (out-Expr e) t → HasType scope e t

    -- The rules, form by form.
    pub data HasTypeByForm : Scope → Expr-F Expr → NamedType → Type 0 where
      or : {scope : Scope} {a b : Expr} → HasType scope a ty.Bool → HasType scope b ty.Bool → HasTypeByForm scope (Expr-F.Or a b) ty.Bool
      and : {scope : Scope} {a b : Expr} → HasType scope a ty.Bool → HasType scope b ty.Bool → HasTypeByForm scope (Expr-F.And a b) ty.Bool
      equality : {scope : Scope} {a b : Expr} {op : Comparison} (t u w : NamedType) → is_equality op ≡ true
          → HasType scope a t → HasType scope b u → joined t u ≡ Some w → HasTypeByForm scope (Expr-F.Compare a op b) ty.Bool
      order : {scope : Scope} {a b : Expr} {op : Comparison} → is_equality op ≡ false
          → HasType scope a ty.Int → HasType scope b ty.Int → HasTypeByForm scope (Expr-F.Compare a op b) ty.Bool
      presence : {scope : Scope} {a : Expr} {op : Presence} (t : NamedType) → HasType scope a (ty.Optional t) → HasTypeByForm scope (Expr-F.Is a op) ty.Bool
      not : {scope : Scope} {a : Expr} → HasType scope a ty.Bool → HasTypeByForm scope (Expr-F.Unary unary.Not a) ty.Bool
      unwrap : {scope : Scope} {a : Expr} {t : NamedType} → HasType scope a (ty.Optional t) → HasTypeByForm scope (Expr-F.Unary unary.Unwrap a) t
      check_unwrap : {scope : Scope} {a : Expr} {t : NamedType} → HasType scope a (ty.Optional t) → HasTypeByForm scope (Expr-F.Unary unary.CheckUnwrap a) t
      -- `.f` takes a struct that has a field f
      field : {scope : Scope} {a : Expr} {name : Name} {t : NamedType} (struct_name : Name) (fields : List Named) → HasType scope a (ty.Struct struct_name)
          → struct_named items struct_name ≡ Some fields → type_in fields name ≡ Some t → HasTypeByForm scope (Expr-F.Field a name) t
      literal : {scope : Scope} {l : Literal} {t : NamedType} → literal_type items l ≡ Some t → HasTypeByForm scope (Expr-F.Literal l) t
      none : {scope : Scope} → HasTypeByForm scope Expr-F.None (ty.Optional ty.Never)
      some : {scope : Scope} {a : Expr} {t : NamedType} → HasType scope a t → HasTypeByForm scope (Expr-F.Some a) (ty.Optional t)
      -- `this` stands only in policy and recall blocks, `finish` included
      this : {scope : Scope} {command : Name} → context.this ≡ Some command → HasTypeByForm scope Expr-F.This (ty.Struct command)
      name : {scope : Scope} {x : Name} {t : NamedType} → name_type items context scope x ≡ Some t → HasTypeByForm scope (Expr-F.Name x) t
      -- `envelope::author_id(envelope)` and `envelope::command_id(envelope)`, in policy and recall blocks outside of `finish`
      envelope_call : {scope : Scope} {of called : Name} {arguments : List Expr} → is_envelope_call of called ≡ true → context.block ≡ block.Command
          → arguments ≡ expr.Name (codes "envelope") ∷ [] → HasTypeByForm scope (Expr-F.ForeignCall of called arguments) ty.Ident
      -- `device::current_device_id()`, in actions
      device_call : {scope : Scope} {of called : Name} → is_device_call of called ≡ true → context.block ≡ block.Action
          → HasTypeByForm scope (Expr-F.ForeignCall of called []) ty.Ident
      call : {scope : Scope} {called : Name} {arguments : List Expr} (types : List NamedType) (function : FunctionHead) → function_named items called ≡ Some function
          → HaveTypes scope arguments types → arguments_fit types function.parameters ≡ true → HasTypeByForm scope (Expr-F.Call called arguments) function.result
      fields : {scope : Scope} {struct_name : Name} {binds : List (Bind Expr)} (types : List NamedType) (declared : List Named) → struct_named items struct_name ≡ Some declared
          → HaveTypes scope (map (λ b. b.value) binds) types → in_any_order declared (map (λ b. b.name) binds) types ≡ true
          → HasTypeByForm scope (Expr-F.Struct struct_name binds) (ty.Struct struct_name)
      calculation : {scope : Scope} {a b : Expr} {op : Arithmetic} → HasType scope a ty.Int → HasType scope b ty.Int → HasTypeByForm scope (Expr-F.Arithmetic op a b) (arithmetic_type op)
      query : {scope : Scope} {p : Pattern Expr} → IsPattern scope p → HasTypeByForm scope (Expr-F.Query p) (ty.Optional (ty.Struct p.fact))
      exists : {scope : Scope} {p : Pattern Expr} → IsPattern scope p → HasTypeByForm scope (Expr-F.Exists p) ty.Bool
      -- the number of facts is held against at least 1
      counted : {scope : Scope} {op : Count} {n : ℤ} {p : Pattern Expr} → is_positive n ≡ true → IsPattern scope p → HasTypeByForm scope (Expr-F.Count op n p) (count_type op)
      choice : {scope : Scope} {x : IfExpr Expr} {w : NamedType} (t u : NamedType) → HasType scope x.head ty.Bool → HasBlockType scope x.then t → HasElseType scope x.otherwise u
          → joined t u ≡ Some w → HasTypeByForm scope (Expr-F.If x) w

    -- The expressions are of these types, one by one.
    pub data HaveTypes : Scope → List Expr → List NamedType → Type 0 where
      no_types : {scope : Scope} → HaveTypes scope [] []
      more_types : {scope : Scope} {e : Expr} {t : NamedType} {more : List Expr} {types : List NamedType} → HasType scope e t → HaveTypes scope more types → HaveTypes scope (e ∷ more) (t ∷ types)

    -- The same where a `?` may stand in place of an expression.
    pub data HaveGapTypes : Scope → List (Option Expr) → List (Option NamedType) → Type 0 where
      no_gaps : {scope : Scope} → HaveGapTypes scope [] []
      gap : {scope : Scope} {more : List (Option Expr)} {types : List (Option NamedType)} → HaveGapTypes scope more types → HaveGapTypes scope (None ∷ more) (None ∷ types)
      no_gap : {scope : Scope} {e : Expr} {t : NamedType} {more : List (Option Expr)} {types : List (Option NamedType)} → HasType scope e t
          → HaveGapTypes scope more types → HaveGapTypes scope (Some e ∷ more) (Some t ∷ types)

    -- The pattern is one of its fact's rows.
    pub data IsPattern : Scope → Pattern Expr → Type 0 where
      pattern_of : {scope : Scope} {p : Pattern Expr} (fact : FactHead) (keys values : List (Option NamedType)) → fact_named items p.fact ≡ Some fact
          → HaveGapTypes scope (map (λ f. f.value) p.keys) keys → HaveGapTypes scope (map (λ f. f.value) (value_part p.values)) values
          → pattern_fits fact (map (λ f. f.name) p.keys) keys (map (λ f. f.name) (value_part p.values)) values ≡ true → IsPattern scope p

    -- The scope before the `let`s of a block, and after them.
    pub data Introduce : Scope → List (Let Expr) → Scope → Type 0 where
      no_lets : {scope : Scope} → Introduce scope [] scope
      more_lets : {scope after : Scope} {l : Let Expr} {more : List (Let Expr)} (t : NamedType) → HasType scope l.value t → may_introduce items context scope l.name ≡ true
          → Introduce (with_name scope l.name t) more after → Introduce scope (l ∷ more) after

    -- A block has the type of its value, in the scope behind its `let`s.
    pub data HasBlockType : Scope → ExprBlock Expr → NamedType → Type 0 where
      block_of : {scope : Scope} {b : ExprBlock Expr} {t : NamedType} (inner : Scope) → Introduce scope b.lets inner → HasType inner b.value t → HasBlockType scope b t

    -- What follows `else` has this type: a block, or an `if` again.
    pub data HasElseType : Scope → ElseExpr Expr → NamedType → Type 0 where
      else_block : {scope : Scope} {b : ExprBlock Expr} {t : NamedType} → HasBlockType scope b t → HasElseType scope (else_expr.Block b) t
      else_if : {scope : Scope} {e : Expr} {t : NamedType} → HasType scope e t → HasElseType scope (else_expr.If e) t
