-- What each form of expression means: one equation a form, over names that stay shut.
use Rattle.std.proofs.Common.{◌≡◌, ℕ, ℤ, suc, Bool, true, false, List, [], ◌∷◌, map, Option, Some, None, option_map, refl, ap, ◌∙◌}
use Rattle.base_bytes.specs.declared.value.Value.{Value}
use Rattle.base_bytes.specs.declared.value.Value.TheVariants as value
use Rattle.fact_store.specs.declared.row.Row.{Row}
use Rattle.policy_ast.specs.declared.bind.Bind.{Bind}
use Rattle.policy_ast.specs.declared.expr.Arithmetic.{Arithmetic}
use Rattle.policy_ast.specs.declared.expr.Comparison.{Comparison}
use Rattle.policy_ast.specs.declared.expr.Count.{Count}
use Rattle.policy_ast.specs.declared.expr.ElseExpr.{ElseExpr}
use Rattle.policy_ast.specs.declared.expr.ElseExpr.TheVariants as else_expr
use Rattle.policy_ast.specs.declared.expr.Expr.{Expr}
use Rattle.policy_ast.specs.declared.expr.Expr.TheOpen.{Expr-F}
use Rattle.policy_ast.specs.declared.expr.Expr.TheVariants as expr
use Rattle.policy_ast.specs.declared.expr.ExprBlock.{ExprBlock}
use Rattle.policy_ast.specs.declared.expr.IfExpr.{IfExpr}
use Rattle.policy_ast.specs.declared.expr.Let.{Let}
use Rattle.policy_ast.specs.declared.expr.Presence.{Presence}
use Rattle.policy_ast.specs.declared.expr.Unary.{Unary}
use Rattle.policy_ast.specs.declared.item.Item.{Item}
use Rattle.policy_ast.specs.declared.literal.Literal.{Literal}
use Rattle.policy_ast.specs.declared.pattern.Free.{Free}
use Rattle.policy_ast.specs.declared.pattern.Pattern.{Pattern}
use Rattle.policy_meaning.specs.Environments.{Env, Setting, foreign_value, literal_value, name_value, no_setting, with_value}
use Rattle.policy_meaning.specs.Expressions.{Meaning, block_meaning, decided, else_meaning, introduced, meaning, meaning_layer}
use Rattle.policy_meaning.specs.Functions.{called, entered, no_listing}
use Rattle.policy_meaning.specs.Outcomes.{Done, Ends, Out, ◌>>=◌, all_in_order, branch, or_stuck}
use Rattle.policy_meaning.specs.Patterns.{wanted}
use Rattle.policy_meaning.specs.Values.{truth}
use Rattle.policy_rules.proofs.Folds.{fold-expr-Or, fold-expr-And, fold-expr-Compare, fold-expr-Is, fold-expr-Unary, fold-expr-Field, fold-expr-Literal, fold-expr-None, fold-expr-Some, fold-expr-This, fold-expr-Name, fold-expr-ForeignCall, fold-expr-Call, fold-expr-Struct, fold-expr-Arithmetic, fold-expr-Query, fold-expr-Exists, fold-expr-Count, fold-expr-If}
use Rattle.policy_rules.proofs.Maps.{bind_names, bind_values, free_names, map_bind, map_block, map_else, map_free, map_gap, map_let, map_pattern, value_part_map}
use Rattle.policy_rules.specs.Expressions.{value_part}
use Rattle.policy_rules.specs.Names.{Name, item_named}
use Rattle.policy_expressions.specs.Forms.{calculation_of, chosen, compare_of, count_of, exists_of, field_of, presence_of, query_of, some_of, struct_of, truth_of, unary_of}
use Rattle.policy_expressions.specs.Meant.{binds_meant, block_meant, else_meant, lets_meant, meant, stmt_meant, stmts_meant, values_meant, wanted_meant}

-- a branch over the truth of what was found
pub branch_chosen : {A : Type 0} (out : Out Value) (first second : ℕ → Out A) → (out >>= λ v turns. branch (truth v) first second turns) ≡ chosen (truth_of out) first second
branch_chosen (Ends halt) first second = refl
branch_chosen (Done v turns) first second = by (truth v)
  where
    by : (o : Option Bool) → branch o first second turns ≡ chosen (or_stuck o turns) first second
    by None = refl
    by (Some true) = refl
    by (Some false) = refl

module _ {A : Type 0} (f : Expr → A) where
  gap_same : (o : Option Expr) → map_gap f o ≡ option_map f o
  gap_same None = refl
  gap_same (Some e) = refl

  pub frees_same : (frees : List (Free Expr)) → map (λ x. x.value) (map (map_free f) frees) ≡ map (λ x. option_map f x.value) frees
  frees_same [] = refl
  frees_same (x ∷ frees) = rw (gap_same x.value, frees_same frees) refl

module _ (items : List Item) (rows : List Row) (setting : Setting) (depth : ℕ) where
  abbrev says : Expr → Meaning
  says = meaning items rows setting (called items rows depth)

  abbrev layer : Expr-F Meaning → Meaning
  layer = meaning_layer items rows setting (called items rows depth)

  -- ---- parts

  binds_same : (binds : List (Bind Expr)) (env : Env) (n : ℕ) → all_in_order (map (λ b. b.value) (map (map_bind says) binds)) env n ≡ binds_meant items rows setting depth binds env n
  unfolding meant
  binds_same binds env n = ap (λ found. all_in_order found env n) (bind_values says binds)

  lets_same : (lets : List (Let Expr)) (env : Env) (n : ℕ) → introduced (map (map_let says) lets) env n ≡ lets_meant items rows setting depth lets env n
  unfolding meant
  lets_same [] env n = refl
  lets_same (l ∷ lets) env n =
      ap (λ (next : Value → ℕ → Out Env). meant items rows setting depth l.value env n >>= next) (λ i v turns. lets_same lets (with_value env l.name v) turns i)

  block_same : (b : ExprBlock Expr) (env : Env) (n : ℕ) → block_meaning (map_block says b) env n ≡ block_meant items rows setting depth b env n
  unfolding meant
  block_same b env n = ap (λ out. out >>= λ inner turns. meant items rows setting depth b.value inner turns) (lets_same b.lets env n)

  else_same : (x : IfExpr Expr) (e : ElseExpr Expr) (env : Env) (n : ℕ) → else_meaning (map_else says x e) env n ≡ else_meant items rows setting depth e env n
  unfolding meant
  else_same x (else_expr.Block b) env n = block_same b env n
  else_same x (else_expr.If e) env n = refl

  pattern_same : (p : Pattern Expr) (env : Env) (n : ℕ) → wanted items (map_pattern says p) env n ≡ wanted_meant items rows setting depth p env n
  unfolding meant
  pattern_same p env n =
      rw (
        value_part_map says p.values,
        frees_same says p.keys,
        free_names says (value_part p.values),
        frees_same says (value_part p.values),
      ) refl

  -- ---- forms

  module _ (env : Env) (n : ℕ) where
    abbrev ends : Expr → Out Value
    ends e = meant items rows setting depth e env n

    pub or_meant : (a b : Expr) → ends (expr.Or a b) ≡ chosen (truth_of (ends a)) (decided true) (meant items rows setting depth b env)
    unfolding meant
    or_meant a b = ap (λ f. f env n) (fold-expr-Or layer a b) ∙ branch_chosen (says a env n) (decided true) (says b env)

    pub and_meant : (a b : Expr) → ends (expr.And a b) ≡ chosen (truth_of (ends a)) (meant items rows setting depth b env) (decided false)
    unfolding meant
    and_meant a b = ap (λ f. f env n) (fold-expr-And layer a b) ∙ branch_chosen (says a env n) (says b env) (decided false)

    pub compare_meant : (a : Expr) (op : Comparison) (b : Expr) → ends (expr.Compare a op b) ≡ (ends a >>= λ v turns. compare_of op v (meant items rows setting depth b env turns))
    unfolding meant
    compare_meant a op b = ap (λ f. f env n) (fold-expr-Compare layer a op b)

    pub presence_meant : (a : Expr) (op : Presence) → ends (expr.Is a op) ≡ presence_of op (ends a)
    unfolding meant
    presence_meant a op = ap (λ f. f env n) (fold-expr-Is layer a op)

    pub unary_meant : (op : Unary) (a : Expr) → ends (expr.Unary op a) ≡ unary_of op (ends a)
    unfolding meant
    unary_meant op a = ap (λ f. f env n) (fold-expr-Unary layer op a)

    pub field_meant : (a : Expr) (name : Name) → ends (expr.Field a name) ≡ field_of items name (ends a)
    unfolding meant
    field_meant a name = ap (λ f. f env n) (fold-expr-Field layer a name)

    pub literal_meant : (l : Literal) → ends (expr.Literal l) ≡ or_stuck (literal_value items l) n
    unfolding meant
    literal_meant l = ap (λ f. f env n) (fold-expr-Literal layer l)

    pub none_meant : ends expr.None ≡ Done value.Nothing n
    unfolding meant
    none_meant = ap (λ f. f env n) (fold-expr-None layer)

    pub some_meant : (a : Expr) → ends (expr.Some a) ≡ some_of (ends a)
    unfolding meant
    some_meant a = ap (λ f. f env n) (fold-expr-Some layer a)

    pub this_meant : ends expr.This ≡ or_stuck setting.this n
    unfolding meant
    this_meant = ap (λ f. f env n) (fold-expr-This layer)

    pub name_meant : (name : Name) → ends (expr.Name name) ≡ or_stuck (name_value items env name) n
    unfolding meant
    name_meant name = ap (λ f. f env n) (fold-expr-Name layer name)

    pub foreign_call_meant : (of called : Name) (arguments : List Expr) → ends (expr.ForeignCall of called arguments) ≡ or_stuck (foreign_value setting of called) n
    unfolding meant
    foreign_call_meant of called arguments = ap (λ f. f env n) (fold-expr-ForeignCall layer of called arguments)

    pub call_meant : (name : Name) (arguments : List Expr) → ends (expr.Call name arguments)
        ≡ (values_meant items rows setting depth arguments env n >>= λ vs turns. called items rows depth name vs turns)
    unfolding meant
    call_meant name arguments = ap (λ f. f env n) (fold-expr-Call layer name arguments)

    pub struct_meant : (name : Name) (binds : List (Bind Expr)) → ends (expr.Struct name binds)
        ≡ struct_of items name (map (λ b. b.name) binds) (binds_meant items rows setting depth binds env n)
    unfolding meant
    struct_meant name binds =
        ap (λ f. f env n) (fold-expr-Struct layer name binds)
        ∙ ap (λ out. struct_of items name (map (λ b. b.name) (map (map_bind says) binds)) out) (binds_same binds env n)
        ∙ ap (λ names. struct_of items name names (binds_meant items rows setting depth binds env n)) (bind_names says binds)

    pub calculation_meant : (op : Arithmetic) (a b : Expr) → ends (expr.Arithmetic op a b) ≡ (ends a >>= λ v turns. calculation_of op v (meant items rows setting depth b env turns))
    unfolding meant
    calculation_meant op a b = ap (λ f. f env n) (fold-expr-Arithmetic layer op a b)

    pub query_meant : (p : Pattern Expr) → ends (expr.Query p) ≡ query_of rows (wanted_meant items rows setting depth p env n)
    unfolding meant
    query_meant p = ap (λ f. f env n) (fold-expr-Query layer p) ∙ ap (query_of rows) (pattern_same p env n)

    pub exists_meant : (p : Pattern Expr) → ends (expr.Exists p) ≡ exists_of rows (wanted_meant items rows setting depth p env n)
    unfolding meant
    exists_meant p = ap (λ f. f env n) (fold-expr-Exists layer p) ∙ ap (exists_of rows) (pattern_same p env n)

    pub count_meant : (op : Count) (k : ℤ) (p : Pattern Expr) → ends (expr.Count op k p) ≡ count_of rows op k (wanted_meant items rows setting depth p env n)
    unfolding meant
    count_meant op k p = ap (λ f. f env n) (fold-expr-Count layer op k p) ∙ ap (count_of rows op k) (pattern_same p env n)

    pub choice_meant : (x : IfExpr Expr) → ends (expr.If x)
        ≡ chosen (truth_of (ends x.head)) (block_meant items rows setting depth x.then env) (else_meant items rows setting depth x.otherwise env)
    unfolding meant
    choice_meant x =
        ap (λ f. f env n) (fold-expr-If layer x)
        ∙ branch_chosen (says x.head env n) (block_meaning (map_block says x.then) env) (else_meaning (map_else says x x.otherwise) env)
        ∙ ap (λ (first : ℕ → Out Value). chosen (truth_of (says x.head env n)) first (else_meaning (map_else says x x.otherwise) env)) (λ i turns. block_same x.then env turns i)
        ∙ ap (λ (second : ℕ → Out Value). chosen (truth_of (says x.head env n)) (block_meant items rows setting depth x.then env) second) (λ i turns. else_same x x.otherwise env turns i)

-- ---- calls

module _ (items : List Item) (rows : List Row) where
  -- a call of a function in a chain
  pub call_in : (depth : ℕ) (name : Name) (values : List Value) (n : ℕ) → called items rows (suc depth) name values n
      ≡ entered (stmts_meant items rows no_setting depth no_listing) values (item_named items name) n
  unfolding stmt_meant
  call_in depth name values n = refl
