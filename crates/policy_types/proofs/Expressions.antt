-- An expression gives a value of its type, or a check fails, or there is a fault.
use Rattle.std.proofs.Common.{◌≡◌, ℤ, pos, negsuc, ℕ, ◌^◌, Bool, true, false, ◌&&◌, ◌||◌, List, ◌∷◌, codes, map, nat_le, Option, Some, None, option_map, refl, sym, ap, subst, ◌∙◌}
use Rattle.std.proofs.lemmas.Bool.{false≢true, ltb-true}
use Rattle.std.proofs.lemmas.Option.{same_Some}
use Rattle.std.specs.List.{list_all}
use Rattle.std.specs.Option.{is_some}
use Rattle.std.specs.Str.{bytes_eq}
use Rattle.base_bytes.proofs.Bools.{and_then}
use Rattle.base_bytes.specs.Values.{fits_int, has_type}
use Rattle.base_bytes.specs.declared.value.Value.{Value}
use Rattle.base_bytes.specs.declared.value.Value.TheVariants as value
use Rattle.fact_store.specs.Matching.{first_row, row_count}
use Rattle.fact_store.specs.declared.row.Row.{Row}
use Rattle.fact_store.specs.declared.wanted.Wanted.{Wanted}
use Rattle.policy_ast.specs.declared.expr.Count.{Count}
use Rattle.policy_ast.specs.declared.expr.ElseExpr.{ElseExpr}
use Rattle.policy_ast.specs.declared.expr.Expr.{Expr, fold_out-Expr, map-Expr}
use Rattle.policy_ast.specs.declared.expr.Expr.TheOpen.{Expr-F}
use Rattle.policy_ast.specs.declared.expr.ExprBlock.{ExprBlock}
use Rattle.policy_ast.specs.declared.expr.IfExpr.{IfExpr}
use Rattle.policy_ast.specs.declared.expr.Let.{Let}
use Rattle.policy_ast.specs.declared.item.Item.{Item}
use Rattle.policy_ast.specs.declared.pattern.Pattern.{Pattern}
use Rattle.policy_meaning.specs.Environments.{Env, Setting, bound, foreign_value, literal_value, name_value, with_value}
use Rattle.policy_meaning.specs.Expressions.{Calls, Meaning, block_meaning, decided, else_meaning, introduced, meaning, meaning_layer, struct_value}
use Rattle.policy_meaning.specs.Outcomes.{Check, Fault, Stuck, Out, Done, Ends, all_in_order, or_stuck}
use Rattle.policy_meaning.specs.Patterns.{gaps_in_order, row_value, value_names, wanted, wanted_by, wanted_of}
use Rattle.policy_meaning.specs.Values.{comparison_value, arithmetic_value, counted, field_value, limit_of, negated, optional_of, presence_value, truth}
use Rattle.policy_meaning.specs.declared.ends.FaultKind.TheVariants as fault
use Rattle.policy_rules.proofs.Maps.{bind_names, bind_values, free_names, map_block, map_else, map_free, map_let, map_pattern, value_part_map}
use Rattle.policy_rules.specs.Calls.{Callee, a_function, all_hold, block_holds, else_holds, expression_calls, expression_calls_layer, gap_calls, gaps_hold, pattern_holds}
use Rattle.policy_rules.specs.Expressions as rules
use Rattle.policy_rules.specs.Expressions.{HasBlockType, HasElseType, HasType, HasTypeByForm, HaveGapTypes, HaveTypes, Introduce, IsPattern, arithmetic_type, count_type, is_device_call, is_envelope_call, is_positive, value_part}
use Rattle.policy_rules.specs.FieldLists.{are_distinct, are_leading_keys, fit_values, gaps_are_last, in_any_order, pattern_fits}
use Rattle.policy_rules.specs.Heads.{FunctionHead, FactHead, fact_named, function_named, struct_named}
use Rattle.policy_rules.specs.Names.{Name}
use Rattle.policy_rules.specs.Scopes.{Scope, type_in}
use Rattle.policy_rules.specs.Shapes.{shapes_of}
use Rattle.policy_rules.specs.WellTyped.{IsWellTypedAt}
use Rattle.policy_rules.specs.declared.context.Block.TheVariants as block
use Rattle.policy_rules.specs.declared.context.Context.{Context}
use Rattle.policy_rules.specs.declared.types.Named.{Named}
use Rattle.policy_rules.specs.declared.types.NamedType.{NamedType}
use Rattle.policy_rules.specs.declared.types.NamedType.TheVariants as ty
use Rattle.policy_types.proofs.Fields.{arguments_are, fits_with, in_any_order_given, same_name}
use Rattle.policy_types.proofs.Fitting.{joined_first, joined_second}
use Rattle.policy_types.proofs.Giving.{branch_gives, gives_then, there_gives}
use Rattle.policy_types.proofs.Layers.{id_made, truth_of}
use Rattle.policy_types.proofs.Layouts.{binds_calls, gaps_calls, gaps_of, hold_all}
use Rattle.policy_types.proofs.Rows.{AreRows, GapsAre, first_is, pattern_asks}
use Rattle.policy_types.proofs.Standing.{FactStands, StructStands, fact_standing, field_of_struct, id_type, struct_distinct, struct_standing, struct_value_made}
use Rattle.policy_types.proofs.Values.{Has, as_bool, calculation, counted_is, equality, has_gives, is_bool, is_nothing, is_something, literal_has, name_has, negation, order, presence, unwrapping}
use Rattle.policy_types.specs.Asked.{AsksFor}
use Rattle.policy_types.specs.Endings.{Gives}
use Rattle.policy_types.specs.Fitting.{AreOf, Fits, IsId, IsOf, Suits, types_of}

-- Each call that may be made, with arguments of the parameters' types, gives a value of the function's type.
abbrev pub Keeps : List Item → (Callee → Name → Bool) → Calls → Type 0
Keeps items may call = (name : Name) (function : FunctionHead) (values : List Value) (turns : ℕ) → may a_function name ≡ true → function_named items name ≡ Some function
    → AreOf items (types_of function.parameters) values → Gives (IsOf items function.result) (call name values turns)

module _ (items : List Item) where
  abbrev is_id : (id : List ℕ) → IsId id → IsOf items ty.Ident (value.Ident id)
  is_id id is = subst (λ t. has_type (shapes_of items) (value.Ident id) t ≡ true) (sym (id_type items)) (id_made (shapes_of items) id is)

  -- ---- calls of `envelope` and of `device`

  author_by : (setting : Setting) (of called : Name) (id other : List ℕ) → setting.author ≡ Some id → IsId id → setting.command_id ≡ Some other → IsId other
      → (a b c : Bool) → bytes_eq of (codes "envelope") ≡ a → bytes_eq called (codes "author_id") ≡ b → bytes_eq called (codes "command_id") ≡ c → (a && (b || c)) ≡ true
      → Has items ty.Ident (foreign_value setting of called)
  author_by setting of called id other author is command_id is_too true true c at_a at_b at_c may = (value.Ident id, rw (at_a, at_b, author) refl, is_id id is)
  author_by setting of called id other author is command_id is_too true false true at_a at_b at_c may = (value.Ident other, rw (at_a, at_b, at_c, command_id) refl, is_id other is_too)
  author_by setting of called id other author is command_id is_too true false false at_a at_b at_c may = absurd (false≢true may)
  author_by setting of called id other author is command_id is_too false b c at_a at_b at_c may = absurd (false≢true may)

  pub envelope_has : (context : Context) (setting : Setting) → Suits items context setting → context.block ≡ block.Command → (of called : Name) → is_envelope_call of called ≡ true
      → Has items ty.Ident (foreign_value setting of called)
  envelope_has context setting suits at of called is =
      let author = suits.author at in
      let command_id = suits.command_id at in
      author_by setting of called author.0 command_id.0 author.1 author.2 command_id.1 command_id.2 (bytes_eq of (codes "envelope")) (bytes_eq called (codes "author_id")) (bytes_eq called (codes "command_id")) refl refl refl is

  other_module : bytes_eq (codes "device") (codes "envelope") ≡ false
  other_module = refl

  device_by : (setting : Setting) (of called : Name) (id : List ℕ) → setting.device ≡ Some id → IsId id → bytes_eq of (codes "envelope") ≡ false
      → (bytes_eq of (codes "device") && bytes_eq called (codes "current_device_id")) ≡ true → Has items ty.Ident (foreign_value setting of called)
  device_by setting of called id device is other may = (value.Ident id, rw (other, may, device) refl, is_id id is)

  pub device_has : (context : Context) (setting : Setting) → Suits items context setting → context.block ≡ block.Action → (of called : Name) → is_device_call of called ≡ true
      → Has items ty.Ident (foreign_value setting of called)
  device_has context setting suits at of called is =
      let device = suits.device at in
      and_then (bytes_eq of (codes "device")) (bytes_eq called (codes "current_device_id")) is (λ one more.
      device_by setting of called device.0 device.1 device.2 (ap (λ n. bytes_eq n (codes "envelope")) (same_name of (codes "device") one) ∙ other_module) is)

  -- ---- forms whose parts have values

  pub field_gives : (name : Name) (fields : List Named) (f : Name) (t : NamedType) → struct_named items name ≡ Some fields → type_in fields f ≡ Some t → (v : Value) → IsOf items (ty.Struct name) v → (turns : ℕ)
      → Gives (IsOf items t) (or_stuck (field_value items f v) turns)
  field_gives name fields f t is has v typed turns = there_gives (IsOf items t) (field_value items f v) (field_of_struct items name fields is v typed f t has) turns

  limit_by : (op : Count) (n : ℤ) (rows : ℕ) → is_positive n ≡ true → (turns : ℕ) → Gives (IsOf items (count_type op)) (or_stuck (option_map (λ limit. counted op limit rows) (limit_of n)) turns)
  limit_by op (pos n) rows positive turns = and_then (nat_le 1 n) (fits_int (pos n)) positive (λ one fit. counted_is items op n rows (ltb-true n (2 ^ 63) fit))
  limit_by op (negsuc n) rows positive turns = absurd (false≢true positive)

  module _ (well : (n : ℕ) → IsWellTypedAt items n) where
    struct_given : (name : Name) (fields : List Named) → struct_named items name ≡ Some fields → (names : List Name) (types : List NamedType) → in_any_order fields names types ≡ true
        → (values : List Value) → AreOf items types values → Has items (ty.Struct name) (struct_value items name (bound names values))
    struct_given name fields is names types fit values are =
        let s : StructStands items name fields = struct_standing items name fields is in
        let given = in_any_order_given items fields (struct_distinct items well name fields is) names types values fit are in
        (value.Struct s.number given.0, rw (s.numbered, is, given.1) refl, struct_value_made items name fields s given.0 given.2)

    module _ (rows : List Row) (typed : AreRows items rows) (context : Context) (setting : Setting) (suits : Suits items context setting) (may : Callee → Name → Bool) (call : Calls)
        (keeps : Keeps items may call) where
      abbrev m : Expr → Meaning
      m = meaning items rows setting call

      abbrev calls : Expr → Bool
      calls = expression_calls may

      abbrev of : NamedType → Value → Type 0
      of t = IsOf items t

      query_is : (name : Name) (fact : FactHead) → fact_named items name ≡ Some fact → (w : Wanted) → AsksFor items name w → of (ty.Optional (ty.Struct name)) (optional_of (option_map row_value (first_row w rows)))
      query_is name fact is w asks =
          let s : FactStands items name fact = fact_standing items name fact is in
          first_is items name fact s w (same_Some w.fact s.number (sym asks.numbered ∙ s.numbered)) rows typed

      weakened : (t w : NamedType) (out : Out Value) → ((v : Value) → of t v → of w v) → Gives (of t) out → Gives (of w) out
      weakened t w (Done v turns) wider is = wider v is
      weakened t w (Ends (Check recall)) wider is = is
      weakened t w (Ends (Fault kind)) wider is = is
      weakened t w (Ends Stuck) wider is = absurd is

      pattern_gives : (name : Name) (fact : FactHead) → fact_named items name ≡ Some fact → (key_names : List Name) (keys : List (Option NamedType)) (found : List (Option Value)) → GapsAre items keys found
          → (value_names : List Name) (values : List (Option NamedType)) → pattern_fits fact key_names keys value_names values ≡ true → (named : List (Option Value)) (turns : ℕ)
          → Gives (AsksFor items name) (or_stuck (wanted_of items name found value_names named) turns)
      pattern_gives name fact is key_names keys found are value_names values fit named turns =
          and_then ((are_leading_keys fact.keys key_names keys && gaps_are_last keys) && are_distinct value_names) (fit_values fact.values value_names values) fit (λ front rest.
          and_then (are_leading_keys fact.keys key_names keys && gaps_are_last keys) (are_distinct value_names) front (λ before once.
          and_then (are_leading_keys fact.keys key_names keys) (gaps_are_last keys) before (λ leads last.
          let asked = pattern_asks items well name fact is key_names keys leads found are value_names named in
          there_gives (AsksFor items name) (wanted_of items name found value_names named) (asked.wanted, asked.is, asked.asks) turns)))

      pattern_fact : {scope : Scope} {p : Pattern Expr} → IsPattern items context scope p → (fact : FactHead) × (fact_named items p.fact ≡ Some fact)
      pattern_fact (rules.pattern_of fact keys values is ks vs fit) = (fact, is)

      -- a pattern by the lists of its expressions
      abbrev pub wanted_of_pattern : Pattern Expr → Env → ℕ → Out Wanted
      wanted_of_pattern p env turns =
          wanted_by items p.fact (map (option_map m) (map (λ f. f.value) p.keys)) (value_names p) (map (option_map m) (map (λ f. f.value) (value_part p.values))) env turns

      pattern_calls_then : {P : Type 0} (p : Pattern Expr) → pattern_holds (map_pattern calls p) ≡ true
          → (list_all (gap_calls may) (map (λ f. f.value) p.keys) ≡ true → list_all (gap_calls may) (map (λ f. f.value) (value_part p.values)) ≡ true → P) → P
      pattern_calls_then p may_call go = and_then (gaps_hold (map (map_free calls) p.keys)) (gaps_hold (value_part (map_pattern calls p).values)) may_call (λ ks vs.
          go (sym (gaps_calls may p.keys) ∙ ks) (sym (ap gaps_hold (value_part_map calls p.values) ∙ gaps_calls may (value_part p.values)) ∙ vs))

      pattern_via : (p : Pattern Expr) → pattern_holds (map_pattern calls p) ≡ true → (env : Env) (turns : ℕ)
          → (list_all (gap_calls may) (map (λ f. f.value) p.keys) ≡ true → list_all (gap_calls may) (map (λ f. f.value) (value_part p.values)) ≡ true
          → Gives (AsksFor items p.fact) (wanted_of_pattern p env turns)) → Gives (AsksFor items p.fact) (wanted items (map_pattern m p) env turns)
      pattern_via p may_call env turns go = rw (value_part_map m p.values, free_names m (value_part p.values), gaps_of m p.keys, gaps_of m (value_part p.values)) (pattern_calls_then p may_call go)

      mutual
        pub gives : {scope : Scope} {e : Expr} {t : NamedType} → HasType items context scope e t → calls e ≡ true → (env : Env) → Fits items scope env → (turns : ℕ) → Gives (of t) (m e env turns)
        gives {scope} {e} {t} (rules.rule r) may_call env fit turns =
            subst (Gives (of t)) (sym (ap (λ f. f env turns) (fold_out-Expr Meaning (meaning_layer items rows setting call) e)))
            (gives_layer r (sym (fold_out-Expr Bool (expression_calls_layer may) e) ∙ may_call) env fit turns)

        gives_layer : {scope : Scope} {layer : Expr-F Expr} {t : NamedType} → HasTypeByForm items context scope layer t → expression_calls_layer may (map-Expr Expr Bool calls layer) ≡ true
            → (env : Env) → Fits items scope env → (turns : ℕ) → Gives (of t) (meaning_layer items rows setting call (map-Expr Expr Meaning m layer) env turns)
        gives_layer (rules.or {a = a} {b = b} p q) may_call env fit turns = and_then (calls a) (calls b) may_call (λ ca cb.
            gives_then (of ty.Bool) (of ty.Bool) (m a env turns) _ (gives p ca env fit turns) (λ v n is.
            branch_gives (of ty.Bool) (truth v) (truth_of (shapes_of items) v (as_bool items v is)) (decided true) (m b env) n (is_bool items true) (gives q cb env fit n)))
        gives_layer (rules.and {a = a} {b = b} p q) may_call env fit turns = and_then (calls a) (calls b) may_call (λ ca cb.
            gives_then (of ty.Bool) (of ty.Bool) (m a env turns) _ (gives p ca env fit turns) (λ v n is.
            branch_gives (of ty.Bool) (truth v) (truth_of (shapes_of items) v (as_bool items v is)) (m b env) (decided false) n (gives q cb env fit n) (is_bool items false)))
        gives_layer (rules.equality {a = a} {b = b} {op = op} t u w is p q join) may_call env fit turns = and_then (calls a) (calls b) may_call (λ ca cb.
            gives_then (of t) (of ty.Bool) (m a env turns) _ (gives p ca env fit turns) (λ v n is_v.
            gives_then (of u) (of ty.Bool) (m b env n) _ (gives q cb env fit n) (λ w n is_w. has_gives items ty.Bool (comparison_value op v w) (equality items op v w is) n)))
        gives_layer (rules.order {a = a} {b = b} {op = op} is p q) may_call env fit turns = and_then (calls a) (calls b) may_call (λ ca cb.
            gives_then (of ty.Int) (of ty.Bool) (m a env turns) _ (gives p ca env fit turns) (λ v n is_v.
            gives_then (of ty.Int) (of ty.Bool) (m b env n) _ (gives q cb env fit n) (λ w n is_w. has_gives items ty.Bool (comparison_value op v w) (order items op v w is is_v is_w) n)))
        gives_layer (rules.presence {a = a} {op = op} t p) may_call env fit turns =
            gives_then (of (ty.Optional t)) (of ty.Bool) (m a env turns) _ (gives p may_call env fit turns) (λ v n is. has_gives items ty.Bool (presence_value op v) (presence items op t v is) n)
        gives_layer (rules.not {a = a} p) may_call env fit turns =
            gives_then (of ty.Bool) (of ty.Bool) (m a env turns) _ (gives p may_call env fit turns) (λ v n is. has_gives items ty.Bool (negated v) (negation items v is) n)
        gives_layer (rules.unwrap {a = a} {t = t} p) may_call env fit turns =
            gives_then (of (ty.Optional t)) (of t) (m a env turns) _ (gives p may_call env fit turns) (λ v n is. unwrapping items t v is (Fault fault.Unwrap) tt n)
        gives_layer (rules.check_unwrap {a = a} {t = t} p) may_call env fit turns =
            gives_then (of (ty.Optional t)) (of t) (m a env turns) _ (gives p may_call env fit turns) (λ v n is. unwrapping items t v is (Check None) refl n)
        gives_layer (rules.field {a = a} {name = name} {t = t} struct_name fields p is has) may_call env fit turns =
            gives_then (of (ty.Struct struct_name)) (of t) (m a env turns) _ (gives p may_call env fit turns) (λ v n is_v. field_gives struct_name fields name t is has v is_v n)
        gives_layer (rules.literal {l = l} {t = t} is) may_call env fit turns = has_gives items t (literal_value items l) (literal_has items well l t is) turns
        gives_layer rules.none may_call env fit turns = is_nothing items ty.Never
        gives_layer (rules.some {a = a} {t = t} p) may_call env fit turns =
            gives_then (of t) (of (ty.Optional t)) (m a env turns) _ (gives p may_call env fit turns) (λ v n is. is_something items t v is)
        gives_layer (rules.this {command = command} is) may_call env fit turns = has_gives items (ty.Struct command) setting.this (suits.this command is) turns
        gives_layer (rules.name {scope = scope} {x = x} {t = t} is) may_call env fit turns = has_gives items t (name_value items env x) (name_has items well context scope env fit x t is) turns
        gives_layer (rules.envelope_call {of = of'} {called = called} is at one) may_call env fit turns =
            has_gives items ty.Ident (foreign_value setting of' called) (envelope_has context setting suits at of' called is) turns
        gives_layer (rules.device_call {of = of'} {called = called} is at) may_call env fit turns =
            has_gives items ty.Ident (foreign_value setting of' called) (device_has context setting suits at of' called is) turns
        gives_layer (rules.call {called = called} {arguments = arguments} types function is all fit_all) may_call env fit turns =
            and_then (may a_function called) (all_hold (map calls arguments)) may_call (λ this_one others.
            gives_then (AreOf items types) (of function.result) (all_in_order (map m arguments) env turns) _ (gives_all all (sym (hold_all calls arguments) ∙ others) env fit turns) (λ vs n are.
            keeps called function vs n this_one is (arguments_are items types function.parameters vs fit_all are)))
        gives_layer (rules.fields {struct_name = struct_name} {binds = binds} types fields is all fit_all) may_call env fit turns =
            rw (bind_names m binds, bind_values m binds)
            (gives_then (AreOf items types) (of (ty.Struct struct_name)) (all_in_order (map m (map (λ b. b.value) binds)) env turns) _ (gives_all all (sym (binds_calls may binds) ∙ may_call) env fit turns) (λ vs n are.
            has_gives items (ty.Struct struct_name) (struct_value items struct_name (bound (map (λ b. b.name) binds) vs)) (struct_given struct_name fields is (map (λ b. b.name) binds) types fit_all vs are) n))
        gives_layer (rules.calculation {a = a} {b = b} {op = op} p q) may_call env fit turns = and_then (calls a) (calls b) may_call (λ ca cb.
            gives_then (of ty.Int) (of (arithmetic_type op)) (m a env turns) _ (gives p ca env fit turns) (λ v n is_v.
            gives_then (of ty.Int) (of (arithmetic_type op)) (m b env n) _ (gives q cb env fit n) (λ w n is_w. has_gives items (arithmetic_type op) (arithmetic_value op v w) (calculation items op v w is_v is_w) n)))
        gives_layer (rules.query {p = p} is) may_call env fit turns =
            gives_then (AsksFor items p.fact) (of (ty.Optional (ty.Struct p.fact))) (wanted items (map_pattern m p) env turns) _
            (pattern_via p may_call env turns (λ ks vs. gives_wanted is ks vs env fit turns)) (λ w n asks. query_is p.fact (pattern_fact is).0 (pattern_fact is).1 w asks)
        gives_layer (rules.exists {p = p} is) may_call env fit turns =
            gives_then (AsksFor items p.fact) (of ty.Bool) (wanted items (map_pattern m p) env turns) _ (pattern_via p may_call env turns (λ ks vs. gives_wanted is ks vs env fit turns)) (λ w n asks. is_bool items (is_some (first_row w rows)))
        gives_layer (rules.counted {op = op} {n = limit} {p = p} more is) may_call env fit turns =
            gives_then (AsksFor items p.fact) (of (count_type op)) (wanted items (map_pattern m p) env turns) _ (pattern_via p may_call env turns (λ ks vs. gives_wanted is ks vs env fit turns))
            (λ w n asks. limit_by op limit (row_count w rows) more n)
        gives_layer (rules.choice {x = x} {w = w} t u head then otherwise join) may_call env fit turns =
            and_then (calls x.head && block_holds (map_block calls x.then)) (else_holds (map_else calls x x.otherwise)) may_call (λ both last. and_then (calls x.head) (block_holds (map_block calls x.then)) both (λ first body.
            gives_then (of ty.Bool) (of w) (m x.head env turns) _ (gives head first env fit turns) (λ v n is.
            branch_gives (of w) (truth v) (truth_of (shapes_of items) v (as_bool items v is)) (block_meaning (map_block m x.then) env) (else_meaning (map_else m x x.otherwise) env) n
            (weakened t w (block_meaning (map_block m x.then) env n) (joined_first items t u w join) (gives_block then body env fit n))
            (weakened u w (else_meaning (map_else m x x.otherwise) env n) (joined_second items t u w join) (gives_else otherwise x last env fit n)))))

        pub gives_all : {scope : Scope} {es : List Expr} {types : List NamedType} → HaveTypes items context scope es types → list_all calls es ≡ true → (env : Env) → Fits items scope env → (turns : ℕ)
            → Gives (AreOf items types) (all_in_order (map m es) env turns)
        gives_all rules.no_types may_call env fit turns = tt
        gives_all (rules.more_types {e = e} {t = t} {more = more} {types = types} p rest) may_call env fit turns = and_then (calls e) (list_all calls more) may_call (λ one others.
            gives_then (of t) (AreOf items (t ∷ types)) (m e env turns) _ (gives p one env fit turns) (λ v n is.
            gives_then (AreOf items types) (AreOf items (t ∷ types)) (all_in_order (map m more) env n) _ (gives_all rest others env fit n) (λ vs n are. (is, are))))

        gives_gaps : {scope : Scope} {es : List (Option Expr)} {types : List (Option NamedType)} → HaveGapTypes items context scope es types → list_all (gap_calls may) es ≡ true
            → (env : Env) → Fits items scope env → (turns : ℕ) → Gives (GapsAre items types) (gaps_in_order (map (option_map m) es) env turns)
        gives_gaps rules.no_gaps may_call env fit turns = tt
        gives_gaps (rules.gap {more = more} {types = types} rest) may_call env fit turns =
            gives_then (GapsAre items types) (GapsAre items (None ∷ types)) (gaps_in_order (map (option_map m) more) env turns) _ (gives_gaps rest may_call env fit turns) (λ vs n are. are)
        gives_gaps (rules.no_gap {e = e} {t = t} {more = more} {types = types} p rest) may_call env fit turns = and_then (calls e) (list_all (gap_calls may) more) may_call (λ one others.
            gives_then (of t) (GapsAre items (Some t ∷ types)) (m e env turns) _ (gives p one env fit turns) (λ v n is.
            gives_then (GapsAre items types) (GapsAre items (Some t ∷ types)) (gaps_in_order (map (option_map m) more) env n) _ (gives_gaps rest others env fit n) (λ vs n are. (is, are))))

        pub gives_wanted : {scope : Scope} {p : Pattern Expr} → IsPattern items context scope p → list_all (gap_calls may) (map (λ f. f.value) p.keys) ≡ true
            → list_all (gap_calls may) (map (λ f. f.value) (value_part p.values)) ≡ true → (env : Env) → Fits items scope env → (turns : ℕ)
            → Gives (AsksFor items p.fact) (wanted_of_pattern p env turns)
        gives_wanted (rules.pattern_of {p = p} fact keys values is ks vs fit_all) key_calls value_calls env fit turns =
            gives_then (GapsAre items keys) (AsksFor items p.fact) (gaps_in_order (map (option_map m) (map (λ f. f.value) p.keys)) env turns) _ (gives_gaps ks key_calls env fit turns) (λ found n are.
            gives_then (GapsAre items values) (AsksFor items p.fact) (gaps_in_order (map (option_map m) (map (λ f. f.value) (value_part p.values))) env n) _ (gives_gaps vs value_calls env fit n) (λ named n are_too.
            pattern_gives p.fact fact is (map (λ f. f.name) p.keys) keys found are (value_names p) values fit_all named n))

        gives_lets : {scope after : Scope} {lets : List (Let Expr)} → Introduce items context scope lets after → list_all (λ l. l.value) (map (map_let calls) lets) ≡ true → (env : Env) → Fits items scope env
            → (turns : ℕ) → Gives (Fits items after) (introduced (map (map_let m) lets) env turns)
        gives_lets rules.no_lets may_call env fit turns = fit
        gives_lets (rules.more_lets {scope = scope} {after = after} {l = l} {more = more} t p new rest) may_call env fit turns = and_then (calls l.value) (list_all (λ l. l.value) (map (map_let calls) more)) may_call (λ one others.
            gives_then (of t) (Fits items after) (m l.value env turns) _ (gives p one env fit turns) (λ v n is. gives_lets rest others (with_value env l.name v) (fits_with items scope env fit l.name t v is) n))

        gives_block : {scope : Scope} {b : ExprBlock Expr} {t : NamedType} → HasBlockType items context scope b t → block_holds (map_block calls b) ≡ true → (env : Env) → Fits items scope env → (turns : ℕ)
            → Gives (of t) (block_meaning (map_block m b) env turns)
        gives_block (rules.block_of {b = b} {t = t} inner lets p) may_call env fit turns = and_then (list_all (λ l. l.value) (map (map_let calls) b.lets)) (calls b.value) may_call (λ before last.
            gives_then (Fits items inner) (of t) (introduced (map (map_let m) b.lets) env turns) _ (gives_lets lets before env fit turns) (λ names n fit_too. gives p last names fit_too n))

        gives_else : {scope : Scope} {e : ElseExpr Expr} {t : NamedType} → HasElseType items context scope e t → (x : IfExpr Expr) → else_holds (map_else calls x e) ≡ true → (env : Env) → Fits items scope env
            → (turns : ℕ) → Gives (of t) (else_meaning (map_else m x e) env turns)
        gives_else (rules.else_block b) x may_call env fit turns = gives_block b may_call env fit turns
        gives_else (rules.else_if p) x may_call env fit turns = gives p may_call env fit turns
