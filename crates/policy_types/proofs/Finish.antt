-- What `finish` lists is typed, finish functions with it.
use Rattle.std.proofs.Common.{◌≡◌, ℕ, zero, suc, Bool, true, false, ◌&&◌, List, [], ◌∷◌, ◌++◌, if◌then◌else◌, map, slice_get, Option, Some, None, option_map, option_and_then, unwrap_or, refl, sym, ap, subst, ◌∙◌}
use Rattle.std.proofs.lemmas.Bool.{false≢true}
use Rattle.std.proofs.lemmas.Option.{same_Some}
use Rattle.std.specs.List.{list_all}
use Rattle.std.specs.Option.{is_some}
use Rattle.base_bytes.proofs.Bools.{and_then}
use Rattle.base_bytes.proofs.Formats.{bind_then}
use Rattle.base_bytes.specs.declared.value.Value.{Value}
use Rattle.fact_store.specs.Rows.{are_keys}
use Rattle.fact_store.specs.declared.row.Row.{Row}
use Rattle.fact_store.specs.declared.wanted.Wanted.{Wanted}
use Rattle.policy_ast.specs.declared.bind.Bind.{Bind}
use Rattle.policy_ast.specs.declared.expr.Expr.{Expr}
use Rattle.policy_ast.specs.declared.field.Field.{Field}
use Rattle.policy_ast.specs.declared.finish.FinishStmt.{FinishStmt}
use Rattle.policy_ast.specs.declared.item.Item.{Item}
use Rattle.policy_ast.specs.declared.item.Item.TheVariants as item
use Rattle.policy_ast.specs.declared.pattern.Pattern.{Pattern}
use Rattle.policy_meaning.specs.Environments.{Env, Setting, bound, bound_parameters, no_setting}
use Rattle.policy_meaning.specs.Expressions.{Calls, Meaning, meaning}
use Rattle.policy_meaning.specs.Finish.{Change, Create, Update, Delete, Emit, FinishCalls, all_listed, bind_names, bind_values, create_of, delete_of, emit_of, fact_values, finish_called, finish_entered, listed, listing, update_of}
use Rattle.policy_meaning.specs.Functions.{called}
use Rattle.policy_meaning.specs.Outcomes.{Out, ◌>>=◌, all_in_order}
use Rattle.policy_meaning.specs.Patterns.{wanted_in}
use Rattle.policy_meaning.specs.Typed.{are_fields_of, is_effect_of}
use Rattle.policy_rules.specs.Calls.{Callee, a_finish_function, binds_call, called_calls, chain_within, expression_calls, finish_calls, gaps_call, is_no_call, longest_chain, may_chain}
use Rattle.policy_rules.specs.Expressions.{HaveTypes, IsPattern, value_part}
use Rattle.policy_rules.specs.Finish as rules
use Rattle.policy_rules.specs.Finish.{AreFinishStmts, BindKeys, BindValues, IsFinishStmt, are_plain}
use Rattle.policy_rules.specs.Heads.{FactHead, fact_named, finish_function_named, finish_parameters, is_effect, names_item, struct_named, written_fields}
use Rattle.policy_rules.specs.Items as item_rules
use Rattle.policy_rules.specs.Items.{IsOfKind, in_finish_function}
use Rattle.policy_rules.specs.Names.{Name, item_named}
use Rattle.policy_rules.specs.Scopes.{Scope}
use Rattle.policy_rules.specs.Types.{declared}
use Rattle.policy_rules.specs.WellTyped.{IsWellTypedAt}
use Rattle.policy_rules.specs.declared.context.Context.{Context}
use Rattle.policy_rules.specs.declared.types.Named.{Named}
use Rattle.policy_rules.specs.declared.types.NamedType.{NamedType}
use Rattle.policy_rules.specs.declared.types.NamedType.TheVariants as ty
use Rattle.policy_types.proofs.Expressions.{Keeps, gives, gives_all, gives_wanted}
use Rattle.policy_types.proofs.Fields.{arguments_are, in_any_order_given, keys_are, parameters_fit}
use Rattle.policy_types.proofs.Functions.{keeps_called, nothing_asked}
use Rattle.policy_types.proofs.Giving.{gives_then, there_gives, turn_gives}
use Rattle.policy_types.proofs.Layouts.{bound_calls, gaps_bound, gaps_in}
use Rattle.policy_types.proofs.Rows.{AreRows, are_fields_from, are_key_values, keyed, row_typed}
use Rattle.policy_types.proofs.Standing.{FactStands, HasFields, StructStands, fact_fields_of, fact_standing, fact_values_distinct, kind_at, standing, struct_standing, struct_value_is}
use Rattle.policy_types.specs.Asked.{AsksFor}
use Rattle.policy_types.specs.Endings.{Gives}
use Rattle.policy_types.specs.Fitting.{AreOf, Fits, IsOf, Suits, types_of}
use Rattle.policy_types.specs.Listed.{AreTypedChanges, IsTypedChange, are_values_of}

-- Each call of a finish function that may be made lists typed changes.
abbrev pub ListsCalled : List Item → (Callee → Name → Bool) → FinishCalls → Type 0
ListsCalled items may call = (name : Name) (parameters : List Named) (values : List Value) (turns : ℕ) → may a_finish_function name ≡ true → finish_function_named items name ≡ Some parameters
    → AreOf items (types_of parameters) values → Gives (AreTypedChanges items) (call name values turns)

module _ (items : List Item) where
  pub changes_both : (first rest : List Change) → AreTypedChanges items first → AreTypedChanges items rest → AreTypedChanges items (first ++ rest)
  changes_both [] rest are are_too = are_too
  changes_both (c ∷ first) rest are are_too = (are.0, changes_both first rest are.1 are_too)

  -- ---- what an item that passes a test is

  module _ (test : Item → Bool) (name : Name) where
    test_by : (o : Option Item) → is_some (option_and_then (λ i. if test i then Some i else None) o) ≡ true → (i : Item) × (o ≡ Some i) × (test i ≡ true)
    test_by None is = absurd (false≢true is)
    test_by (Some i) is = (i, refl, by (test i) is)
      where
        by : (b : Bool) → is_some (if b then Some i else None) ≡ true → b ≡ true
        by true is = refl
        by false is = absurd (false≢true is)

    pub item_passes : names_item test items name ≡ true → (i : Item) × (item_named items name ≡ Some i) × (test i ≡ true)
    item_passes is = test_by (item_named items name) is

  -- ---- effects

  effect_fields_by : (i : Item) → is_effect i ≡ true → is_some (written_fields i) ≡ true
  effect_fields_by (item.Effect name fields) is = refl
  effect_fields_by i is = absurd (false≢true is)

  effect_by : (i : Item) (written : List Field) → is_effect i ≡ true → written_fields i ≡ Some written → (values : List Value) → are_fields_of items values written ≡ true → is_effect_of items values i ≡ true
  effect_by (item.Effect name fields) written is writes values are = subst (λ w. are_fields_of items values w ≡ true) (sym (same_Some (map (λ f. f.field) fields) written writes)) are
  effect_by i written is writes values are = absurd (false≢true is)

  some_there : {A : Type 0} (o : Option A) → is_some o ≡ true → (x : A) × (o ≡ Some x)
  some_there None is = absurd (false≢true is)
  some_there (Some x) is = (x, refl)

  pub effect_has : (name : Name) → names_item is_effect items name ≡ true → (v : Value) → IsOf items (ty.Struct name) v → (c : Change) × (emit_of v ≡ Some c) × IsTypedChange items c
  effect_has name names v is =
      let i = item_passes is_effect name names in
      let w = some_there (written_fields i.0) (effect_fields_by i.0 i.2) in
      let named : struct_named items name ≡ Some (declared w.0) = ap (option_and_then (λ i. option_map declared (written_fields i))) i.1 ∙ ap (option_map declared) w.1 in
      let s : StructStands items name (declared w.0) = struct_standing items name (declared w.0) named in
      let parts : HasFields items name (declared w.0) s.number v = struct_value_is items name (declared w.0) s v is in
      let same : s.item ≡ i.0 = same_Some s.item i.0 (sym s.named ∙ i.1) in (
        Emit (record { effect = s.number; fields = parts.values }),
        ap (option_map (λ parts. Emit (record { effect = parts.0; fields = parts.1 }))) parts.parts,
        ap (λ o. unwrap_or (option_map (is_effect_of items parts.values) o) false) (s.stands ∙ ap Some same) ∙ effect_by i.0 w.0 i.2 w.1 parts.values (are_fields_from items w.0 parts.values parts.are),
      )

module _ (items : List Item) (well : (n : ℕ) → IsWellTypedAt items n) where
  -- ---- writes, by the values of their expressions

  keys_of_fact : (name : Name) (fact : FactHead) (s : FactStands items name fact) (values : List Value) → AreOf items (types_of fact.keys) values → are_keys values ≡ true
  keys_of_fact name fact s values are =
      are_key_values items s.keys (fact_fields_of items well name fact s).are_keys values (subst (λ fields. AreOf items (types_of fields) values) (sym s.declares_keys) are)

  -- a change that is there, and typed
  abbrev HasChange : Option Change → Type 0
  HasChange found = (c : Change) × (found ≡ Some c) × IsTypedChange items c

  change_gives : (found : Option Change) → HasChange found → (turns : ℕ) → Gives (AreTypedChanges items) (listed found turns)
  change_gives found has turns =
      there_gives (AreTypedChanges items) (option_map (λ c. c ∷ []) found) (has.0 ∷ [], ap (option_map (λ (c : Change). c ∷ [])) has.1, (has.2, tt)) turns

  create_has : (name : Name) (fact : FactHead) → fact_named items name ≡ Some fact → (keys : List Value) → AreOf items (types_of fact.keys) keys → (given : Env) (ordered : List Value)
      → fact_values fact given ≡ Some ordered → AreOf items (types_of fact.values) ordered → HasChange (create_of items name keys given)
  create_has name fact is keys are given ordered in_their_order are_too =
      let s : FactStands items name fact = fact_standing items name fact is in
      let row : Row = record { fact = s.number; keys = keys; values = ordered } in
      let simple : are_keys keys ≡ true = keys_of_fact name fact s keys are in
      (Create row, rw (s.numbered, is, in_their_order) (keyed keys (Create row) simple), (row_typed items name fact s row (record { of = refl; keys = are; values = are_too }), simple))

  update_has : (name : Name) (fact : FactHead) → fact_named items name ≡ Some fact → (old : Wanted) → AsksFor items name old → (given : Env) (ordered : List Value)
      → fact_values fact given ≡ Some ordered → AreOf items (types_of fact.values) ordered → HasChange (update_of items name old given)
  update_has name fact is old asks given ordered in_their_order are =
      let s : FactStands items name fact = fact_standing items name fact is in
      let same : old.fact ≡ s.number = same_Some old.fact s.number (sym asks.numbered ∙ s.numbered) in (
        Update old ordered,
        rw (is, in_their_order) refl,
        (
          ap (λ o. unwrap_or (option_map (are_values_of items ordered) o) false) (ap (slice_get items) same ∙ s.stands)
              ∙ are_fields_from items s.values ordered (subst (λ fields. AreOf items (types_of fields) ordered) (sym s.declares_values) are),
          asks.keys,
        ),
      )

  delete_has : (name : Name) (fact : FactHead) → fact_named items name ≡ Some fact → (keys : List Value) → AreOf items (types_of fact.keys) keys → HasChange (delete_of items name keys)
  delete_has name fact is keys are =
      let s : FactStands items name fact = fact_standing items name fact is in
      let simple : are_keys keys ≡ true = keys_of_fact name fact s keys are in
      (Delete s.number keys, rw s.numbered (keyed keys (Delete s.number keys) simple), simple)

  module _ (rows : List Row) (typed : AreRows items rows) (context : Context) (setting : Setting) (suits : Suits items context setting) (may : Callee → Name → Bool) (call : Calls)
      (keeps : Keeps items may call) (may_finish : Callee → Name → Bool) (finish_call : FinishCalls) (keeps_finish : ListsCalled items may_finish finish_call) where
    abbrev says : Expr → Meaning
    says = meaning items rows setting call

    all_give : {scope : Scope} {es : List Expr} {types : List NamedType} → HaveTypes items context scope es types → list_all (expression_calls may) es ≡ true → (env : Env) → Fits items scope env → (turns : ℕ)
        → Gives (AreOf items types) (all_in_order (map says es) env turns)
    all_give ps may_call env fit turns = gives_all items well rows typed context setting suits may call keeps ps may_call env fit turns

    pattern_gives : {scope : Scope} (p : Pattern Expr) → IsPattern items context scope p → (gaps_call may p.keys && gaps_call may (value_part p.values)) ≡ true → (env : Env) → Fits items scope env → (turns : ℕ)
        → Gives (AsksFor items p.fact) (wanted_in items says p env turns)
    pattern_gives p is may_call env fit turns = and_then (gaps_call may p.keys) (gaps_call may (value_part p.values)) may_call (λ ks vs.
        rw (gaps_in says p.keys, gaps_in says (value_part p.values))
        (gives_wanted items well rows typed context setting suits may call keeps is (sym (gaps_bound may p.keys) ∙ ks) (sym (gaps_bound may (value_part p.values)) ∙ vs) env fit turns))

    values_give : {scope : Scope} {B : Type 0} (best : B → Type 0) (name : Name) (fact : FactHead) → fact_named items name ≡ Some fact → (binds : List (Bind Expr)) → BindValues items context scope fact binds
        → list_all (expression_calls may) (map (λ b. b.value) binds) ≡ true → (env : Env) → Fits items scope env → (turns : ℕ) → (next : List Value → ℕ → Out B)
        → ((values ordered : List Value) (turns : ℕ) → fact_values fact (bound (bind_names binds) values) ≡ Some ordered → AreOf items (types_of fact.values) ordered → Gives best (next values turns))
        → Gives best (bind_values items says finish_call binds env turns >>= next)
    values_give best name fact is binds (rules.values types ps plain fit_all) may_call env fit turns next go =
        gives_then (AreOf items types) best (all_in_order (map says (map (λ b. b.value) binds)) env turns) next (all_give ps may_call env fit turns) (λ vs n are.
        let given = in_any_order_given items fact.values (fact_values_distinct items well name fact is) (bind_names binds) types vs fit_all are in
        go vs given.0 n given.1 given.2)

    keys_give : {scope : Scope} {B : Type 0} (best : B → Type 0) (fact : FactHead) (binds : List (Bind Expr)) → BindKeys items context scope fact binds → list_all (expression_calls may) (map (λ b. b.value) binds) ≡ true
        → (env : Env) → Fits items scope env → (turns : ℕ) → (next : List Value → ℕ → Out B) → ((values : List Value) (turns : ℕ) → AreOf items (types_of fact.keys) values → Gives best (next values turns))
        → Gives best (bind_values items says finish_call binds env turns >>= next)
    keys_give best fact binds (rules.keys types ps plain fit_all) may_call env fit turns next go =
        gives_then (AreOf items types) best (all_in_order (map says (map (λ b. b.value) binds)) env turns) next (all_give ps may_call env fit turns) (λ vs n are.
        go vs n (keys_are items fact.keys (bind_names binds) types vs fit_all are))

    abbrev listing_of : FinishStmt → Env → ℕ → Out (List Change)
    listing_of = listing items says finish_call

    abbrev typed_changes : List Change → Type 0
    typed_changes = AreTypedChanges items

    lists_stmt : {scope : Scope} {s : FinishStmt} → IsFinishStmt items context scope s → finish_calls may s ≡ true → finish_calls may_finish s ≡ true → (env : Env) → Fits items scope env → (turns : ℕ)
        → Gives typed_changes (listing_of s env turns)
    lists_stmt (rules.create {name = name} {key_binds = ks} {value_binds = vs} fact is bound_keys bound_values) may_call may_call_finish env fit turns =
        and_then (binds_call may ks) (binds_call may vs) may_call (λ one other.
        keys_give typed_changes fact ks bound_keys (sym (bound_calls may ks) ∙ one) env fit turns _ (λ found n are.
        values_give typed_changes name fact is vs bound_values (sym (bound_calls may vs) ∙ other) env fit n _ (λ given ordered k in_their_order are_too.
        change_gives (create_of items name found (bound (bind_names vs) given)) (create_has name fact is found are (bound (bind_names vs) given) ordered in_their_order are_too) k)))
    lists_stmt (rules.update {p = p} {to = to} fact is mutable pattern all_keys bound_values) may_call may_call_finish env fit turns =
        and_then (gaps_call may p.keys && gaps_call may (value_part p.values)) (binds_call may to) may_call (λ one other.
        gives_then (AsksFor items p.fact) typed_changes (wanted_in items says p env turns) _ (pattern_gives p pattern one env fit turns) (λ old n asks.
        values_give typed_changes p.fact fact is to bound_values (sym (bound_calls may to) ∙ other) env fit n _ (λ given ordered k in_their_order are.
        change_gives (update_of items p.fact old (bound (bind_names to) given)) (update_has p.fact fact is old asks (bound (bind_names to) given) ordered in_their_order are) k)))
    lists_stmt (rules.delete {name = name} {key_binds = ks} fact is bound_keys) may_call may_call_finish env fit turns =
        keys_give typed_changes fact ks bound_keys (sym (bound_calls may ks) ∙ may_call) env fit turns _ (λ found n are. change_gives (delete_of items name found) (delete_has name fact is found are) n)
    lists_stmt (rules.emit {e = e} effect p plain names) may_call may_call_finish env fit turns =
        gives_then (IsOf items (ty.Struct effect)) typed_changes (says e env turns) _ (gives items well rows typed context setting suits may call keeps p may_call env fit turns) (λ v n is.
        change_gives (emit_of v) (effect_has items effect names v is) n)
    lists_stmt (rules.call {name = name} {arguments = arguments} types parameters is ps plain fit_all) may_call may_call_finish env fit turns =
        and_then (may a_finish_function name) (list_all (expression_calls may) arguments) may_call (λ one others.
        and_then (may_finish a_finish_function name) (list_all (expression_calls may_finish) arguments) may_call_finish (λ this_one rest.
        gives_then (AreOf items types) typed_changes (all_in_order (map says arguments) env turns) _ (all_give ps others env fit turns) (λ vs n are.
        keeps_finish name parameters vs n this_one is (arguments_are items types parameters vs fit_all are))))

    pub lists_all : {scope : Scope} {statements : List FinishStmt} → AreFinishStmts items context scope statements → list_all (finish_calls may) statements ≡ true → list_all (finish_calls may_finish) statements ≡ true
        → (env : Env) → Fits items scope env → (turns : ℕ) → Gives typed_changes (all_listed items says finish_call statements env turns)
    lists_all rules.no_finish_stmts may_call may_call_finish env fit turns = tt
    lists_all (rules.more_finish_stmts {s = s} {more = more} p rest) may_call may_call_finish env fit turns =
        and_then (finish_calls may s) (list_all (finish_calls may) more) may_call (λ one others.
        and_then (finish_calls may_finish s) (list_all (finish_calls may_finish) more) may_call_finish (λ this_one others_too.
        gives_then typed_changes typed_changes (listing_of s env turns) _ (lists_stmt p one this_one env fit turns) (λ first n are.
        gives_then typed_changes typed_changes (all_listed items says finish_call more env n) _ (lists_all rest others others_too env fit n) (λ later k are_too. changes_both items first later are are_too))))

  -- ---- finish functions

  module _ (rows : List Row) (typed : AreRows items rows) where
    abbrev longest : Callee → Name → Bool
    longest = chain_within items longest_chain

    -- in finish functions an expression knows its names alone
    abbrev pub alone : Expr → Meaning
    alone = meaning items rows no_setting (called items rows longest_chain)

    finish_suits : Suits items in_finish_function no_setting
    finish_suits = nothing_asked items in_finish_function refl (λ is. absurd (cc)) (λ is. absurd (cc))

    entered_lists : (depth : ℕ) → ListsCalled items (chain_within items depth) (finish_called items alone depth) → (i : Item) → IsOfKind items i → may_chain items i ≡ true
        → (parameters : List Named) → finish_parameters i ≡ Some parameters → called_calls (chain_within items depth) a_finish_function (Some i) ≡ true → (values : List Value)
        → AreOf items (types_of parameters) values → (turns : ℕ)
        → Gives (AreTypedChanges items) (finish_entered (all_listed items alone (finish_called items alone depth)) values (Some i) turns)
    entered_lists depth keeps (item.FinishFunction name own body) kind chains parameters is may values are turns = by_kind kind
      where
        by_kind : IsOfKind items (item.FinishFunction name own body)
            → Gives (AreTypedChanges items)
            (finish_entered (all_listed items alone (finish_called items alone depth)) values (Some (item.FinishFunction name own body)) turns)
        by_kind (item_rules.finish_function are_parameters are_stmts) = turn_gives (AreTypedChanges items) _ turns (λ n.
            lists_all rows typed in_finish_function no_setting finish_suits longest (called items rows longest_chain) (keeps_called items well rows typed longest_chain) (chain_within items depth)
            (finish_called items alone depth) keeps are_stmts chains may (bound_parameters (declared own) values)
            (parameters_fit items (declared own) values (subst (λ fields. AreOf items (types_of fields) values) (sym (same_Some (declared own) parameters is)) are)) n)
    entered_lists depth keeps i kind chains parameters is may values are turns = absurd (cc)

    no_call_of : (i : Item) (parameters : List Named) → finish_parameters i ≡ Some parameters → is_no_call a_finish_function (Some i) ≡ true → ⊥
    no_call_of (item.FinishFunction name own body) parameters is none = absurd (false≢true none)
    no_call_of i parameters is none = absurd (cc)

    pub lists_called : (depth : ℕ) → ListsCalled items (chain_within items depth) (finish_called items alone depth)
    lists_called zero name parameters values turns may is are = bind_then (item_named items name) finish_parameters parameters is (λ i named head.
        absurd (no_call_of i parameters head (sym (ap (is_no_call a_finish_function) named) ∙ may)))
    lists_called (suc depth) name parameters values turns may is are = bind_then (item_named items name) finish_parameters parameters is (λ i named head.
        let s = standing items name i named in
        subst (λ o. Gives (AreTypedChanges items) (finish_entered (all_listed items alone (finish_called items alone depth)) values o turns)) (sym named)
        (entered_lists depth (lists_called depth) i (kind_at items well s.number i s.stands) (well s.number i s.stands).chains parameters head
        (sym (ap (called_calls (chain_within items depth) a_finish_function) named) ∙ may) values are turns))
