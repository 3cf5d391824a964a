-- Actions of a well-typed policy: what they publish are typed commands, and they stop for the reasons for which an action may.
use Rattle.std.proofs.Common.{◌≡◌, ◌==◌, ◌-◌, ℕ, Bool, true, false, cond, ◌&&◌, ◌||◌, List, [], ◌∷◌, ◌++◌, map, slice_get, Option, Some, None, option_map, option_and_then, unwrap_or, refl, sym, ap, subst, ◌∙◌}
use Rattle.std.proofs.lemmas.Bool.{false≢true}
use Rattle.std.proofs.lemmas.Option.{same_Some}
use Rattle.std.specs.List.{list_all, list_any}
use Rattle.base_bytes.proofs.Bools.{and_then}
use Rattle.base_bytes.specs.declared.value.Value.{Value}
use Rattle.fact_store.specs.Matching.{selected}
use Rattle.fact_store.specs.declared.row.Row.{Row}
use Rattle.policy_ast.specs.declared.expr.Expr.{Expr}
use Rattle.policy_ast.specs.declared.field.Field.{Field}
use Rattle.policy_ast.specs.declared.item.Item.{Item}
use Rattle.policy_ast.specs.declared.item.Item.TheVariants as item
use Rattle.policy_ast.specs.declared.pattern.Pattern.{Pattern}
use Rattle.policy_ast.specs.declared.policy.PlacedItem.{PlacedItem}
use Rattle.policy_ast.specs.declared.statement.Arm.{Arm}
use Rattle.policy_ast.specs.declared.statement.Else.{Else}
use Rattle.policy_ast.specs.declared.statement.Stmt.{Stmt, fold_out-Stmt, map-Stmt}
use Rattle.policy_ast.specs.declared.statement.Stmt.TheOpen.{Stmt-F}
use Rattle.policy_meaning.specs.Actions.{Act, Answer, Brought, Deed, Did, Stops, Stop, Halts, IsRefused, Asks, World, ◌>>>◌, act, act_layer, acted, action_deed, action_setting, acts, after_answer, answered, arm_act, choose, each_row, else_act, inside, published, said, told, with_turn, with_turns, world_of}
use Rattle.policy_meaning.specs.Arms.{first_body, takes}
use Rattle.policy_meaning.specs.Blocks.{most_turns}
use Rattle.policy_meaning.specs.Desks.{Acts, Posting, answer, brought}
use Rattle.policy_meaning.specs.Environments.{Env, bound_parameters, with_value}
use Rattle.policy_meaning.specs.Expressions.{Meaning}
use Rattle.policy_meaning.specs.Functions.{called, expression}
use Rattle.policy_meaning.specs.Outcomes.{Check, Fault, Stuck, Out, Done, Ends}
use Rattle.policy_meaning.specs.Patterns.{row_value, wanted_in}
use Rattle.policy_meaning.specs.Typed.{AreTyped, IsActionOf, IsCommandOf, are_fields_of, holds_at, is_action_of, is_command_of}
use Rattle.policy_meaning.specs.Values.{struct_parts, truth}
use Rattle.policy_meaning.specs.declared.ends.ActionEnd.{ActionEnd}
use Rattle.policy_meaning.specs.declared.ends.FaultKind.TheVariants as fault
use Rattle.policy_meaning.specs.declared.ends.Posted.{Posted}
use Rattle.policy_meaning.specs.declared.ends.Posted.TheVariants as posted
use Rattle.policy_rules.proofs.StatementMaps.{map_arm, map_else}
use Rattle.policy_rules.specs.Calls.{Callee, all_hold, chain_within, else_stmt_calls, expression_calls, gaps_call, longest_chain, pattern_calls, statement_calls, statement_calls_layer}
use Rattle.policy_rules.specs.Expressions as expression_rules
use Rattle.policy_rules.specs.Expressions.{HasType, IsPattern, value_part}
use Rattle.policy_rules.specs.Heads.{FactHead, command_fields, fact_named, is_command, names_item, struct_named, written_fields}
use Rattle.policy_rules.specs.Items as item_rules
use Rattle.policy_rules.specs.Items.{IsItem, IsOfKind, in_action}
use Rattle.policy_rules.specs.Names.{Name}
use Rattle.policy_rules.specs.Scopes.{Scope, with_name}
use Rattle.policy_rules.specs.Shapes.{shapes_of}
use Rattle.policy_rules.specs.Statements as rules
use Rattle.policy_rules.specs.Statements.{AreArms, IsBlock, IsElse, IsStmt, IsStmtByForm}
use Rattle.policy_rules.specs.Types.{declared}
use Rattle.policy_rules.specs.WellTyped.{IsWellTyped, IsWellTypedAt, items_of}
use Rattle.policy_rules.specs.declared.context.Block.TheVariants as block
use Rattle.policy_rules.specs.declared.types.NamedType.{NamedType}
use Rattle.policy_rules.specs.declared.types.NamedType.TheVariants as ty
use Rattle.policy_types.proofs.Coverage.{one_takes}
use Rattle.policy_types.proofs.Expressions.{gives, gives_wanted}
use Rattle.policy_types.proofs.Fields.{fits_with, parameters_fit}
use Rattle.policy_types.proofs.Finish.{item_passes}
use Rattle.policy_types.proofs.Functions.{keeps_called}
use Rattle.policy_types.proofs.Layers.{truth_of}
use Rattle.policy_types.proofs.Layouts.{gaps_bound, gaps_in, hold_all}
use Rattle.policy_types.proofs.Rows.{AreRows, AreRowsOf, are_fields_from, fields_are_of, row_is_struct, selected_are}
use Rattle.policy_types.proofs.Standing.{FactStands, HasFields, StructStands, fact_standing, struct_standing, struct_value_is}
use Rattle.policy_types.proofs.Values.{as_bool}
use Rattle.policy_types.specs.ActsWell.{ActsWell, AreCommands, IsTypedWorld, LeaveTyped}
use Rattle.policy_types.specs.Asked.{AsksFor}
use Rattle.policy_types.specs.Endings.{Gives, MayHalt}
use Rattle.policy_types.specs.Fitting.{Fits, IsId, IsOf, Suits}

module _ (items : List Item) where
  -- ---- worlds of these items

  abbrev IsBrought : Brought → Type 0
  IsBrought c = holds_at items c.command (is_command_of items c.fields) ≡ true

  abbrev AreBrought : List Brought → Type 0
  AreBrought [] = Unit {0}
  AreBrought (c ∷ brought) = IsBrought c × AreBrought brought

  abbrev AnswersAre : List Answer → Type 0
  AnswersAre [] = Unit {0}
  AnswersAre (a ∷ answers) = AreRows items a.rows × AnswersAre answers

  pub record WorldIs (w : World) : Type 0 where
    pub rows : AreRows items w.rows
    pub left : AnswersAre w.left
    pub made : AreBrought w.made

  abbrev StopIs : Stop → Type 0
  StopIs (Halts halt) = MayHalt halt
  StopIs IsRefused = Unit {0}
  StopIs (Asks c) = IsBrought c

  -- A part of an action comes to something that is as asked for, or it stops for a reason; both in a typed world.
  abbrev Comes : {A : Type 0} → (A → Type 0) → Deed A → Type 0
  Comes good (Did x w) = WorldIs w × good x
  Comes good (Stops stop w) = WorldIs w × StopIs stop

  brought_both : (made : List Brought) (c : Brought) → AreBrought made → IsBrought c → AreBrought (made ++ c ∷ [])
  brought_both [] c are is = (is, tt)
  brought_both (m ∷ made) c are is = (are.0, brought_both made c are.1 is)

  module _ {A B : Type 0} where
    comes_then : (good : A → Type 0) (best : B → Type 0) (deed : Deed A) (next : A → World → Deed B) → Comes good deed → ((x : A) (w : World) → WorldIs w → good x → Comes best (next x w)) → Comes best (deed >>> next)
    comes_then good best (Did x w) next is go = go x w is.0 is.1
    comes_then good best (Stops stop w) next is go = is

  module _ {A : Type 0} (good : A → Type 0) where
    told_comes : (w : World) (out : Out A) → WorldIs w → Gives good out → Comes good (told w out)
    told_comes w (Done x turns) is gives = (record { rows = is.rows; left = is.left; made = is.made }, gives)
    told_comes w (Ends (Check recall)) is gives = (is, gives)
    told_comes w (Ends (Fault kind)) is gives = (is, gives)
    told_comes w (Ends Stuck) is gives = absurd gives

    choose_by : (b : Bool) (first second : World → Deed A) (w : World) → Comes good (first w) → Comes good (second w) → Comes good (choose (Some b) first second w)
    choose_by true first second w one other = one
    choose_by false first second w one other = other

    choose_comes : (test : Option Bool) → ((b : Bool) × (test ≡ Some b)) → (first second : World → Deed A) (w : World) → Comes good (first w) → Comes good (second w) → Comes good (choose test first second w)
    choose_comes test known first second w one other = subst (λ test. Comes good (choose test first second w)) (sym known.1) (choose_by known.0 first second w one other)

    turn_by : (b : Bool) (next : World → Deed A) (w : World) → WorldIs w → ((w : World) → WorldIs w → Comes good (next w)) → Comes good (cond b (Stops (Halts (Fault fault.Turns)) w) (next (with_turns w (w.turns - 1))))
    turn_by true next w is go = (is, tt)
    turn_by false next w is go = go (with_turns w (w.turns - 1)) (record { rows = is.rows; left = is.left; made = is.made })

    turn_comes : (next : World → Deed A) (w : World) → WorldIs w → ((w : World) → WorldIs w → Comes good (next w)) → Comes good (with_turn next w)
    turn_comes next w is go = turn_by (w.turns == 0) next w is go

  abbrev anything : {A : Type 0} → A → Type 0
  anything x = Unit {0}

  -- ---- publishing

  answer_comes : (p : Posted) (w : World) → WorldIs w → Comes anything (after_answer p w)
  answer_comes posted.Taken w is = (is, tt)
  answer_comes posted.TooLong w is = (is, tt)
  answer_comes posted.Refused w is = (is, tt)

  answered_comes : (c : Brought) → IsBrought c → (w : World) → WorldIs w → (left : List Answer) → AnswersAre left → Comes anything (answered c w left)
  answered_comes c is w world [] are = (world, is)
  answered_comes c is w world (a ∷ left) are = answer_comes a.posted (record { rows = a.rows; left = left; made = w.made ++ c ∷ []; turns = w.turns }) (record {
    rows = are.0;
    left = are.1;
    made = brought_both w.made c world.made is;
  })

  command_fields_by : (i : Item) → is_command i ≡ true → (w : List Field) × (written_fields i ≡ Some w)
  command_fields_by (item.Command name sections) is = (command_fields sections, refl)
  command_fields_by i is = absurd (false≢true is)

  command_by : (i : Item) (written : List Field) → is_command i ≡ true → written_fields i ≡ Some written → (values : List Value) → are_fields_of items values written ≡ true → is_command_of items values i ≡ true
  command_by (item.Command name sections) written is writes values are = subst (λ w. are_fields_of items values w ≡ true) (sym (same_Some (command_fields sections) written writes)) are
  command_by i written is writes values are = absurd (false≢true is)

  published_comes : (name : Name) → names_item is_command items name ≡ true → (v : Value) → IsOf items (ty.Struct name) v → (w : World) → WorldIs w → Comes anything (published (struct_parts v) w)
  published_comes name names v is w world =
      let i = item_passes items is_command name names in
      let written = command_fields_by i.0 i.2 in
      let named : struct_named items name ≡ Some (declared written.0) = ap (option_and_then (λ i. option_map declared (written_fields i))) i.1 ∙ ap (option_map declared) written.1 in
      let s : StructStands items name (declared written.0) = struct_standing items name (declared written.0) named in
      let parts : HasFields items name (declared written.0) s.number v = struct_value_is items name (declared written.0) s v is in
      let same : s.item ≡ i.0 = same_Some s.item i.0 (sym s.named ∙ i.1) in
      let c : Brought = record { command = s.number; fields = parts.values } in
      let brought : IsBrought c =
      ap (λ o. unwrap_or (option_map (is_command_of items parts.values) o) false) (s.stands ∙ ap Some same) ∙ command_by i.0 written.0 i.2 written.1 parts.values (are_fields_from items written.0 parts.values parts.are) in
      subst (λ o. Comes anything (published o w)) (sym parts.parts) (answered_comes c brought w world w.left world.left)

  -- ---- rows one after another

  module _ (scope : Scope) (fact_name : Name) (fact : FactHead) (s : FactStands items fact_name fact) (name : Name) (body : Act) (env : Env) (fit : Fits items scope env)
      (go : (inner : Env) (w : World) → WorldIs w → Fits items (with_name scope name (ty.Struct fact_name)) inner → Comes anything (body inner w)) where
    rows_come : (rows : List Row) → AreRowsOf items fact s.number rows → (w : World) → WorldIs w → Comes (Fits items scope) (each_row name body env rows w)
    rows_come [] are w world = (world, fit)
    rows_come (row ∷ rows) are w world =
        comes_then anything (Fits items scope) (with_turn (body (with_value env name (row_value row))) w) _
        (turn_comes anything (body (with_value env name (row_value row))) w world (λ w world.
        go (with_value env name (row_value row)) w world (fits_with items scope env fit name (ty.Struct fact_name) (row_value row) (row_is_struct items fact_name fact s row are.0))))
        (λ inner w world any. rows_come rows are.1 w world)

module _ (items : List Item) (well : (n : ℕ) → IsWellTypedAt items n) (device : List ℕ) (is_device : IsId device) where
  abbrev says : List Row → Expr → Meaning
  says rows = expression items rows (action_setting device)

  abbrev longest : Callee → Name → Bool
  longest = chain_within items longest_chain

  abbrev calls : Stmt → Bool
  calls = statement_calls longest

  abbrev acts_of : Stmt → Act
  acts_of = act items says

  abbrev whatever : Env → Type 0
  whatever env = Unit {0}

  action_suits : Suits items in_action (action_setting device)
  action_suits = record {
    this = λ command is. absurd (none command is);
    author = λ is. absurd (cc);
    command_id = λ is. absurd (cc);
    device = λ is. (device, refl, is_device);
  }
    where
      none : (command : Name) → in_action.this ≡ Some command → ⊥
      none command is = absurd (cc)

  says_gives : {scope : Scope} {e : Expr} {t : NamedType} → HasType items in_action scope e t → expression_calls longest e ≡ true → (env : Env) → Fits items scope env → (w : World) → WorldIs items w
      → Comes items (IsOf items t) (said items says e env w)
  says_gives {e = e} {t = t} p may_call env fit w world = told_comes items (IsOf items t) w (says w.rows e env w.turns) world
      (gives items well w.rows world.rows in_action (action_setting device) action_suits longest (called items w.rows longest_chain) (keeps_called items well w.rows world.rows longest_chain) p may_call env fit w.turns)

  wanted_gives : {scope : Scope} (p : Pattern Expr) → IsPattern items in_action scope p → pattern_calls longest p ≡ true → (env : Env) → Fits items scope env → (w : World) → WorldIs items w
      → Comes items (AsksFor items p.fact) (told w (wanted_in items (says w.rows) p env w.turns))
  wanted_gives p is may_call env fit w world = told_comes items (AsksFor items p.fact) w (wanted_in items (says w.rows) p env w.turns) world
      (and_then (gaps_call longest p.keys) (gaps_call longest (value_part p.values)) may_call (λ ks vs.
      rw (gaps_in (says w.rows) p.keys, gaps_in (says w.rows) (value_part p.values))
      (gives_wanted items well w.rows world.rows in_action (action_setting device) action_suits longest (called items w.rows longest_chain) (keeps_called items well w.rows world.rows longest_chain) is
      (sym (gaps_bound longest p.keys) ∙ ks) (sym (gaps_bound longest (value_part p.values)) ∙ vs) env fit w.turns)))

  pattern_fact : {scope : Scope} {p : Pattern Expr} → IsPattern items in_action scope p → (fact : FactHead) × (fact_named items p.fact ≡ Some fact)
  pattern_fact (expression_rules.pattern_of fact keys values is ks vs fit) = (fact, is)

  inside_comes : (scope : Scope) (inner : Act) (env : Env) → Fits items scope env → (w : World) → Comes items whatever (inner env w) → Comes items (Fits items scope) (inside inner env w)
  inside_comes scope inner env fit w is = comes_then items whatever (Fits items scope) (inner env w) (λ inner w. Did env w) is (λ inner w world any. (world, fit))

  returned : (result : NamedType) → in_action.result ≡ Some result → ⊥
  returned result is = absurd (cc)

  finished : in_action.block ≡ block.Command → ⊥
  finished is = absurd (cc)

  -- the body of this arm, or one of the rest
  arm_by : (a : Arm Stmt) (more : List (Arm Stmt)) (v : Value) (env : Env) (w : World) → (b : Bool) → (b || list_any (takes items v) (map (λ a. a.pattern) more)) ≡ true
      → Comes items whatever (acts (map acts_of a.body) env w)
      → (list_any (takes items v) (map (λ a. a.pattern) more) ≡ true → Comes items whatever (arm_act (first_body items v (map (map_arm acts_of) more)) env w))
      → Comes items whatever (arm_act (cond b (Some (map acts_of a.body)) (first_body items v (map (map_arm acts_of) more))) env w)
  arm_by a more v env w true any one later = one
  arm_by a more v env w false any one later = later any

  forget : (after : Scope) (deed : Deed Env) → Comes items (Fits items after) deed → Comes items whatever deed
  forget after (Did env w) is = (is.0, tt)
  forget after (Stops stop w) is = is

  mutual
    act_comes : {scope after : Scope} {s : Stmt} → IsStmt items in_action scope s after → calls s ≡ true → (env : Env) → Fits items scope env → (w : World) → WorldIs items w
        → Comes items (Fits items after) (acts_of s env w)
    act_comes {after = after} {s = s} (rules.stmt r) may_call env fit w world =
        subst (Comes items (Fits items after)) (sym (ap (λ f. f env w) (fold_out-Stmt Act (act_layer items says) s)))
        (layer_comes r (sym (fold_out-Stmt Bool (statement_calls_layer longest) s) ∙ may_call) env fit w world)

    layer_comes : {scope after : Scope} {layer : Stmt-F Stmt} → IsStmtByForm items in_action scope layer after → statement_calls_layer longest (map-Stmt Stmt Bool calls layer) ≡ true
        → (env : Env) → Fits items scope env → (w : World) → WorldIs items w → Comes items (Fits items after) (act_layer items says (map-Stmt Stmt Act acts_of layer) env w)
    layer_comes (rules.introduces {scope = scope} {l = l} t p new) may_call env fit w world =
        comes_then items (IsOf items t) (Fits items (with_name scope l.name t)) (said items says l.value env w) _ (says_gives p may_call env fit w world)
        (λ v w world is. (world, fits_with items scope env fit l.name t v is))
    layer_comes (rules.checks {scope = scope} {e = e} p) may_call env fit w world =
        comes_then items (IsOf items ty.Bool) (Fits items scope) (said items says e env w) _ (says_gives p may_call env fit w world) (λ v w world is.
        choose_comes items (Fits items scope) (truth v) (truth_of (shapes_of items) v (as_bool items v is)) (Did env) (Stops (Halts (Check None))) w (world, fit) (world, refl))
    layer_comes (rules.chooses {scope = scope} {x = x} head body otherwise) may_call env fit w world =
        and_then (expression_calls longest x.head && all_hold (map calls x.then)) (else_stmt_calls longest (map_else calls x.otherwise)) may_call (λ both last.
        and_then (expression_calls longest x.head) (all_hold (map calls x.then)) both (λ first inner.
        comes_then items (IsOf items ty.Bool) (Fits items scope) (said items says x.head env w) _ (says_gives head first env fit w world) (λ v w world is.
        choose_comes items (Fits items scope) (truth v) (truth_of (shapes_of items) v (as_bool items v is))
        (inside (acts (map acts_of x.then)) env) (inside (else_act (map_else acts_of x.otherwise)) env) w
        (inside_comes scope (acts (map acts_of x.then)) env fit w (block_comes body inner env fit w world))
        (inside_comes scope (else_act (map_else acts_of x.otherwise)) env fit w (else_comes otherwise last env fit w world)))))
    layer_comes (rules.matches {scope = scope} {e = e} {arms = arms} t p patterns bodies) may_call env fit w world =
        and_then (expression_calls longest e) (list_all (λ a. all_hold a.body) (map (map_arm calls) arms)) may_call (λ first inner.
        comes_then items (IsOf items t) (Fits items scope) (said items says e env w) _ (says_gives p first env fit w world) (λ v w world is.
        inside_comes scope (arm_act (first_body items v (map (map_arm acts_of) arms))) env fit w
        (arms_come bodies inner v (one_takes items well t (map (λ a. a.pattern) arms) patterns v is) env fit w world)))
    layer_comes (rules.finishes at p) may_call env fit w world = absurd (finished at)
    layer_comes (rules.maps {scope = scope} {p = p} {name = name} {body = body} at is new inner) may_call env fit w world =
        and_then (pattern_calls longest p) (all_hold (map calls body)) may_call (λ first others.
        let fact = pattern_fact is in
        let s : FactStands items p.fact fact.0 = fact_standing items p.fact fact.0 fact.1 in
        comes_then items (AsksFor items p.fact) (Fits items scope) (told w (wanted_in items (says w.rows) p env w.turns)) _ (wanted_gives p is first env fit w world) (λ q w world asks.
        rows_come items scope p.fact fact.0 s name (acts (map acts_of body)) env fit (λ env w world fit. block_comes inner others env fit w world) (selected q w.rows)
        (selected_are items p.fact fact.0 s q (same_Some q.fact s.number (sym asks.numbered ∙ s.numbered)) w.rows world.rows) w world))
    layer_comes (rules.publishes {scope = scope} {e = e} command at p names) may_call env fit w world =
        comes_then items (IsOf items (ty.Struct command)) (Fits items scope) (said items says e env w) _ (says_gives p may_call env fit w world) (λ v w world is.
        comes_then items (λ done. Unit {0}) (Fits items scope) (published (struct_parts v) w) _ (published_comes items command names v is w world) (λ done w world any. (world, fit)))
    layer_comes (rules.returns t result is p fit_result) may_call env fit w world = absurd (returned result is)

    block_comes : {scope : Scope} {body : List Stmt} → IsBlock items in_action scope body → all_hold (map calls body) ≡ true → (env : Env) → Fits items scope env → (w : World) → WorldIs items w
        → Comes items whatever (acts (map acts_of body) env w)
    block_comes rules.no_stmts may_call env fit w world = (world, tt)
    block_comes (rules.more_stmts {s = s} {more = more} after p precedes rest) may_call env fit w world = and_then (calls s) (all_hold (map calls more)) may_call (λ one others.
        comes_then items (Fits items after) whatever (acts_of s env w) _ (act_comes p one env fit w world) (λ env w world fit. block_comes rest others env fit w world))

    else_comes : {scope : Scope} {o : Option (Else Stmt)} → IsElse items in_action scope o → else_stmt_calls longest (map_else calls o) ≡ true → (env : Env) → Fits items scope env → (w : World) → WorldIs items w
        → Comes items whatever (else_act (map_else acts_of o) env w)
    else_comes rules.no_else may_call env fit w world = (world, tt)
    else_comes (rules.else_block body) may_call env fit w world = block_comes body may_call env fit w world
    else_comes (rules.else_if {s = s} after p) may_call env fit w world = forget after (acts_of s env w) (act_comes p may_call env fit w world)

    arms_come : {scope : Scope} {arms : List (Arm Stmt)} → AreArms items in_action scope arms → list_all (λ a. all_hold a.body) (map (map_arm calls) arms) ≡ true → (v : Value)
        → list_any (takes items v) (map (λ a. a.pattern) arms) ≡ true → (env : Env) → Fits items scope env → (w : World) → WorldIs items w
        → Comes items whatever (arm_act (first_body items v (map (map_arm acts_of) arms)) env w)
    arms_come rules.no_arms may_call v any env fit w world = absurd (false≢true any)
    arms_come (rules.more_arms {a = a} {more = more} body rest) may_call v any env fit w world =
        and_then (all_hold (map calls a.body)) (list_all (λ a. all_hold a.body) (map (map_arm calls) more)) may_call (λ one others.
        arm_by a more v env w (takes items v a.pattern) any (block_comes body one env fit w world) (λ there. arms_come rest others v there env fit w world))

  -- ---- an action

  by_kind : (arguments : List Value) (w : World) → WorldIs items w → (name : Name) (parameters : List Field) (body : List Stmt) → are_fields_of items arguments parameters ≡ true
      → list_all calls body ≡ true → IsOfKind items (item.Action name parameters body) → Comes items whatever (action_deed items device arguments (Some (item.Action name parameters body)) w)
  by_kind arguments w world name parameters body are chains (item_rules.action are_parameters is_block) =
      block_comes is_block (hold_all calls body ∙ chains) (bound_parameters (declared parameters) arguments) (parameters_fit items (declared parameters) arguments (fields_are_of items parameters arguments are)) w world

  by_item : (action : ℕ) (arguments : List Value) (w : World) → WorldIs items w → (o : Option Item) → slice_get items action ≡ o → unwrap_or (option_map (is_action_of items arguments) o) false ≡ true
      → Comes items whatever (action_deed items device arguments o w)
  by_item action arguments w world None at is = absurd (false≢true is)
  by_item action arguments w world (Some (item.Action name parameters body)) at is =
      let well_typed = well action (item.Action name parameters body) at in by_kind arguments w world name parameters body is well_typed.chains well_typed.of_kind
  by_item action arguments w world (Some other) at is = absurd (false≢true is)

  pub action_comes : (action : ℕ) (arguments : List Value) → holds_at items action (is_action_of items arguments) ≡ true → (rows : List Row) → AreRows items rows → (answers : List Answer)
      → AnswersAre items answers → Comes items whatever (acted items action arguments device rows answers)
  action_comes action arguments is rows typed answers are =
      by_item action arguments (record { rows = rows; left = answers; made = []; turns = most_turns }) (record { rows = typed; left = are; made = tt }) (slice_get items action) refl is

module _ (policy : List PlacedItem) where
  answers_are : (answers : List Answer) → LeaveTyped policy answers → AnswersAre (items_of policy) answers
  unfolding AreTyped
  answers_are [] are = tt
  answers_are (a ∷ answers) are = (are.0, answers_are answers are.1)

  answers_typed : (answers : List Answer) → AnswersAre (items_of policy) answers → LeaveTyped policy answers
  unfolding AreTyped
  answers_typed [] are = tt
  answers_typed (a ∷ answers) are = (are.0, answers_typed answers are.1)

  commands_are : (made : List Brought) → AreBrought (items_of policy) made → AreCommands policy made
  unfolding IsCommandOf
  commands_are [] are = tt
  commands_are (c ∷ made) are = (are.0, commands_are made are.1)

  world_typed : (w : World) → WorldIs (items_of policy) w → IsTypedWorld policy w
  unfolding AreTyped
  world_typed w is = record { rows = is.rows; left = answers_typed w.left is.left; made = commands_are w.made is.made }

  acts_well : (deed : Deed Env) → Comes (items_of policy) (λ env. Unit {0}) deed → ActsWell policy deed
  unfolding IsCommandOf
  acts_well (Did env w) is = world_typed w is.0
  acts_well (Stops (Halts halt) w) is = (world_typed w is.0, is.1)
  acts_well (Stops IsRefused w) is = (world_typed w is.0, tt)
  acts_well (Stops (Asks c) w) is = (world_typed w is.0, is.1)

  pub actions_act_well : IsWellTyped policy → (action : ℕ) (arguments : List Value) → IsActionOf policy action arguments → (device : List ℕ) → IsId device → (rows : List Row) → AreTyped policy rows
      → (answers : List Answer) → LeaveTyped policy answers → ActsWell policy (acted (items_of policy) action arguments device rows answers)
  unfolding AreTyped IsActionOf
  actions_act_well well action arguments is device is_device rows typed answers are =
      acts_well (acted (items_of policy) action arguments device rows answers) (action_comes (items_of policy) well device is_device action arguments is rows typed answers (answers_are answers are))

  made_by : (deed : Deed Env) → ActsWell policy deed → AreCommands policy (world_of deed).made
  made_by (Did env w) is = is.made
  made_by (Stops stop w) is = is.0.made

  pub commands_are_published : IsWellTyped policy → (action : ℕ) (arguments : List Value) → IsActionOf policy action arguments → (device : List ℕ) → IsId device → (rows : List Row) → AreTyped policy rows
      → (postings : List Posting) → LeaveTyped policy (map answer postings) → (end : ActionEnd) → Acts policy action arguments device rows postings end → AreCommands policy (map brought postings)
  unfolding Acts
  commands_are_published well action arguments is device is_device rows typed postings are end acts =
      subst (AreCommands policy) acts.made (made_by (acted (items_of policy) action arguments device rows (map answer postings)) (actions_act_well well action arguments is device is_device rows typed (map answer postings) are))
