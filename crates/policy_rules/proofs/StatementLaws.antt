-- Statements: what the rules say of them is what is found.
use Rattle.std.proofs.Common.{◌≡◌, Bool, true, not, ◌&&◌, List, [], ◌∷◌, map, Option, Some, None, refl, sym, ap, subst, ◌∙◌}
use Rattle.std.specs.Option.{is_some}
use Rattle.base_bytes.proofs.Bools.{and_then}
use Rattle.base_bytes.proofs.Formats.{bind_then}
use Rattle.policy_ast.specs.declared.expr.Expr.{Expr}
use Rattle.policy_ast.specs.declared.item.Item.{Item}
use Rattle.policy_ast.specs.declared.pattern.Pattern.{Pattern}
use Rattle.policy_ast.specs.declared.statement.Arm.{Arm}
use Rattle.policy_ast.specs.declared.statement.Else.{Else}
use Rattle.policy_ast.specs.declared.statement.Else.TheVariants as else_stmt
use Rattle.policy_ast.specs.declared.statement.IfStmt.{IfStmt}
use Rattle.policy_ast.specs.declared.statement.Stmt.{Stmt, fold_out-Stmt, fold-roll-Stmt, ind-Stmt, map-Stmt, out-Stmt, out-roll-Stmt, roll-Stmt}
use Rattle.policy_ast.specs.declared.statement.Stmt.TheOpen.{Stmt-F}
use Rattle.policy_rules.proofs.Finding.{action_block_then, bool_then, command_block_then, finds, only_if_then, same_some, struct_then}
use Rattle.policy_rules.proofs.FinishLaws.{finish_found, finish_judged, holds_then, pattern_finds, pattern_infers, some_then}
use Rattle.policy_rules.proofs.Inferring.{bool_is, infers, struct_is}
use Rattle.policy_rules.proofs.StatementMaps.{arm_patterns, last_map, map_arm, map_else}
use Rattle.policy_rules.specs.Coverage.{are_arm_patterns}
use Rattle.policy_rules.specs.Expressions.{HasType}
use Rattle.policy_rules.specs.Heads.{is_command, names_item}
use Rattle.policy_rules.specs.Names.{Name}
use Rattle.policy_rules.specs.Scopes.{Scope, may_introduce, with_name}
use Rattle.policy_rules.specs.Statements as rules
use Rattle.policy_rules.specs.Statements.{AreArms, IsBlock, IsElse, IsStmt, IsStmtByForm, is_last_layer, may_precede, within_finish}
use Rattle.policy_rules.specs.Types.{fits}
use Rattle.policy_rules.specs.declared.context.Context.{Context}
use Rattle.policy_rules.specs.declared.types.NamedType.TheVariants as ty
use Rattle.policy_rules.specs.Inference.{inferred, is_action_block, is_bool, is_command_block, struct_of}
use Rattle.policy_rules.specs.Judging.{Judged, arms_are, behind_layer, block_is, else_is, finish_stmts_are, is_bool_within, is_pattern_within, judged, judged_layer, precedes}

module _ (items : List Item) (context : Context) where
  abbrev judge : Stmt → Judged
  judge = judged items context

  last_same : (s : Stmt) → (judge s).is_last ≡ is_last_layer (out-Stmt s)
  last_same s = ap (λ j. j.is_last) (fold_out-Stmt Judged (judged_layer items context) s) ∙ last_map judge (out-Stmt s)

  precede_same : (s : Stmt) (more : List Stmt) → precedes (judge s).is_last (map judge more) ≡ may_precede s more
  precede_same s [] = refl
  precede_same s (m ∷ more) = ap not (last_same s)

  bool_judged : {scope : Scope} {e : Expr} → HasType items context scope e ty.Bool → is_bool_within items context e scope ≡ true
  bool_judged p = rw (infers items context p, bool_is) refl

  bool_found : (e : Expr) (scope : Scope) → is_bool_within items context e scope ≡ true → HasType items context scope e ty.Bool
  bool_found e scope is = holds_then (inferred items context e scope) is_bool is (λ t has rest. finds items context e scope ty.Bool (has ∙ ap Some (bool_then t rest)))

  -- ---- from the rules

  mutual
    pub judges : {scope after : Scope} {s : Stmt} → IsStmt items context scope s after → (judge s).behind scope ≡ Some after
    judges {scope} {s = s} (rules.stmt r) = ap (λ j. j.behind scope) (fold_out-Stmt Judged (judged_layer items context) s) ∙ judges_layer r

    judges_layer : {scope after : Scope} {layer : Stmt-F Stmt} → IsStmtByForm items context scope layer after → behind_layer items context (map-Stmt Stmt Judged judge layer) scope ≡ Some after
    judges_layer (rules.introduces t p may) = rw (infers items context p, may) refl
    judges_layer (rules.checks p) = rw (bool_judged p) refl
    judges_layer (rules.chooses head body otherwise) = rw (bool_judged head, judges_block body, judges_else otherwise) refl
    judges_layer (rules.matches {arms = arms} t p patterns bodies) = rw (infers items context p, arm_patterns judge arms, patterns, judges_arms bodies) refl
    judges_layer (rules.finishes {scope = scope} at statements) = rw (finish_judged items (within_finish context) scope statements, at) refl
    judges_layer (rules.maps at p may body) = rw (pattern_infers items context p, may, judges_block body, at) refl
    judges_layer (rules.publishes command at p names) = rw (infers items context p, struct_is command, names, at) refl
    judges_layer (rules.returns t result is p fit) = rw (infers items context p, is, fit) refl

    pub judges_block : {scope : Scope} {body : List Stmt} → IsBlock items context scope body → block_is (map judge body) scope ≡ true
    judges_block rules.no_stmts = refl
    judges_block (rules.more_stmts {s = s} {more = more} after p may rest) = rw (judges p, precede_same s more, may, judges_block rest) refl

    judges_else : {scope : Scope} {o : Option (Else Stmt)} → IsElse items context scope o → else_is (map_else judge o) scope ≡ true
    judges_else rules.no_else = refl
    judges_else (rules.else_block body) = judges_block body
    judges_else (rules.else_if after p) = ap is_some (judges p)

    judges_arms : {scope : Scope} {arms : List (Arm Stmt)} → AreArms items context scope arms → arms_are (map (map_arm judge) arms) scope ≡ true
    judges_arms rules.no_arms = refl
    judges_arms (rules.more_arms body rest) = rw (judges_block body, judges_arms rest) refl

  -- ---- and back

  abbrev Finds : Stmt → Type 0
  Finds s = (scope after : Scope) → (judge s).behind scope ≡ Some after → IsStmt items context scope s after

  abbrev Child : Type 0
  Child = (s : Stmt) × Finds s

  abbrev tree : Child → Stmt
  tree c = c.0

  block_found : (cs : List Child) (scope : Scope) → block_is (map judge (map tree cs)) scope ≡ true → IsBlock items context scope (map tree cs)
  block_found [] scope is = rules.no_stmts
  block_found (c ∷ cs) scope is = holds_then ((judge c.0).behind scope) _ is (λ after has rest.
      and_then (precedes (judge c.0).is_last (map judge (map tree cs))) (block_is (map judge (map tree cs)) after) rest (λ may more.
      rules.more_stmts after (c.1 scope after has) (sym (precede_same c.0 (map tree cs)) ∙ may) (block_found cs after more)))

  else_found : (o : Option (Else Child)) (scope : Scope) → else_is (map_else judge (map_else tree o)) scope ≡ true → IsElse items context scope (map_else tree o)
  else_found None scope is = rules.no_else
  else_found (Some (else_stmt.Block body)) scope is = rules.else_block (block_found body scope is)
  else_found (Some (else_stmt.If c)) scope is = some_then ((judge c.0).behind scope) is (λ after has. rules.else_if after (c.1 scope after has))

  arms_found : (arms : List (Arm Child)) (scope : Scope) → arms_are (map (map_arm judge) (map (map_arm tree) arms)) scope ≡ true → AreArms items context scope (map (map_arm tree) arms)
  arms_found [] scope is = rules.no_arms
  arms_found (a ∷ arms) scope is = and_then (block_is (map judge (map tree a.body)) scope) (arms_are (map (map_arm judge) (map (map_arm tree) arms)) scope) is (λ body rest.
      rules.more_arms (block_found a.body scope body) (arms_found arms scope rest))

  abbrev plain : Stmt-F Child → Stmt-F Stmt
  plain layer = map-Stmt Child Stmt tree layer

  abbrev FindsLayer : Stmt-F Child → Type 0
  FindsLayer layer = (scope after : Scope) → behind_layer items context (map-Stmt Stmt Judged judge (plain layer)) scope ≡ Some after → IsStmtByForm items context scope (plain layer) after

  choice_found : (x : IfStmt Child) → FindsLayer (Stmt-F.If x)
  choice_found x scope after is =
      let body : Bool = block_is (map judge (map tree x.then)) scope in
      let otherwise : Bool = else_is (map_else judge (map_else tree x.otherwise)) scope in
      only_if_then (is_bool_within items context x.head scope && (body && otherwise)) (Some scope) after is (λ both same. rw (sym (same_some same))
      (and_then (is_bool_within items context x.head scope) (body && otherwise) both (λ head rest. and_then body otherwise rest (λ then last.
      rules.chooses (bool_found x.head scope head) (block_found x.then scope then) (else_found x.otherwise scope last)))))

  match_found : (e : Expr) (arms : List (Arm Child)) → FindsLayer (Stmt-F.Match e arms)
  match_found e arms scope after is =
      let plain_arms : List (Arm Stmt) = map (map_arm tree) arms in
      bind_then (inferred items context e scope) _ after is (λ t has rest.
      only_if_then (are_arm_patterns items t (map (λ a. a.pattern) (map (map_arm judge) plain_arms)) && arms_are (map (map_arm judge) plain_arms) scope) (Some scope) after rest (λ both same.
      rw (sym (same_some same)) (and_then (are_arm_patterns items t (map (λ a. a.pattern) (map (map_arm judge) plain_arms))) (arms_are (map (map_arm judge) plain_arms) scope) both
      (λ patterns bodies. rules.matches t (finds items context e scope t has) (ap (are_arm_patterns items t) (sym (arm_patterns judge plain_arms)) ∙ patterns) (arms_found arms scope bodies)))))

  map_found : (p : Pattern Expr) (name : Name) (body : List Child) → FindsLayer (Stmt-F.Map p name body)
  map_found p name body scope after is =
      let pattern : Bool = is_pattern_within items context p scope in
      let may : Bool = may_introduce items context scope name in
      let block : Bool = block_is (map judge (map tree body)) (with_name scope name (ty.Struct p.fact)) in
      only_if_then (is_action_block context.block && (pattern && (may && block))) (Some scope) after is (λ all same. rw (sym (same_some same))
      (and_then (is_action_block context.block) (pattern && (may && block)) all (λ at rest. and_then pattern (may && block) rest (λ matched more. and_then may block more (λ new inner.
      rules.maps (action_block_then context.block at) (pattern_finds items context p scope matched) new (block_found body (with_name scope name (ty.Struct p.fact)) inner))))))

  publish_found : (e : Expr) → FindsLayer (Stmt-F.Publish e)
  publish_found e scope after is =
      bind_then _ (λ command. _) after is (λ command both rest. bind_then (inferred items context e scope) struct_of command both (λ t has of.
      only_if_then (is_action_block context.block && names_item is_command items command) (Some scope) after rest (λ all same. rw (sym (same_some same))
      (and_then (is_action_block context.block) (names_item is_command items command) all (λ at names.
      rules.publishes command (action_block_then context.block at) (finds items context e scope (ty.Struct command) (has ∙ ap Some (struct_then t command of))) names)))))

  finds_layer : (layer : Stmt-F Child) → FindsLayer layer
  finds_layer (Stmt-F.Let l) scope after is = bind_then (inferred items context l.value scope) _ after is (λ t has rest.
      only_if_then (may_introduce items context scope l.name) (Some (with_name scope l.name t)) after rest (λ may same.
      rw (sym (same_some same)) (rules.introduces t (finds items context l.value scope t has) may)))
  finds_layer (Stmt-F.Check e) scope after is = only_if_then (is_bool_within items context e scope) (Some scope) after is (λ holds same.
      rw (sym (same_some same)) (rules.checks (bool_found e scope holds)))
  finds_layer (Stmt-F.If x) scope after is = choice_found x scope after is
  finds_layer (Stmt-F.Match e arms) scope after is = match_found e arms scope after is
  finds_layer (Stmt-F.Finish statements) scope after is =
      only_if_then (is_command_block context.block && finish_stmts_are items (within_finish context) statements scope) (Some scope) after is (λ both same. rw (sym (same_some same))
      (and_then (is_command_block context.block) (finish_stmts_are items (within_finish context) statements scope) both (λ at rest.
      rules.finishes (command_block_then context.block at) (finish_found items (within_finish context) scope statements rest))))
  finds_layer (Stmt-F.Map p name body) scope after is = map_found p name body scope after is
  finds_layer (Stmt-F.Publish e) scope after is = publish_found e scope after is
  finds_layer (Stmt-F.Return e) scope after is = bind_then context.result _ after is (λ result at rest. bind_then (inferred items context e scope) _ after rest (λ t has more.
      only_if_then (fits t result) (Some scope) after more (λ fit same. rw (sym (same_some same)) (rules.returns t result at (finds items context e scope t has) fit))))

  finds_step : (layer : Stmt-F Child) → Finds (roll-Stmt (plain layer))
  finds_step layer scope after is = rules.stmt (subst (λ l. IsStmtByForm items context scope l after) (sym (out-roll-Stmt (plain layer)))
      (finds_layer layer scope after (sym (ap (λ j. j.behind scope) (fold-roll-Stmt Judged (judged_layer items context) (plain layer))) ∙ is)))

  pub judgement_found : (s : Stmt) → Finds s
  judgement_found = ind-Stmt Finds (λ x y is. subst (λ l. Finds (roll-Stmt l)) is (finds_step y))

  pub body_found : (body : List Stmt) (scope : Scope) → block_is (map judge body) scope ≡ true → IsBlock items context scope body
  body_found [] scope is = rules.no_stmts
  body_found (s ∷ more) scope is = holds_then ((judge s).behind scope) _ is (λ after has rest.
      and_then (precedes (judge s).is_last (map judge more)) (block_is (map judge more) after) rest (λ may others.
      rules.more_stmts after (judgement_found s scope after has) (sym (precede_same s more) ∙ may) (body_found more after others)))
