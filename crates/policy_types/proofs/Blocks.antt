-- The policy block and the recall block of a command of a well-typed policy.
use Rattle.std.proofs.Common.{◌≡◌, ◌==◌, ℕ, zero, suc, ◌+◌, Bool, true, false, cond, not, ◌||◌, List, [], ◌∷◌, length, nat_lt, take, slice_get, Option, Some, None, option_map, option_and_then, unwrap_or, refl, sym, ap, subst, ◌∙◌, arith}
use Rattle.std.specs.Prelude.{count_by}
use Rattle.std.proofs.lemmas.Bool.{false≢true, lt-ltb}
use Rattle.std.proofs.lemmas.List.Folds.{find_at}
use Rattle.std.proofs.lemmas.Option.{same_Some, slice_get_within}
use Rattle.std.specs.List.{list_all, list_any, position_or_len}
use Rattle.std.specs.Str.{bytes_eq}
use Rattle.base_bytes.proofs.Bools.{and_then}
use Rattle.base_bytes.specs.declared.value.Value.{Value}
use Rattle.base_bytes.specs.declared.value.Value.TheVariants as value
use Rattle.fact_store.specs.declared.row.Row.{Row}
use Rattle.policy_ast.specs.declared.item.Item.{Item}
use Rattle.policy_ast.specs.declared.item.Item.TheVariants as item
use Rattle.policy_ast.specs.declared.item.Section.{Section}
use Rattle.policy_ast.specs.declared.item.Section.TheVariants as section
use Rattle.policy_ast.specs.declared.policy.PlacedItem.{PlacedItem}
use Rattle.policy_ast.specs.declared.statement.Stmt.{Stmt}
use Rattle.policy_meaning.specs.Applying.{Ended, Passes, Checks, Faults, Sticks, block_ended, flow_ended}
use Rattle.policy_meaning.specs.Blocks.{body_ended, command_setting, most_turns, policy_block, policy_body, policy_ended, recall_block, recall_body, recall_ended, sections_of, with_sections}
use Rattle.policy_meaning.specs.Environments.{Setting}
use Rattle.policy_meaning.specs.Finish.{finish_called}
use Rattle.policy_meaning.specs.Functions.{called, finish, statements}
use Rattle.policy_meaning.specs.Outcomes.{Check, Fault, Stuck, Out, Done, Ends}
use Rattle.policy_meaning.specs.Statements.{Flow, Goes, Returns, Finishes, Ran}
use Rattle.policy_meaning.specs.Typed.{AreEffectsOf, AreTyped, IsCommandOf, are_fields_of, holds_at, is_command_of}
use Rattle.policy_meaning.specs.declared.call.Call.{Call}
use Rattle.policy_rules.specs.Calls.{Callee, chain_within, longest_chain, section_calls, statement_calls}
use Rattle.policy_rules.specs.Commands.{has_its_sections, is_policy, is_recall, is_attributes, stands_at_most_once, stands_once}
use Rattle.policy_rules.specs.Heads.{command_fields, struct_named, written_fields}
use Rattle.policy_rules.specs.Items as item_rules
use Rattle.policy_rules.specs.Items.{AreSections, IsItem, IsOfKind, in_command, is_free_name}
use Rattle.policy_rules.specs.Names.{Name, is_among, is_named, item_named, name_of, names_of, number_named}
use Rattle.policy_rules.specs.Statements.{IsBlock, ends_in_return, within_finish}
use Rattle.policy_rules.specs.Types.{declared}
use Rattle.policy_rules.specs.WellTyped.{IsWellTyped, IsWellTypedAt, items_of}
use Rattle.policy_rules.specs.declared.types.NamedType.{NamedType}
use Rattle.policy_rules.specs.declared.types.NamedType.TheVariants as ty
use Rattle.policy_types.proofs.Fields.{name_same}
use Rattle.policy_types.proofs.Finish.{alone, lists_all, lists_called}
use Rattle.policy_types.proofs.Functions.{keeps_called}
use Rattle.policy_types.proofs.Layouts.{hold_all}
use Rattle.policy_types.proofs.Rows.{AreRows, fields_are_of}
use Rattle.policy_types.proofs.Standing.{StructStands, struct_standing, struct_value_made}
use Rattle.policy_types.proofs.Statements.{FlowIs, Lists, runs_block}
use Rattle.policy_types.proofs.Writes.{EndsTyped, applied_ends}
use Rattle.policy_types.specs.EndsWell.{EndsWell}
use Rattle.policy_types.specs.Endings.{Gives}
use Rattle.policy_types.specs.Fitting.{IsId, IsOf, Suits}

-- ---- the item of a number is the first of its name

place_by : {A : Type 0} (p : A → Bool) (xs : List A) (n : ℕ) (x : A) → slice_get xs n ≡ Some x → p x ≡ true → list_any p (take n xs) ≡ false → position_or_len p xs ≡ n
place_by p [] n x at is none = absurd (cc)
place_by p (y ∷ xs) zero x at is none = by (p y) (ap p (same_Some y x at) ∙ is)
  where
    by : (b : Bool) → b ≡ true → cond (not b) (1 + position_or_len p xs) 0 ≡ 0
    by true is = refl
    by false is = absurd (false≢true is)
place_by p (y ∷ xs) (suc n) x at is none = by (p y) none (place_by p xs n x at is)
  where
    by : (b : Bool) → (b || list_any p (take n xs)) ≡ false → (list_any p (take n xs) ≡ false → position_or_len p xs ≡ n) → cond (not b) (1 + position_or_len p xs) 0 ≡ suc n
    by true none later = absurd (false≢true (sym none))
    by false none later = let rest = later none in omega (arith, rest)

among_items : (name : Name) (items : List Item) → is_among name (names_of items) ≡ list_any (is_named name) items
among_items name [] = refl
among_items name (i ∷ items) = by (name_of i) refl (among_items name items)
  where
    by : (o : Option Name) → name_of i ≡ o → is_among name (names_of items) ≡ list_any (is_named name) items → is_among name (names_of (i ∷ items)) ≡ list_any (is_named name) (i ∷ items)
    by None is rest = rw is rest
    by (Some own) is rest = rw is (ap (λ rest. bytes_eq name own || rest) rest)

module _ (items : List Item) (well : (n : ℕ) → IsWellTypedAt items n) where
  place_of_item : (n : ℕ) (i : Item) (name : Name) → slice_get items n ≡ Some i → name_of i ≡ Some name → position_or_len (is_named name) items ≡ n
  place_of_item n i name at of =
      let free : is_free_name (names_of (take n items)) (Some name) ≡ true = subst (λ o. is_free_name (names_of (take n items)) o ≡ true) of (well n i at).free in
      let other : is_among name (names_of (take n items)) ≡ false = and_then (not (is_among name (names_of (take n items)))) _ free (λ apart more. unwanted (is_among name (names_of (take n items))) apart) in
      let own : is_named name i ≡ true = ap (λ o. unwrap_or (option_map (bytes_eq name) o) false) of ∙ name_same name name refl in
      place_by (is_named name) items n i at own (sym (among_items name (take n items)) ∙ other)
    where
      unwanted : (b : Bool) → not b ≡ true → b ≡ false
      unwanted true is = absurd (false≢true is)
      unwanted false is = refl

  pub number_of_item : (n : ℕ) (i : Item) (name : Name) → slice_get items n ≡ Some i → name_of i ≡ Some name → number_named items name ≡ Some n
  number_of_item n i name at of =
      ap (λ k. cond (nat_lt k (length items)) (Some k) None) (place_of_item n i name at of) ∙ ap (λ b. cond b (Some n) None) (lt-ltb n (length items) (slice_get_within items n i at))

  -- the item that the name of an item means is that item
  pub item_of_name : (n : ℕ) (i : Item) (name : Name) → slice_get items n ≡ Some i → name_of i ≡ Some name → item_named items name ≡ Some i
  item_of_name n i name at of = find_at (is_named name) items ∙ ap (slice_get items) (place_of_item n i name at of) ∙ at

  -- ---- the sections of a command

  -- a block of a command, and what it may call
  pub record IsBody (name : Name) (body : List Stmt) : Type 0 where
    pub is_block : IsBlock items (in_command name) [] body
    pub calls : list_all (statement_calls (chain_within items longest_chain)) body ≡ true

  abbrev longest : Callee → Name → Bool
  longest = chain_within items longest_chain

  policy_is : {name : Name} {sections : List Section} → AreSections items name sections → list_all (section_calls longest) sections ≡ true → (body : List Stmt) → policy_body sections ≡ Some body → IsBody name body
  policy_is item_rules.no_sections calls body is = absurd (cc)
  policy_is (item_rules.more_sections (item_rules.attributes_section {attributes = own}) more) calls body is = and_then (section_calls longest (section.Attributes own)) _ calls (λ one rest. policy_is more rest body is)
  policy_is (item_rules.more_sections (item_rules.fields_section {fields = own} are) more) calls body is = and_then (section_calls longest (section.Fields own)) _ calls (λ one rest. policy_is more rest body is)
  policy_is (item_rules.more_sections item_rules.seal_section more) calls body is = and_then (section_calls longest section.Seal) _ calls (λ one rest. policy_is more rest body is)
  policy_is (item_rules.more_sections item_rules.open_section more) calls body is = and_then (section_calls longest section.Open) _ calls (λ one rest. policy_is more rest body is)
  policy_is {name = name} (item_rules.more_sections (item_rules.policy_section {body = own} is_block) more) calls body is = and_then (section_calls longest (section.Policy own)) _ calls (λ one rest.
      subst (IsBody name) (same_Some own body is) (record { is_block = is_block; calls = one }))
  policy_is (item_rules.more_sections (item_rules.recall_section {body = own} is_block) more) calls body is = and_then (section_calls longest (section.Recall own)) _ calls (λ one rest. policy_is more rest body is)

  recall_is : {name : Name} {sections : List Section} → AreSections items name sections → list_all (section_calls longest) sections ≡ true → (body : List Stmt) → recall_body sections ≡ Some body → IsBody name body
  recall_is item_rules.no_sections calls body is = absurd (cc)
  recall_is (item_rules.more_sections (item_rules.attributes_section {attributes = own}) more) calls body is = and_then (section_calls longest (section.Attributes own)) _ calls (λ one rest. recall_is more rest body is)
  recall_is (item_rules.more_sections (item_rules.fields_section {fields = own} are) more) calls body is = and_then (section_calls longest (section.Fields own)) _ calls (λ one rest. recall_is more rest body is)
  recall_is (item_rules.more_sections item_rules.seal_section more) calls body is = and_then (section_calls longest section.Seal) _ calls (λ one rest. recall_is more rest body is)
  recall_is (item_rules.more_sections item_rules.open_section more) calls body is = and_then (section_calls longest section.Open) _ calls (λ one rest. recall_is more rest body is)
  recall_is (item_rules.more_sections (item_rules.policy_section {body = own} is_block) more) calls body is = and_then (section_calls longest (section.Policy own)) _ calls (λ one rest. recall_is more rest body is)
  recall_is {name = name} (item_rules.more_sections (item_rules.recall_section {body = own} is_block) more) calls body is = and_then (section_calls longest (section.Recall own)) _ calls (λ one rest.
      subst (IsBody name) (same_Some own body is) (record { is_block = is_block; calls = one }))

  no_policy : (sections : List Section) → policy_body sections ≡ None → count_by is_policy sections ≡ 0
  no_policy [] none = refl
  no_policy (section.Policy body ∷ sections) none = absurd (cc)
  no_policy (section.Attributes own ∷ sections) none = no_policy sections none
  no_policy (section.Fields own ∷ sections) none = no_policy sections none
  no_policy (section.Seal ∷ sections) none = no_policy sections none
  no_policy (section.Open ∷ sections) none = no_policy sections none
  no_policy (section.Recall body ∷ sections) none = no_policy sections none

  -- ---- a block

  module _ (rows : List Row) (typed : AreRows items rows) where
    pub command_lists : (name : Name) (setting : Setting) → Suits items (in_command name) setting → Lists items (in_command name) longest (finish items rows setting)
    command_lists name setting suits at scope stmts are calls env fit turns =
        lists_all items well rows typed (within_finish (in_command name)) setting finish_suits longest (called items rows longest_chain) (keeps_called items well rows typed longest_chain) longest
        (finish_called items (alone items well rows typed) longest_chain) (lists_called items well rows typed longest_chain) are calls calls env fit turns
      where
        finish_suits : Suits items (within_finish (in_command name)) setting
        finish_suits = record { this = suits.this; author = λ is. absurd (cc); command_id = λ is. absurd (cc); device = λ is. absurd (cc) }

    flow_ends : (name : Name) (must : Bool) (flow : Flow) → FlowIs items (in_command name) must flow → EndsTyped items (flow_ended rows flow)
    flow_ends name must Goes is = (typed, refl)
    flow_ends name must (Returns v) is = absurd (none is.0 is.1)
      where
        none : (result : NamedType) → (in_command name).result ≡ Some result → ⊥
        none result is = absurd (cc)
    flow_ends name must (Finishes changes) is = applied_ends items changes is.1 rows typed

    out_ends : (name : Name) (must : Bool) (out : Out Ran) → Gives (λ (r : Ran). FlowIs items (in_command name) must r.flow) out → EndsTyped items (block_ended rows out)
    out_ends name must (Done r turns) is = flow_ends name must r.flow is
    out_ends name must (Ends (Check recall)) is = is
    out_ends name must (Ends (Fault kind)) is = is
    out_ends name must (Ends Stuck) is = is

    body_ends : (name : Name) (call : Call) → Suits items (in_command name) (command_setting call) → (body : List Stmt) → IsBody name body → EndsTyped items (body_ended items call rows body)
    body_ends name call suits body is = out_ends name (ends_in_return body) (statements items rows (command_setting call) body [] most_turns)
        (runs_block items well rows typed (in_command name) (λ at. absurd (cc)) (command_setting call) suits longest (called items rows longest_chain) (keeps_called items well rows typed longest_chain)
        (finish items rows (command_setting call)) (command_lists name (command_setting call) suits) is.is_block (hold_all (statement_calls longest) body ∙ is.calls) [] tt most_turns)

    -- ---- the command that is called

    module _ (call : Call) (author : IsId call.author) (id : IsId call.id) where
      abbrev HasThis : Name → Type 0
      HasThis command = (v : Value) × ((command_setting call).this ≡ Some v) × IsOf items (ty.Struct command) v

      command_suits : (name : Name) (sections : List Section) → slice_get items call.command ≡ Some (item.Command name sections) → are_fields_of items call.fields (command_fields sections) ≡ true
          → Suits items (in_command name) (command_setting call)
      command_suits name sections at are = record {
        this = λ command is. subst HasThis (same_Some name command is) own;
        author = λ is. (call.author, refl, author);
        command_id = λ is. (call.id, refl, id);
        device = λ is. absurd (cc);
      }
        where
          named : struct_named items name ≡ Some (declared (command_fields sections))
          named = ap (option_and_then (λ i. option_map declared (written_fields i))) (item_of_name call.command (item.Command name sections) name at refl)

          stands : StructStands items name (declared (command_fields sections))
          stands = struct_standing items name (declared (command_fields sections)) named

          same : stands.number ≡ call.command
          same = same_Some stands.number call.command (sym stands.numbered ∙ number_of_item call.command (item.Command name sections) name at refl)

          own : HasThis name
          own = (
            value.Struct call.command call.fields,
            refl,
            subst (λ n. IsOf items (ty.Struct name) (value.Struct n call.fields)) same
                (struct_value_made items name (declared (command_fields sections)) stands call.fields (fields_are_of items (command_fields sections) call.fields are)),
          )

      policy_by : (name : Name) (sections : List Section) → Suits items (in_command name) (command_setting call) → AreSections items name sections → has_its_sections sections ≡ true
          → list_all (section_calls longest) sections ≡ true → (o : Option (List Stmt)) → policy_body sections ≡ o → EndsTyped items (policy_ended items call rows o)
      policy_by name sections suits are has calls (Some body) is = body_ends name call suits body (policy_is are calls body is)
      policy_by name sections suits are has calls None is = absurd (none has)
        where
          none : has_its_sections sections ≡ true → ⊥
          none has = and_then _ (stands_at_most_once is_attributes sections) has (λ a z. and_then _ (stands_at_most_once is_recall sections) a (λ b y.
              and_then _ (stands_once is_policy sections) b (λ c once. absurd (false≢true (sym (ap (λ n. n == 1) (no_policy sections is)) ∙ once)))))

      recall_by : (name : Name) (sections : List Section) → Suits items (in_command name) (command_setting call) → AreSections items name sections → list_all (section_calls longest) sections ≡ true
          → (o : Option (List Stmt)) → recall_body sections ≡ o → EndsTyped items (recall_ended items call rows o)
      recall_by name sections suits are calls (Some body) is = body_ends name call suits body (recall_is are calls body is)
      recall_by name sections suits are calls None is = (typed, refl)

      -- both blocks of a command
      abbrev Both : Option (List Section) → Type 0
      Both o = EndsTyped items (with_sections o (λ sections. policy_ended items call rows (policy_body sections)))
          × EndsTyped items (with_sections o (λ sections. recall_ended items call rows (recall_body sections)))

      by_kind : (name : Name) (sections : List Section) → slice_get items call.command ≡ Some (item.Command name sections) → are_fields_of items call.fields (command_fields sections) ≡ true
          → IsItem items (names_of (take call.command items)) (item.Command name sections) → IsOfKind items (item.Command name sections) → Both (Some sections)
      by_kind name sections at fields well_typed (item_rules.command has attributes are) =
          let suits = command_suits name sections at fields in
          (policy_by name sections suits are has well_typed.chains (policy_body sections) refl, recall_by name sections suits are well_typed.chains (recall_body sections) refl)

      by_item : (o : Option Item) → slice_get items call.command ≡ o → unwrap_or (option_map (is_command_of items call.fields) o) false ≡ true → Both (option_and_then sections_of o)
      by_item None at is = absurd (false≢true is)
      by_item (Some (item.Command name sections)) at is = let well_typed = well call.command (item.Command name sections) at in by_kind name sections at is well_typed well_typed.of_kind
      by_item (Some other) at is = absurd (false≢true is)

      pub both_end : holds_at items call.command (is_command_of items call.fields) ≡ true → Both (option_and_then sections_of (slice_get items call.command))
      both_end is = by_item (slice_get items call.command) refl is

module _ (policy : List PlacedItem) where
  well_ended : (ended : Ended) → EndsTyped (items_of policy) ended → EndsWell policy ended
  unfolding AreTyped AreEffectsOf
  well_ended (Passes rows effects) is = is
  well_ended (Checks recall) is = is
  well_ended (Faults kind) is = is
  well_ended Sticks is = is

  pub blocks_end_well : IsWellTyped policy → (call : Call) → IsCommandOf policy call.command call.fields → IsId call.author → IsId call.id → (rows : List Row) → AreTyped policy rows
      → EndsWell policy (policy_block policy call rows) × EndsWell policy (recall_block policy call rows)
  unfolding AreTyped IsCommandOf policy_block recall_block
  blocks_end_well well call is author id rows typed =
      let both = both_end (items_of policy) well rows typed call author id is in
      (well_ended (policy_block policy call rows) both.0, well_ended (recall_block policy call rows) both.1)
