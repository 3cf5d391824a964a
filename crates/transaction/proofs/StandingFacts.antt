-- What an action has made stands behind what is held: each merge and each command may follow, and the heads are known behind it.
use Rattle.std.proofs.Common.{◌≡◌, ℕ, zero, suc, ◌+◌, ◌<◌, ◌≤◌, ◌⊎◌, inl, inr, Bool, true, false, not, ◌&&◌, if◌then◌else◌, IsTrue, nat_lt, List, [], ◌∷◌, ◌++◌, length, Option, Some, None, Result, Ok, Err, refl, sym, ap, subst, ◌∙◌, arith, append_assoc, append-nil, length-append}
use Rattle.std.specs.List.{All, Contains}
use Rattle.std.specs.Str.{bytes_eq}
use Rattle.std.proofs.Math.Seq.{take-append_seam}
use Rattle.std.proofs.lemmas.Bool.{ltb-false}
use Rattle.std.proofs.lemmas.List.Elements.{All-contains, All-take, Contains-push}
use Rattle.braid_run.specs.Published.{ArePublished, IsBehindAll}
use Rattle.braid_run.specs.States.{HasOneInit, IsStanding}
use Rattle.braid_run.proofs.StandingFacts.{one_more}
use Rattle.command.specs.Closed.{IsHeld, has_id, max_commands}
use Rattle.command.specs.Kinds.{carried, is_finalize, is_init, is_merge, parents_of}
use Rattle.command.specs.Wire.{IsFormed, command_id}
use Rattle.command.specs.declared.command.Command.{Command}
use Rattle.command.specs.declared.command.Command.TheVariants as command
use Rattle.command.proofs.ClosedFacts.{by_left, by_right, either}
use Rattle.command.proofs.ListFacts.{at_head, behind_head, head_cases, none_element, one_element}
use Rattle.fact_store.specs.declared.row.Row.{Row}
use Rattle.policy_meaning.specs.Actions.{Brought}
use Rattle.policy_rules.specs.Commands.{CommandKind, Basic, Finalize, Init}
use Rattle.policy_rules.specs.Names.{Name}
use Rattle.transaction.specs.Acting.{Start, is_none}
use Rattle.transaction.specs.Applying.{graph_named}
use Rattle.transaction.specs.Drafts.{Basis, Draft, first_draft, with_id}
use Rattle.transaction.specs.Merging.{is_known, merge_two, merges, with_merge}
use Rattle.transaction.specs.Publishing.{added_commands, declared_at, has_head, is_full, is_misplaced, new_command, parent_of, payload_of, with_command}
use Rattle.transaction.specs.declared.fault.ActFault.{ActFault}
use Rattle.transaction.specs.declared.fault.ActFault.TheVariants as fault
use Rattle.transaction.proofs.HeadFacts.{HasHeads, first_heads, heads_behind, heads_merged, none_held}
use Rattle.transaction.proofs.Tells.{IsTaken, longer_by_one, merges_keep, opening_tells, placed_still, the_command}

-- ---- the graph's id

-- a graph without an id holds nothing
no_commands : (cs : List Command) → HasOneInit None cs → cs ≡ []
no_commands [] has = refl
no_commands (c ∷ cs) has = let none : None ≡ Some (command_id c) = has.1 in absurd cc

-- so it stands under every id
renamed : (id : Option (List ℕ)) (cs : List Command) → IsStanding None cs → IsStanding id cs
renamed id cs standing =
    record { closed = standing.closed; few = standing.few; one_init = subst (HasOneInit id) (sym (no_commands cs standing.one_init)) tt; in_line = standing.in_line }

pub named_standing : (graph_id : Option (List ℕ)) (cs made : List Command) → IsStanding graph_id cs → IsStanding (graph_named graph_id made) cs
named_standing (Some id) cs made standing = standing
named_standing None cs made standing = renamed (graph_named None made) cs standing

named_more : (graph_id : Option (List ℕ)) (held cs : List Command) (c : Command) → IsStanding (graph_named graph_id cs) (held ++ cs) → IsStanding (graph_named graph_id (cs ++ c ∷ [])) (held ++ cs)
named_more (Some id) held cs c standing = standing
named_more None held (x ∷ cs) c standing = standing
named_more None held [] c standing = renamed (Some (command_id c)) (held ++ []) standing

both_empty : (xs ys : List Command) → xs ++ ys ≡ [] → (xs ≡ []) × (ys ≡ [])
both_empty [] ys is = (refl, is)
both_empty (x ∷ xs) ys is = absurd cc

-- ---- small facts

pub all_left : (cs more : List Command) → All IsFormed (cs ++ more) → All IsFormed cs
all_left cs more all = subst (All IsFormed) (take-append_seam cs more) (All-take IsFormed (length cs) (cs ++ more) all)

pub last_formed : (cs : List Command) (c : Command) → All IsFormed (cs ++ c ∷ []) → IsFormed c
last_formed cs c all = All-contains IsFormed (cs ++ c ∷ []) c all (Contains-push cs c)

known_by : (held made : List Command) (id : List ℕ) → IsHeld (held ++ made) id → IsTrue (is_known held made id)
known_by [] made id h = by_right false (has_id made id) h
known_by (c ∷ held) made id h =
    elim (either (bytes_eq id (command_id c)) (has_id (held ++ made) id) h) [
      | inl own ↦ by_left (has_id (c ∷ held) id) (has_id made id) (by_left (bytes_eq id (command_id c)) (has_id held id) own)
      | inr later ↦
          elim (either (has_id held id) (has_id made id) (known_by held made id later)) [
            | inl here ↦ by_left (has_id (c ∷ held) id) (has_id made id) (by_right (bytes_eq id (command_id c)) (has_id held id) here)
            | inr new ↦ by_right (has_id (c ∷ held) id) (has_id made id) new
          ]
    ]

not_both : (b : Bool) → b ≡ false → IsTrue b → ⊥
not_both b is_false is_true = let both : false ≡ true = sym is_false ∙ is_true in absurd cc

added_most : (ids : List (List ℕ)) (k : ℕ) → length ids ≤ suc k → added_commands ids ≤ suc k
added_most [] k most = omega arith
added_most (id ∷ ids) k most = most

adds_some : (ids : List (List ℕ)) → 0 < added_commands ids
adds_some [] = omega arith
adds_some (id ∷ ids) = omega arith

within : (n : ℕ) → nat_lt max_commands n ≡ false → n ≤ max_commands
within n is = ltb-false max_commands n is

finalize_is_no_merge : (c : Command) → is_finalize c ≡ true → is_merge c ≡ true → ⊥
finalize_is_no_merge (command.Init cut digest author name payload tag) is merge = absurd cc
finalize_is_no_merge (command.Basic cut priority parent author name payload tag) is merge = absurd cc
finalize_is_no_merge (command.Finalize cut parent author name payload tag) is merge = absurd cc
finalize_is_no_merge (command.Merge cut left right) is merge = absurd cc

published_more : (held cs : List Command) (c : Command) → ArePublished held cs → (is_merge c ≡ true) ⊎ IsBehindAll (held ++ cs) c → ArePublished held (cs ++ c ∷ [])
published_more held [] c are last = (subst (λ l. (is_merge c ≡ true) ⊎ IsBehindAll l c) (append-nil held) last, tt)
published_more held (x ∷ cs) c are last =
    (are.0, published_more (held ++ x ∷ []) cs c are.1 (subst (λ l. (is_merge c ≡ true) ⊎ IsBehindAll l c) (sym (append_assoc held (x ∷ []) cs)) last))

-- a command whose parents are all heads stands behind all
pub behind_heads : (cs : List Command) (ids : List (List ℕ)) (c : Command) → HasHeads cs ids → ((id : List ℕ) → Contains ids id → Contains (parents_of c) id) → IsBehindAll cs c
behind_heads cs ids c has links x inside = let u = has.under x inside in (u.0, u.1, links (command_id u.0) u.2, u.3)

-- ---- one command more

-- what was made stands behind what is held, its heads are known, and it is published
pub record Stands (graph_id : Option (List ℕ)) (held : List Command) (draft : Draft) : Type 0 where
  pub standing : IsStanding (graph_named graph_id draft.commands) (held ++ draft.commands)
  pub heads : HasHeads (held ++ draft.commands) draft.heads
  pub published : ArePublished held draft.commands

-- a command that goes on from heads: its parents are heads, and all of them are, unless it is a merge
pub record Follows (heads : List (List ℕ)) (c : Command) : Type 0 where
  pub parents : (id : List ℕ) → Contains (parents_of c) id → Contains heads id
  pub init : is_init c ≡ true → heads ≡ []
  pub last : (is_merge c ≡ true) ⊎ ((id : List ℕ) → Contains heads id → Contains (parents_of c) id)
  pub uncut : carried c ≡ None

module _ (graph_id : Option (List ℕ)) (held : List Command) (unnamed : held ≡ [] → graph_id ≡ None) where
  first_named : (cs : List Command) (c : Command) → held ++ cs ≡ [] → graph_named graph_id (cs ++ c ∷ []) ≡ Some (command_id c)
  first_named cs c empty =
      let both = both_empty held cs empty in ap (λ l. graph_named graph_id (l ++ c ∷ [])) both.1 ∙ ap (λ g. graph_named g (c ∷ [])) (unnamed both.0)

  module _ (draft : Draft) (c : Command) (stands : Stands graph_id held draft) (follows : Follows draft.heads c) where
    last_behind : (is_merge c ≡ true) ⊎ IsBehindAll (held ++ draft.commands) c
    last_behind = elim follows.last [ inl merge ↦ inl merge | inr links ↦ inr (behind_heads (held ++ draft.commands) draft.heads c stands.heads links) ]

    finalize_behind : is_finalize c ≡ true → IsBehindAll (held ++ draft.commands) c
    finalize_behind is = elim last_behind [ inl merge ↦ absurd (finalize_is_no_merge c is merge) | inr behind ↦ behind ]

    pub published_by : ArePublished held (draft.commands ++ c ∷ [])
    published_by = published_more held draft.commands c stands.published last_behind

    empty_before : is_init c ≡ true → held ++ draft.commands ≡ []
    empty_before init = none_held (held ++ draft.commands) (subst (HasHeads (held ++ draft.commands)) (follows.init init) stands.heads)

    pub standing_by : IsFormed c → is_known held draft.commands (command_id c) ≡ false → length held + length draft.commands < max_commands
        → IsStanding (graph_named graph_id (draft.commands ++ c ∷ [])) (held ++ (draft.commands ++ c ∷ []))
    standing_by formed fresh few =
        subst (IsStanding (graph_named graph_id (draft.commands ++ c ∷ []))) (append_assoc held draft.commands (c ∷ []))
        (one_more (graph_named graph_id (draft.commands ++ c ∷ [])) (held ++ draft.commands) c (named_more graph_id held draft.commands c stands.standing)
        (record {
          next = record {
            formed = formed;
            fresh = λ h. not_both (is_known held draft.commands (command_id c)) fresh (known_by held draft.commands (command_id c) h);
            held = λ parent link. stands.heads.held parent (follows.parents parent link);
            cut = λ stated is. let both : None ≡ Some stated = sym follows.uncut ∙ is in absurd cc;
          };
          few = let sizes = length-append held draft.commands in omega (arith, sizes, few);
          init = λ init. (empty_before init, first_named draft.commands c (empty_before init));
          in_line = λ is f inside final. finalize_behind is f inside;
        }))

  -- ---- the merges

  pub record Joins (draft : Draft) : Type 0 where
    pub stands : All IsFormed draft.commands → Stands graph_id held draft
    pub room : length held + length draft.commands + added_commands draft.heads ≤ max_commands

  pub first_room : (old : Draft) → is_full held old ≡ false → length held + length old.commands + added_commands old.heads ≤ max_commands
  first_room old room = within (length held + length old.commands + added_commands old.heads) room

  merge_follows : (heads : List (List ℕ)) (left right : List ℕ) (others : List (List ℕ)) → heads ≡ left ∷ right ∷ others → Follows heads (command.Merge None left right)
  merge_follows heads left right others two = record {
    parents = λ id link. subst (λ l. Contains l id) (sym two) (shorter id link);
    init = λ init. absurd cc;
    last = inl refl;
    uncut = refl;
  }
    where
      shorter : (id : List ℕ) → Contains (left ∷ right ∷ []) id → Contains (left ∷ right ∷ others) id
      shorter id link =
          elim (head_cases left (right ∷ []) id link) [
            | inl same ↦ subst (λ z. Contains (left ∷ right ∷ others) z) same (at_head left (right ∷ others))
            | inr later ↦
                behind_head left (right ∷ others) id (subst (λ z. Contains (right ∷ others) z) (one_element right id later) (at_head right others))
          ]

  pub merge_joins : (draft : Draft) (left right : List ℕ) (others : List (List ℕ)) → draft.heads ≡ left ∷ right ∷ others → is_known held draft.commands (command_id (command.Merge None left right)) ≡ false → Joins draft
      → Joins (with_merge draft others (command.Merge None left right))
  merge_joins draft left right others two fresh joins = record {
    stands = λ formed.
        let stands = joins.stands (all_left draft.commands (command.Merge None left right ∷ []) formed) in
        let follows = merge_follows draft.heads left right others two in
        record {
          standing = standing_by draft (command.Merge None left right) stands follows (last_formed draft.commands (command.Merge None left right) formed) fresh (omega (arith, adds, joins.room));
          heads =
              subst (λ l. HasHeads l (with_id others (command_id (command.Merge None left right)))) (append_assoc held draft.commands (command.Merge None left right ∷ []))
              (heads_merged (held ++ draft.commands) left right others (subst (HasHeads (held ++ draft.commands)) two stands.heads));
          published = published_by draft (command.Merge None left right) stands follows;
        };
    room =
        let sizes = length-append draft.commands (command.Merge None left right ∷ []) in
        let most = added_most (with_id others (command_id (command.Merge None left right))) (length others) (longer_by_one others (command_id (command.Merge None left right))) in
        omega (arith, adds, sizes, most, joins.room);
  }
    where
      adds : added_commands draft.heads ≡ suc (suc (length others))
      adds = ap added_commands two

-- ---- one publish

module _ (held : List Command) (n : ℕ) (draft joined : Draft) (more : (next : Draft) → length next.heads ≤ suc n → merges held n next ≡ Ok joined → length joined.heads ≤ 1)
    (most : length draft.heads ≤ suc (suc n)) where
  same_end : length draft.heads ≤ 1 → (r : Result Draft (List ℕ)) → r ≡ Ok draft → r ≡ Ok joined → length joined.heads ≤ 1
  same_end few r is goes = let same : draft ≡ joined = cc in subst (λ d. length d.heads ≤ 1) same few

  known_end : (left right : List ℕ) (others : List (List ℕ)) → draft.heads ≡ left ∷ right ∷ others → (k : Bool)
      → (if k then Err (command_id (command.Merge None left right)) else merges held n (with_merge draft others (command.Merge None left right))) ≡ Ok joined → length joined.heads ≤ 1
  known_end left right others two true goes = absurd cc
  known_end left right others two false goes =
      let sizes : length draft.heads ≡ suc (suc (length others)) = ap length two in
      let longer = longer_by_one others (command_id (command.Merge None left right)) in
      more (with_merge draft others (command.Merge None left right)) (omega (arith, sizes, longer, most)) goes

  heads_end : (heads : List (List ℕ)) → draft.heads ≡ heads → merge_two held draft heads (merges held n) ≡ Ok joined → length joined.heads ≤ 1
  heads_end [] are goes = let size : length draft.heads ≡ 0 = ap length are in same_end (omega (arith, size)) (Ok draft) refl goes
  heads_end (id ∷ []) are goes = let size : length draft.heads ≡ 1 = ap length are in same_end (omega (arith, size)) (Ok draft) refl goes
  heads_end (left ∷ right ∷ others) are goes = known_end left right others are (is_known held draft.commands (command_id (command.Merge None left right))) goes

-- merging ends with one head at most
merges_end : (held : List Command) (n : ℕ) (draft joined : Draft) → length draft.heads ≤ suc n → merges held n draft ≡ Ok joined → length joined.heads ≤ 1
merges_end held zero draft joined most is = let same : draft ≡ joined = cc in subst (λ d. length d.heads ≤ 1) same most
merges_end held (suc n) draft joined most is = heads_end held n draft joined (λ next few goes. merges_end held n next joined few goes) most draft.heads refl is

new_follows : (digest author : List ℕ) (heads : List (List ℕ)) (kind : CommandKind) (name : Name) (payload tag : List ℕ) → is_misplaced kind (has_head heads) ≡ false → length heads ≤ 1
    → Follows heads (new_command digest author (parent_of heads) kind name payload tag)
new_follows digest author [] Init name payload tag placed few = record { parents = λ id link. link; init = λ init. refl; last = inr (λ id link. link); uncut = refl }
new_follows digest author [] (Basic priority) name payload tag placed few = absurd cc
new_follows digest author [] Finalize name payload tag placed few = absurd cc
new_follows digest author (x ∷ []) Init name payload tag placed few = absurd cc
new_follows digest author (x ∷ []) (Basic priority) name payload tag placed few = record { parents = λ id link. link; init = λ init. absurd cc; last = inr (λ id link. link); uncut = refl }
new_follows digest author (x ∷ []) Finalize name payload tag placed few = record { parents = λ id link. link; init = λ init. absurd cc; last = inr (λ id link. link); uncut = refl }
new_follows digest author (x ∷ y ∷ more) kind name payload tag placed few = absurd (omega (arith, few))

new_is_plain : (digest author parent : List ℕ) (kind : CommandKind) (name : Name) (payload tag : List ℕ) → is_merge (new_command digest author parent kind name payload tag) ≡ false
new_is_plain digest author parent Init name payload tag = refl
new_is_plain digest author parent (Basic priority) name payload tag = refl
new_is_plain digest author parent Finalize name payload tag = refl

-- a plain command has all heads as parents
pub plain_links : (heads : List (List ℕ)) (c : Command) → is_merge c ≡ false → (is_merge c ≡ true) ⊎ ((id : List ℕ) → Contains heads id → Contains (parents_of c) id) → (id : List ℕ) → Contains heads id
    → Contains (parents_of c) id
plain_links heads c plain (inl merge) = let both : true ≡ false = sym merge ∙ plain in absurd cc
plain_links heads c plain (inr all) = all

-- the heads that a plain command leaves: itself
heads_follow : (cs : List Command) (heads : List (List ℕ)) (c : Command) → HasHeads cs heads → Follows heads c → is_merge c ≡ false → HasHeads (cs ++ c ∷ []) (command_id c ∷ [])
heads_follow cs heads c has follows plain =
    heads_behind cs c heads [] has (λ id inside. inl (plain_links heads c plain follows.last id inside)) (λ id none. absurd (none_element id none))

module _ (basis : Basis) (graph_id : Option (List ℕ)) (unnamed : basis.held ≡ [] → graph_id ≡ None) where
  module _ (old : Draft) (rows : List Row) (b : Brought) (tag : Option (List ℕ)) (draft : Draft) (after : List Row) (t : IsTaken basis old rows b tag draft after)
      (before : All IsFormed old.commands → Stands graph_id basis.held old) where
    pub joins : Joins graph_id basis.held unnamed t.joined
    joins =
        let it = opening_tells basis.held old t.joined (declared_at basis.policy b.command) t.opens in
        merges_keep basis.held (Joins graph_id basis.held unnamed) (merge_joins graph_id basis.held unnamed) (length old.heads) old t.joined it.merged
        (record { stands = before; room = first_room graph_id basis.held unnamed old it.room })

    pub follows : Follows t.joined.heads (the_command basis old rows b tag t.joined t.the_tag)
    follows =
        let declared = declared_at basis.policy b.command in
        let it = opening_tells basis.held old t.joined declared t.opens in
        new_follows basis.digest basis.author t.joined.heads declared.kind declared.name (payload_of b) t.the_tag (placed_still basis.held old t.joined declared t.opens)
        (merges_end basis.held (length old.heads) old t.joined (omega arith) it.merged)

    pub is_plain : is_merge (the_command basis old rows b tag t.joined t.the_tag) ≡ false
    is_plain = new_is_plain basis.digest basis.author (parent_of t.joined.heads) (declared_at basis.policy b.command).kind (declared_at basis.policy b.command).name (payload_of b) t.the_tag

    -- the command stands behind all
    pub taken_behind : All IsFormed t.joined.commands → IsBehindAll (basis.held ++ t.joined.commands) (the_command basis old rows b tag t.joined t.the_tag)
    taken_behind formed =
        behind_heads (basis.held ++ t.joined.commands) t.joined.heads (the_command basis old rows b tag t.joined t.the_tag) (joins.stands formed).heads
        (plain_links t.joined.heads (the_command basis old rows b tag t.joined t.the_tag) is_plain follows.last)

    pub command_stands : All IsFormed (t.joined.commands ++ the_command basis old rows b tag t.joined t.the_tag ∷ [])
        → Stands graph_id basis.held (with_command t.joined (the_command basis old rows b tag t.joined t.the_tag) t.effects)
    command_stands formed =
        let c = the_command basis old rows b tag t.joined t.the_tag in
        let stands = joins.stands (all_left t.joined.commands (c ∷ []) formed) in
        let some = adds_some t.joined.heads in
        let room = joins.room in
        record {
          standing = standing_by graph_id basis.held unnamed t.joined c stands follows (last_formed t.joined.commands c formed) t.fresh (omega (arith, some, room));
          heads = subst (λ l. HasHeads l (command_id c ∷ [])) (append_assoc basis.held t.joined.commands (c ∷ [])) (heads_follow (basis.held ++ t.joined.commands) t.joined.heads c stands.heads follows is_plain);
          published = published_by graph_id basis.held unnamed t.joined c stands follows;
        }

  pub first_stands : IsStanding graph_id basis.held → Stands graph_id basis.held (first_draft basis.held)
  first_stands standing = record {
    standing = subst (IsStanding (graph_named graph_id [])) (sym (append-nil basis.held)) (named_standing graph_id basis.held [] standing);
    heads = subst (λ l. HasHeads l (first_draft basis.held).heads) (sym (append-nil basis.held)) (first_heads basis.held standing.closed);
    published = tt;
  }

-- ---- an action

pub begun : (first : Bool) (held : List Command) (r : Result Start ActFault) (start : Start) → (if not first && is_none held then Err fault.NoGraph else r) ≡ Ok start → held ≡ [] → first ≡ true
begun true held r start is empty = refl
begun false [] r start is empty = absurd cc
begun false (c ∷ held) r start is empty = absurd cc
