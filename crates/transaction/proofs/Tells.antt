-- What a publish tells whose command is taken.
use Rattle.std.proofs.Common.{◌≡◌, ℕ, zero, suc, ◌≤◌, Bool, true, false, if◌then◌else◌, nat_lt, List, [], ◌∷◌, length, Option, Some, None, Result, Ok, Err, refl, sym, ap, subst, ◌∙◌, arith}
use Rattle.std.specs.Cmp.Lexicographic.{slice_cmp}
use Rattle.std.specs.Ordering.{match_ordering, nat_cmp}
use Rattle.std.specs.declared.cmp.Ordering.{Ordering}
use Rattle.std.specs.declared.cmp.Ordering.TheVariants.{Less, Equal, Greater}
use Rattle.command.specs.Wire.{command_id}
use Rattle.command.specs.declared.command.Command.{Command}
use Rattle.command.specs.declared.command.Command.TheVariants as command
use Rattle.fact_store.specs.declared.row.Row.{Row}
use Rattle.policy_meaning.specs.Actions.{Brought}
use Rattle.policy_meaning.specs.Applying.{Ended, Passes, Checks, Faults, Sticks}
use Rattle.policy_meaning.specs.Blocks.{policy_block}
use Rattle.policy_meaning.specs.declared.effect.Effect.{Effect}
use Rattle.transaction.specs.Drafts.{Draft, Basis, with_id}
use Rattle.transaction.specs.Merging.{is_known, merge_two, merges, with_merge}
use Rattle.transaction.specs.Publishing.{Publication, IsTooLong, Refuses, Takes, behind_opening, call_with, command_of, Declared, declared_at, has_head, is_full, is_misplaced, judged, opened, or_collision, payload_of, published, sealed, with_command}
use Rattle.transaction.specs.declared.fault.ActFault.{ActFault}
use Rattle.transaction.specs.working.Steps.{Opens}

-- a statement on a publication that takes
abbrev pub IfTakes : (Draft → List Row → Type 0) → Publication → Type 0
IfTakes T (Takes draft rows) = T draft rows
IfTakes T other = Unit {0}

module _ (basis : Basis) (old : Draft) (rows : List Row) (b : Brought) (tag : Option (List ℕ)) where
  abbrev pub the_command : Draft → List ℕ → Command
  the_command joined t = command_of basis joined.heads b t

  pub record IsTaken (draft : Draft) (after : List Row) : Type 0 where
    pub joined : Draft
    pub the_tag : List ℕ
    pub effects : List Effect
    pub small : nat_lt 4096 (length (payload_of b)) ≡ false
    pub opens : opened basis.held old (declared_at basis.policy b.command) ≡ Ok joined
    pub tagged : tag ≡ Some the_tag
    pub fresh : is_known basis.held joined.commands (command_id (the_command joined the_tag)) ≡ false
    pub passes : policy_block basis.policy (call_with basis.author b (command_id (the_command joined the_tag))) rows ≡ Passes after effects
    pub is : draft ≡ with_command joined (the_command joined the_tag) effects

  by_block : (joined : Draft) (t : List ℕ) → nat_lt 4096 (length (payload_of b)) ≡ false → opened basis.held old (declared_at basis.policy b.command) ≡ Ok joined → tag ≡ Some t
      → is_known basis.held joined.commands (command_id (the_command joined t)) ≡ false → (e : Ended) → policy_block basis.policy (call_with basis.author b (command_id (the_command joined t))) rows ≡ e
      → IfTakes IsTaken (judged joined (the_command joined t) (declared_at basis.policy b.command).name e)
  by_block joined t small opens tagged fresh (Passes after effects) is =
      record { joined = joined; the_tag = t; effects = effects; small = small; opens = opens; tagged = tagged; fresh = fresh; passes = is; is = refl }
  by_block joined t small opens tagged fresh (Checks recall) is = tt
  by_block joined t small opens tagged fresh (Faults kind) is = tt
  by_block joined t small opens tagged fresh Sticks is = tt

  by_known : (joined : Draft) (t : List ℕ) → nat_lt 4096 (length (payload_of b)) ≡ false → opened basis.held old (declared_at basis.policy b.command) ≡ Ok joined → tag ≡ Some t → (k : Bool)
      → is_known basis.held joined.commands (command_id (the_command joined t)) ≡ k
      → IfTakes IsTaken (if k then Refuses (Rattle.transaction.specs.declared.fault.ActFault.TheVariants.Collision (command_id (the_command joined t))) 0
      else judged joined (the_command joined t) (declared_at basis.policy b.command).name (policy_block basis.policy (call_with basis.author b (command_id (the_command joined t))) rows))
  by_known joined t small opens tagged true is = tt
  by_known joined t small opens tagged false is = by_block joined t small opens tagged is _ refl

  by_tag : (joined : Draft) → nat_lt 4096 (length (payload_of b)) ≡ false → opened basis.held old (declared_at basis.policy b.command) ≡ Ok joined → (o : Option (List ℕ)) → tag ≡ o
      → IfTakes IsTaken (sealed basis joined rows b o)
  by_tag joined small opens None is = tt
  by_tag joined small opens (Some t) is = by_known joined t small opens is _ refl

  by_opening : nat_lt 4096 (length (payload_of b)) ≡ false → (r : Result Draft ActFault) → opened basis.held old (declared_at basis.policy b.command) ≡ r
      → IfTakes IsTaken (behind_opening basis r rows b tag)
  by_opening small (Err why) is = tt
  by_opening small (Ok joined) is = by_tag joined small is tag refl

  pub tells : IfTakes IsTaken (published basis old rows b tag)
  tells = by (nat_lt 4096 (length (payload_of b))) refl
    where
      by : (s : Bool) → nat_lt 4096 (length (payload_of b)) ≡ s
          → IfTakes IsTaken (if s then IsTooLong else behind_opening basis (opened basis.held old (declared_at basis.policy b.command)) rows b tag)
      by true is = tt
      by false is = by_opening is _ refl

-- ---- what an opening tells

pub record IsOpened (held : List Command) (old : Draft) (misplaced : Bool) (joined : Draft) : Type 0 where
  pub placed : misplaced ≡ false
  pub room : is_full held old ≡ false
  pub merged : merges held (length old.heads) old ≡ Ok joined

opened_by : (held : List Command) (old joined : Draft) (why others : ActFault) (m f : Bool) (r : Result Draft (List ℕ)) → is_full held old ≡ f → merges held (length old.heads) old ≡ r
    → (if m then Err why else if f then Err others else or_collision r) ≡ Ok joined → IsOpened held old m joined
opened_by held old joined why others true f r full is opens = absurd cc
opened_by held old joined why others false true r full is opens = absurd cc
opened_by held old joined why others false false (Err id) full is opens = absurd cc
opened_by held old joined why others false false (Ok draft) full is opens =
    let inner : draft ≡ joined = cc in record { placed = refl; room = full; merged = is ∙ ap Ok inner }

pub opening_tells : (held : List Command) (old joined : Draft) (declared : Declared) → opened held old declared ≡ Ok joined → IsOpened held old (is_misplaced declared.kind (has_head old.heads)) joined
opening_tells held old joined declared opens = opened_by held old joined _ _ _ _ _ refl refl opens

-- ---- what the merges of an opening keep

-- one more id at its place
pub longer_by_one : (ids : List (List ℕ)) (id : List ℕ) → length (with_id ids id) ≤ suc (length ids)
longer_by_one [] id = omega arith
longer_by_one (x ∷ ids) id = by (slice_cmp nat_cmp id x) (longer_by_one ids id)
  where
    by : (o : Ordering) → length (with_id ids id) ≤ suc (length ids) → length (match_ordering o (id ∷ x ∷ ids) (x ∷ ids) (x ∷ with_id ids id)) ≤ suc (suc (length ids))
    by Less rest = omega arith
    by Equal rest = omega arith
    by Greater rest = omega (arith, rest)

module _ (held : List Command) (P : Draft → Type 0)
    (step : (draft : Draft) (left right : List ℕ) (others : List (List ℕ)) → draft.heads ≡ left ∷ right ∷ others → is_known held draft.commands (command_id (command.Merge None left right)) ≡ false → P draft
    → P (with_merge draft others (command.Merge None left right))) where
  same_draft : (a b : Draft) (r : Result Draft (List ℕ)) → r ≡ Ok a → r ≡ Ok b → P a → P b
  same_draft a b r one other holds = let inner : a ≡ b = cc in subst P inner holds

  module _ (n : ℕ) (draft joined : Draft) (more : (next : Draft) → merges held n next ≡ Ok joined → P next → P joined) (holds : P draft) where
    known_then : (left right : List ℕ) (others : List (List ℕ)) → draft.heads ≡ left ∷ right ∷ others → (k : Bool) → is_known held draft.commands (command_id (command.Merge None left right)) ≡ k
        → (if k then Err (command_id (command.Merge None left right)) else merges held n (with_merge draft others (command.Merge None left right))) ≡ Ok joined → P joined
    known_then left right others two true known goes = absurd cc
    known_then left right others two false known goes = more (with_merge draft others (command.Merge None left right)) goes (step draft left right others two known holds)

    heads_then : (heads : List (List ℕ)) → draft.heads ≡ heads → merge_two held draft heads (merges held n) ≡ Ok joined → P joined
    heads_then [] two goes = same_draft draft joined (Ok draft) refl goes holds
    heads_then (left ∷ []) two goes = same_draft draft joined (Ok draft) refl goes holds
    heads_then (left ∷ right ∷ others) two goes = known_then left right others two _ refl goes

  -- what each merge keeps holds behind them all
  pub merges_keep : (n : ℕ) (draft joined : Draft) → merges held n draft ≡ Ok joined → P draft → P joined
  merges_keep zero draft joined is holds = same_draft draft joined (Ok draft) refl is holds
  merges_keep (suc n) draft joined is holds = heads_then n draft joined (λ next goes kept. merges_keep n next joined goes kept) holds draft.heads refl is

has_one_more : (ids : List (List ℕ)) (id : List ℕ) → has_head (with_id ids id) ≡ true
has_one_more [] id = refl
has_one_more (x ∷ ids) id = by (slice_cmp nat_cmp id x)
  where
    by : (o : Ordering) → has_head (match_ordering o (id ∷ x ∷ ids) (x ∷ ids) (x ∷ with_id ids id)) ≡ true
    by Less = refl
    by Equal = refl
    by Greater = refl

-- merging leaves a head where there was one, and none where there was none
pub still_headed : (held : List Command) (n : ℕ) (old joined : Draft) → merges held n old ≡ Ok joined → has_head joined.heads ≡ has_head old.heads
still_headed held n old joined is =
    merges_keep held (λ d. has_head d.heads ≡ has_head old.heads)
    (λ draft left right others two known same. has_one_more others (command_id (command.Merge None left right)) ∙ sym (ap has_head two) ∙ same) n old joined is refl

pub placed_still : (held : List Command) (old joined : Draft) (declared : Declared) → opened held old declared ≡ Ok joined → is_misplaced declared.kind (has_head joined.heads) ≡ false
placed_still held old joined declared opens =
    let it = opening_tells held old joined declared opens in
    ap (is_misplaced declared.kind) (still_headed held (length old.heads) old joined it.merged) ∙ it.placed

pub opens_is : (r : Result Draft ActFault) (new : Draft) → Opens r None new → r ≡ Ok new
opens_is (Ok draft) new is = ap Ok (sym is)
opens_is (Err why) new is = absurd is

pub refused_is : (r : Result Draft ActFault) (why : ActFault) (new : Draft) → Opens r (Some why) new → r ≡ Err why
refused_is (Ok draft) why new is = absurd is
refused_is (Err told) why new is = ap Err (sym is)
