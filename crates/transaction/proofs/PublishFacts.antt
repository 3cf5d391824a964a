-- What the steps of a publish come to.
use Rattle.std.proofs.Common.{◌≡◌, ℕ, ◌+◌, ◌<◌, ◌≤◌, Bool, true, false, if◌then◌else◌, IsTrue, nat_lt, List, [], length, Option, Some, None, Result, Ok, Err, refl, sym, ap, subst, ◌∙◌, arith}
use Rattle.std.specs.Prelude.{IfOk, IfSome}
use Rattle.std.proofs.lemmas.Bool.{lt-ltb, ltb-true}
use Rattle.base_bytes.specs.Payload.{spelling}
use Rattle.base_bytes.specs.declared.no_memory.NoMemory.{NoMemory}
use Rattle.base_bytes.specs.declared.value.Value.{Value}
use Rattle.base_bytes.specs.declared.value.Value.TheVariants as value
use Rattle.command.specs.Wire.{body, command_id}
use Rattle.command.specs.declared.command.Command.{Command}
use Rattle.fact_store.specs.declared.row.Row.{Row}
use Rattle.policy_meaning.specs.Actions.{Brought}
use Rattle.policy_meaning.specs.Applying.{Ended, Passes, Checks, Faults, Sticks}
use Rattle.policy_meaning.specs.Desks.{Publishes}
use Rattle.policy_meaning.specs.Typed.{IsCommandOf}
use Rattle.policy_meaning.specs.declared.ends.Posted.{Posted}
use Rattle.policy_meaning.specs.declared.ends.Posted.TheVariants as posted
use Rattle.policy_rules.specs.Commands.{CommandKind}
use Rattle.policy_rules.specs.Names.{Name}
use Rattle.transaction.specs.Drafts.{Basis, Draft}
use Rattle.transaction.specs.Publishing.{IsTooLong, Refuses, behind_opening, checked, command_of, declared_at, judged, new_command, opened, parent_of, payload_of, published}
use Rattle.transaction.specs.Seals.{IsPublish, IsSealOf, Leaves}
use Rattle.transaction.specs.declared.fault.ActFault.{ActFault}
use Rattle.transaction.specs.declared.fault.ActFault.TheVariants as fault
use Rattle.transaction.specs.working.Sealing.{Ends, EndsSealed, IsSealed}

no_seal : (basis : Basis) (r : Result Draft ActFault) (b : Brought) → IsSealOf basis r b None
no_seal basis (Err why) b = tt
no_seal basis (Ok draft) b = tt

-- tests of sizes
is_less : (a b : ℕ) → a < b → nat_lt a b ≡ true
is_less a b less = lt-ltb a b less

not_less : (a b : ℕ) → b ≤ a → nat_lt a b ≡ false
not_less a b most = by (nat_lt a b) refl
  where
    by : (t : Bool) → nat_lt a b ≡ t → t ≡ false
    by true is = let less = ltb-true a b is in absurd (omega (arith, less, most))
    by false is = refl

plus_none : (n : ℕ) → n ≡ n + 0
plus_none n = omega arith

-- behind an opening nothing is too long, so the draft before doesn't matter
module _ (basis : Basis) (mid : Draft) (rows : List Row) (b : Brought) (old other : Draft) (answer : Posted) (after : List Row) (ticks : ℕ) (new : Draft) where
  block_leaves : (c : Command) (name : Name) (e : Ended) → Leaves (judged mid c name e) other rows answer after ticks new → Leaves (judged mid c name e) old rows answer after ticks new
  block_leaves c name (Passes last effects) is = is
  block_leaves c name (Checks recall) is = is
  block_leaves c name (Faults kind) is = is
  block_leaves c name Sticks is = is

  known_leaves : (k : Bool) (c : Command) (name : Name) (e : Ended) → Leaves (if k then Refuses (fault.Collision (command_id c)) 0 else judged mid c name e) other rows answer after ticks new
      → Leaves (if k then Refuses (fault.Collision (command_id c)) 0 else judged mid c name e) old rows answer after ticks new
  known_leaves true c name e is = is
  known_leaves false c name e is = block_leaves c name e is

  behind_leaves : (tag : Option (List ℕ)) → Leaves (behind_opening basis (Ok mid) rows b tag) other rows answer after ticks new → Leaves (behind_opening basis (Ok mid) rows b tag) old rows answer after ticks new
  behind_leaves None is = is
  behind_leaves (Some tag) is = known_leaves _ _ _ _ is

-- a sealed command that was checked
module _ (basis : Basis) (draft : Draft) (rows : List Row) (b : Brought) (name : Name) (kind : CommandKind) (payload : List ℕ)
    (declared : declared_at basis.policy b.command ≡ record { name = name; kind = kind }) (spelled : payload ≡ payload_of b) where
  made_with : (tag : List ℕ) → command_of basis draft.heads b tag ≡ new_command basis.digest basis.author (parent_of draft.heads) kind name payload tag
  made_with tag =
      ap (λ d. new_command basis.digest basis.author (parent_of draft.heads) d.kind d.name (payload_of b) tag) declared
      ∙ ap (λ p. new_command basis.digest basis.author (parent_of draft.heads) kind name p tag) (sym spelled)

  module _ (after : List Row) (before now : ℕ) (new : Draft) (first last : ℕ) (c : Command) where
    one_sealed : (answer : Posted) → IsSealed basis.good basis.told basis.author (new_command basis.digest basis.author (parent_of draft.heads) kind name payload) (Some c) first last
        → Ends (checked basis.policy basis.author basis.held draft rows b c) draft rows answer after before now new → EndsSealed basis (Ok draft) b draft rows answer after before now new
    one_sealed answer seal ends = record {
      tag = Some seal.0;
      seal = (
        subst (λ m. IsTrue (basis.good basis.author (body m) seal.0)) (sym (made_with [])) seal.2,
        subst (λ m. IfSome basis.told (λ made. seal.0 ≡ made basis.author (body m))) (sym (made_with [])) seal.3,
      );
      ends = subst (λ m. Ends (checked basis.policy basis.author basis.held draft rows b m) draft rows answer after before now new) (seal.1 ∙ sym (made_with seal.0)) ends;
    }

    pub all_sealed : (made : Option Command) → made ≡ Some c → IsSealed basis.good basis.told basis.author (new_command basis.digest basis.author (parent_of draft.heads) kind name payload) made first last
        → (result : Result Posted NoMemory) → IfOk result (λ answer. Ends (checked basis.policy basis.author basis.held draft rows b c) draft rows answer after before now new)
        → IfOk result (λ answer. EndsSealed basis (Ok draft) b draft rows answer after before now new)
    all_sealed made is seal (Ok answer) ends =
        one_sealed answer (subst (λ m. IsSealed basis.good basis.told basis.author (new_command basis.digest basis.author (parent_of draft.heads) kind name payload) m first last) is seal) ends
    all_sealed made is seal (Err e) ends = tt

-- a publish, by what it came to
module _ (basis : Basis) (old : Draft) (rows : List Row) (n : ℕ) (fields : List Value) (is : IsCommandOf basis.policy n fields) (size : ℕ)
    (sized : size ≡ length (spelling (value.Struct n fields))) where
  abbrev b : Brought
  b = record { command = n; fields = fields }

  pub too_long : 4096 < size → (steps : ℕ) → Publishes (IsPublish basis) old rows n fields posted.TooLong steps steps old rows
  too_long long steps = record {
    ticks = 0;
    counted = plus_none steps;
    told = record {
      declared = is;
      tag = None;
      seal = no_seal basis _ b;
      leaves = subst (λ p. Leaves p old rows posted.TooLong rows 0 old)
          (sym (ap (λ s. if s then IsTooLong else behind_opening basis (opened basis.held old (declared_at basis.policy n)) rows b None) (ap (nat_lt 4096) (sym sized) ∙ is_less 4096 size long))) (refl, refl, refl, refl);
    };
  }

  module _ (small : size ≤ 4096) (name : Name) (kind : CommandKind) (declared : declared_at basis.policy n ≡ record { name = name; kind = kind }) where
    behind : (r : Result Draft ActFault) (tag : Option (List ℕ)) → opened basis.held old (record { name = name; kind = kind }) ≡ r → published basis old rows b tag ≡ behind_opening basis r rows b tag
    behind r tag opens =
        ap (λ s. if s then IsTooLong else behind_opening basis (opened basis.held old (declared_at basis.policy n)) rows b tag) (ap (nat_lt 4096) (sym sized) ∙ not_less 4096 size small)
        ∙ ap (λ d. behind_opening basis (opened basis.held old d) rows b tag) declared ∙ ap (λ o. behind_opening basis o rows b tag) opens

    pub refused : (why : ActFault) → opened basis.held old (record { name = name; kind = kind }) ≡ Err why → (answer : Posted) → answer ≡ posted.Refused → (new : Draft) → new.refusal ≡ Some why → (steps : ℕ)
        → Publishes (IsPublish basis) old rows n fields answer steps steps new rows
    refused why opens answer stops new noted steps = record {
      ticks = 0;
      counted = plus_none steps;
      told = record {
        declared = is;
        tag = None;
        seal = no_seal basis _ b;
        leaves = subst (λ p. Leaves p old rows answer rows 0 new) (sym (behind (Err why) None opens)) (stops, refl, refl, noted);
      };
    }

    one_published : (mid : Draft) → opened basis.held old (record { name = name; kind = kind }) ≡ Ok mid → (after : List Row) (before now : ℕ) (new : Draft) (answer : Posted)
        → EndsSealed basis (Ok mid) b mid rows answer after before now new → Publishes (IsPublish basis) old rows n fields answer before now new after
    one_published mid opens after before now new answer ends = record {
      ticks = ends.ends.ticks;
      counted = ends.ends.counted;
      told = record {
        declared = is;
        tag = ends.tag;
        seal = subst (λ o. IsSealOf basis o b ends.tag) (sym (ap (opened basis.held old) declared ∙ opens)) ends.seal;
        leaves = subst (λ p. Leaves p old rows answer after ends.ends.ticks new) (sym (behind (Ok mid) ends.tag opens))
            (behind_leaves basis mid rows b old mid answer after ends.ends.ticks new ends.tag ends.ends.leaves);
      };
    }

    pub all_published : (mid : Draft) → opened basis.held old (record { name = name; kind = kind }) ≡ Ok mid → (after : List Row) (before now : ℕ) (new : Draft) (result : Result Posted NoMemory)
        → IfOk result (λ answer. EndsSealed basis (Ok mid) b mid rows answer after before now new) → IfOk result (λ answer. Publishes (IsPublish basis) old rows n fields answer before now new after)
    all_published mid opens after before now new (Ok answer) ends = one_published mid opens after before now new answer ends
    all_published mid opens after before now new (Err e) ends = tt
