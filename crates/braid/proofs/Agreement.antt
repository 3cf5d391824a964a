-- Lists that agree have one braid.
use Rattle.std.proofs.Common.{◌≡◌, ◌⊎◌, inl, inr, Bool, true, false, List, refl, sym, subst}
use Rattle.std.specs.List.{Contains}
use Rattle.command.specs.declared.command.Command.{Command}
use Rattle.command.specs.Closed.{IsClosed}
use Rattle.command.specs.Kinds.{is_merge}
use Rattle.command.specs.Wire.{command_id}
use Rattle.command.proofs.AncestorFacts.{IsDown, ancestor_down}
use Rattle.command.proofs.ClosedFacts.{held_command, parents_held, same_by_id}
use Rattle.braid.specs.Agreeing.{Agree}
use Rattle.braid.specs.Braids.{IsBraid, IsBraidOf}
use Rattle.braid.proofs.Uniqueness.{Match, same_order}

-- whether a command is a merge
pub merge_cases : (c : Command) → (is_merge c ≡ true) ⊎ (is_merge c ≡ false)
merge_cases c = by (is_merge c) refl
  where
    by : (b : Bool) → is_merge c ≡ b → (is_merge c ≡ true) ⊎ (is_merge c ≡ false)
    by true is = inl is
    by false is = inr is

pub other_way : (cs ds : List Command) → Agree cs ds → Agree ds cs
other_way cs ds agree = record {
  same = λ x is. ((agree.same x is).1, (agree.same x is).0);
  merges = λ x y h k is also id. sym (agree.merges y x k h also is (sym id));
}

-- each list has the parents of what it shares with the other
pub agree_down : (cs ds : List Command) → IsClosed cs → IsClosed ds → Agree cs ds → IsDown ds cs
agree_down cs ds closed other agree m y e inside =
    let held = held_command ds (command_id m) (parents_held ds other y (command_id m) inside e.link) in
    elim (merge_cases m) [
      | inr plain ↦ (agree.same m plain).0 e.older
      | inl merge ↦
          elim (merge_cases held.0) [
            | inl also ↦ subst (λ z. Contains ds z) (sym (agree.merges m held.0 e.older held.1 merge also (sym held.2))) held.1
            | inr plain ↦ subst (λ z. Contains ds z) (same_by_id cs closed held.0 m ((agree.same held.0 plain).1 held.1) e.older held.2) held.1
          ]
    ]

module _ (cs ds : List Command) (closed : IsClosed cs) (other : IsClosed ds) (agree : Agree cs ds) where
  matching : (l m : List Command) → IsBraid cs l → IsBraid ds m → Match cs ds l m
  matching l m p q = record {
    same = λ x. (
      (λ h. let in_cs = (p.holds x).0 h in (q.holds x).1 ((agree.same x in_cs.2).0 in_cs.0, tt, in_cs.2)),
      (λ h. let in_ds = (q.holds x).0 h in (p.holds x).1 ((agree.same x in_ds.2).1 in_ds.0, tt, in_ds.2)),
    );
    agree = λ x y h k.
        let there = (p.holds y).0 k in (
          (λ a. ancestor_down ds cs (agree_down cs ds closed other agree) x y a ((agree.same y there.2).0 there.0)),
          (λ a. ancestor_down cs ds (agree_down ds cs other closed (other_way cs ds agree)) x y a there.0),
        );
    ids = λ x y h k is. same_by_id cs closed x y ((p.holds x).0 h).0 ((p.holds y).0 k).0 is;
  }

  pub same_braid : (l m : List Command) → IsBraid cs l → IsBraid ds m → l ≡ m
  same_braid l m p q = same_order cs ds l m (matching l m p q) p.placed q.placed

-- one list, and some of its commands
pub one_braid : (cs : List Command) → IsClosed cs → (P : Command → Type 0) (l m : List Command) → IsBraidOf cs P l → IsBraidOf cs P m → l ≡ m
one_braid cs closed P l m p q =
    same_order cs cs l m
    (record {
      same = λ x. ((λ h. (q.holds x).1 ((p.holds x).0 h)), (λ h. (p.holds x).1 ((q.holds x).0 h)));
      agree = λ x y h k. ((λ a. a), (λ a. a));
      ids = λ x y h k is. same_by_id cs closed x y ((p.holds x).0 h).0 ((p.holds y).0 k).0 is;
    })
    p.placed q.placed
