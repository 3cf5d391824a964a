-- Facts that are kept of a command's closure: how they come about, and that they stay.
use Rattle.std.proofs.Common.{◌≡◌, inl, inr, false, List, [], ◌∷◌, ◌++◌, refl, sym, ap, subst, ◌∙◌}
use Rattle.std.specs.List.{Contains}
use Rattle.std.proofs.lemmas.List.Elements.{Contains-append_left, Contains-push, Contains-push_cases}
use Rattle.braid.specs.Braids.{IsBraidOf, IsBraidTo, IsPlaced}
use Rattle.braid.proofs.Appends.{stays}
use Rattle.braid.proofs.Carrying.{in_one_list, same_braids}
use Rattle.braid_run.specs.Places.{AreAtPlace, IsBehind}
use Rattle.braid_run.specs.Published.{IsSoleHead}
use Rattle.braid_run.specs.RunAbove.{AreRowsOfAll, AreRowsTo}
use Rattle.braid_run.specs.Runs.{no_run, rows_behind}
use Rattle.braid_run.proofs.RunFacts.{run_append}
use Rattle.braid_run.proofs.StandingFacts.{behind_above}
use Rattle.command.specs.Ancestors.{Ancestor, IsParent, IsUpTo}
use Rattle.command.specs.Ancestors.Ancestor.{Parent, Further}
use Rattle.command.specs.Closed.{IsClosed, IsNext}
use Rattle.command.specs.Kinds.{is_merge, parents_of}
use Rattle.command.specs.Wire.{command_id}
use Rattle.command.specs.declared.command.Command.{Command}
use Rattle.command.proofs.AncestorFacts.{kept, newest_top, older_inside, was}
use Rattle.command.proofs.ClosedFacts.{held_by, same_by_id}
use Rattle.command.proofs.ListFacts.{at_head, each_last, each_more, one_element}
use Rattle.fact_store.specs.declared.row.Row.{Row}
use Rattle.policy_ast.specs.declared.policy.PlacedItem.{PlacedItem}
use Rattle.policy_meaning.specs.Commands.{judged}

-- what stands behind a command is of the list
behind_in : (cs : List Command) (c x : Command) → IsBehind cs c x → Contains cs x
behind_in cs c x b = elim b.3 [ inl same ↦ subst (λ z. Contains cs z) (sym same) b.1 | inr above ↦ older_inside cs x b.0 above ]

module _ (cs : List Command) (c : Command) (closed : IsClosed (cs ++ c ∷ [])) where
  -- an ancestor of the newest command stands behind it
  above_behind : (x : Command) → Ancestor (cs ++ c ∷ []) x c → IsBehind cs c x
  above_behind x (Parent e) = (x, old x e.older (λ same. newest_top cs c c closed (Parent (subst (λ z. IsParent (cs ++ c ∷ []) z c) same e))), e.link, inl refl)
    where
      old : (y : Command) → Contains (cs ++ c ∷ []) y → (y ≡ c → ⊥) → Contains cs y
      old y h other = elim (Contains-push_cases cs c y h) [ inl older ↦ older | inr same ↦ absurd (other (sym same)) ]
  above_behind x (Further {m = m} a e) =
      let there : Contains cs m = old m e.older (λ same. newest_top cs c c closed (Parent (subst (λ z. IsParent (cs ++ c ∷ []) z c) same e))) in
      (m, there, e.link, inr (was cs (c ∷ []) closed x m there a))
    where
      old : (y : Command) → Contains (cs ++ c ∷ []) y → (y ≡ c → ⊥) → Contains cs y
      old y h other = elim (Contains-push_cases cs c y h) [ inl older ↦ older | inr same ↦ absurd (other (sym same)) ]

  -- the braid at its place, in the longer list
  carried : (b : List Command) → IsBraidOf cs (IsBehind cs c) b → IsBraidOf (cs ++ c ∷ []) (IsBehind cs c) b
  carried b is =
      (same_braids cs (cs ++ c ∷ []) (IsBehind cs c) (IsBehind cs c)
      (record {
        same = λ x. ((λ h. (Contains-append_left cs (c ∷ []) x h.0, h.1)), (λ h. (behind_in cs c x h.1, h.1)));
        agree = λ x y h k. (kept cs (c ∷ []) x y, was cs (c ∷ []) closed x y k.0);
      }) b).0
      is

  -- its closure's braid is that at its place, and then itself
  pub then_itself : is_merge c ≡ false → (b : List Command) → IsBraidOf cs (IsBehind cs c) b → IsBraidTo (cs ++ c ∷ []) c (b ++ c ∷ [])
  then_itself plain b is = record {
    holds = λ x. (
      (λ h. elim (Contains-push_cases b c x h) [
        | inl older ↦ let there = (is.holds x).0 older in (Contains-append_left cs (c ∷ []) x there.0, inr (behind_above cs c x there.1), there.2)
        | inr same ↦ subst (λ z. Contains (cs ++ c ∷ []) z × IsUpTo (cs ++ c ∷ []) c z × (is_merge z ≡ false)) same (Contains-push cs c, inl refl, plain)
      ]),
      (λ h. elim h.1 [
        | inl same ↦ subst (λ z. Contains (b ++ c ∷ []) z) (sym same) (Contains-push b c)
        | inr above ↦ let there = above_behind x above in Contains-append_left b (c ∷ []) x ((is.holds x).1 (behind_in cs c x there, there, h.2))
      ]),
    );
    placed =
        each_more (IsPlaced (cs ++ c ∷ [])) b c (carried b is).placed
        (record {
          once = λ h. (each_last IsNext cs c closed).fresh (held_by cs c ((is.holds c).0 h).0);
          above = λ z h a. newest_top cs c z closed a;
          lowest = λ y h top lower. top c (Contains-push b c) (behind_above cs c y ((is.holds y).0 h).1);
        });
  }

-- the facts behind a command over those at its place are those of its closure
pub rows_behind_place : (policy : List PlacedItem) (cs : List Command) (c : Command) (rows : List Row) → IsClosed (cs ++ c ∷ []) → is_merge c ≡ false → AreAtPlace policy cs c rows →
    AreRowsTo policy (cs ++ c ∷ []) c (rows_behind (judged policy rows c) rows)
rows_behind_place policy cs c rows closed plain at = record {
  braid = at.braid ++ c ∷ [];
  is = then_itself cs c closed plain at.braid at.is;
  same_rows = ap (λ r. rows_behind (judged policy r c) r) at.same_rows ∙ ap (λ run. run.rows) (sym (run_append policy no_run at.braid (c ∷ [])));
}

pub rows_stay : (policy : List PlacedItem) (cs more : List Command) (f : Command) (rows : List Row) → IsClosed cs → IsClosed (cs ++ more) → Contains cs f → AreRowsTo policy cs f rows → AreRowsTo policy (cs ++ more) f rows
rows_stay policy cs more f rows closed longer inside are = record {
  braid = are.braid;
  is = ((stays cs f closed inside).kept more are.braid longer).0 are.is;
  same_rows = are.same_rows;
}

-- the facts at the place of a command with one parent are those of the parent's closure
pub child_rows : (policy : List PlacedItem) (cs : List Command) (f c : Command) (rows : List Row) → IsClosed cs → Contains cs f → parents_of c ≡ command_id f ∷ [] → AreRowsTo policy cs f rows → AreAtPlace policy cs c rows
child_rows policy cs f c rows closed inside one are = record {
  braid = are.braid;
  is =
      (in_one_list cs (IsUpTo cs f) (IsBehind cs c)
      (λ x there. (
        (λ up. (f, inside, subst (λ l. Contains l (command_id f)) (sym one) (at_head (command_id f) []), up)),
        (λ b.
            let id = one_element (command_id f) (command_id b.0) (subst (λ l. Contains l (command_id b.0)) one b.2) in
            subst (λ z. IsUpTo cs z x) (same_by_id cs closed b.0 f b.1 inside (sym id)) b.3),
      )) are.braid).0
      are.is;
  same_rows = are.same_rows;
}

-- the present facts are those of the closure of the one head
pub head_rows : (policy : List PlacedItem) (cs : List Command) (f : Command) (rows : List Row) → IsSoleHead cs f → AreRowsOfAll policy cs rows → AreRowsTo policy cs f rows
head_rows policy cs f rows sole are = record {
  braid = are.braid;
  is = (in_one_list cs (λ x. Unit {0}) (IsUpTo cs f) (λ x inside. ((λ h. sole x inside), (λ h. tt))) are.braid).0 are.is;
  same_rows = are.same_rows;
}
