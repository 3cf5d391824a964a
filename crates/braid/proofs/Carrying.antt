-- The braid of the commands that meet a condition, carried to another list and another condition.
use Rattle.std.proofs.Common.{◌↔◌, List, [], ◌∷◌, ◌++◌, subst, append_assoc}
use Rattle.std.specs.List.{Contains}
use Rattle.std.proofs.lemmas.List.Elements.{Contains-append_left, Contains-push}
use Rattle.command.specs.declared.command.Command.{Command}
use Rattle.command.specs.Ancestors.{Ancestor}
use Rattle.command.specs.Each.{EachAfter}
use Rattle.braid.specs.Braids.{IsBraidOf, IsPlaced}

-- places carried to another list, where the ancestors among the placed are the same
module _ (cs ds : List Command) (In : Command → Type 0) (agree : (x y : Command) → In x → In y → Ancestor cs x y ↔ Ancestor ds x y) where
  place_carried : (front : List Command) (x : Command) → ((z : Command) → Contains (front ++ x ∷ []) z → In z) → IsPlaced cs front x → IsPlaced ds front x
  place_carried front x within p = record {
    once = p.once;
    above = λ z h a. p.above z h ((agree x z (within x (Contains-push front x)) (within z h)).1 a);
    lowest = λ y h top. p.lowest y h (λ z k a. top z k ((agree y z (within y (Contains-append_left front (x ∷ []) y h)) (within z k)).0 a));
  }

  carried : (front xs : List Command) → ((z : Command) → Contains (front ++ xs) z → In z) → EachAfter (IsPlaced cs) front xs → EachAfter (IsPlaced ds) front xs
  carried front [] within h = tt
  carried front (x ∷ xs) within h =
      let one : (z : Command) → Contains ((front ++ x ∷ []) ++ xs) z → In z = λ z k. within z (subst (λ l. Contains l z) (append_assoc front (x ∷ []) xs) k) in
      (place_carried front x (λ z k. one z (Contains-append_left (front ++ x ∷ []) xs z k)) h.0, carried (front ++ x ∷ []) xs one h.1)

-- the same commands meet the condition here and there, and the ancestors among them are the same
pub record AreAlike (cs ds : List Command) (P Q : Command → Type 0) : Type 0 where
  pub same : (x : Command) → (Contains cs x × P x) ↔ (Contains ds x × Q x)
  pub agree : (x y : Command) → Contains cs x × P x → Contains cs y × P y → Ancestor cs x y ↔ Ancestor ds x y

back : (cs ds : List Command) (P Q : Command → Type 0) → AreAlike cs ds P Q → AreAlike ds cs Q P
back cs ds P Q alike = record {
  same = λ x. ((alike.same x).1, (alike.same x).0);
  agree = λ x y h k. let both = alike.agree x y ((alike.same x).1 h) ((alike.same y).1 k) in (both.1, both.0);
}

moved : (cs ds : List Command) (P Q : Command → Type 0) → AreAlike cs ds P Q → (l : List Command) → IsBraidOf cs P l → IsBraidOf ds Q l
moved cs ds P Q alike l p = record {
  holds = λ x. (
    (λ h. let there = (p.holds x).0 h in let both = (alike.same x).0 (there.0, there.1) in (both.0, both.1, there.2)),
    (λ h. let both = (alike.same x).1 (h.0, h.1) in (p.holds x).1 (both.0, both.1, h.2)),
  );
  placed = carried cs ds (λ z. Contains cs z × P z) alike.agree [] l (λ z h. let there = (p.holds z).0 h in (there.0, there.1)) p.placed;
}

-- then they have the same braids
pub same_braids : (cs ds : List Command) (P Q : Command → Type 0) → AreAlike cs ds P Q → (l : List Command) → IsBraidOf cs P l ↔ IsBraidOf ds Q l
same_braids cs ds P Q alike l = (moved cs ds P Q alike l, moved ds cs Q P (back cs ds P Q alike) l)

-- in one list, it is enough that they meet both conditions or none
pub in_one_list : (cs : List Command) (P Q : Command → Type 0) → ((x : Command) → Contains cs x → P x ↔ Q x) → (l : List Command) → IsBraidOf cs P l ↔ IsBraidOf cs Q l
in_one_list cs P Q same =
    same_braids cs cs P Q
    (record { same = λ x. ((λ h. (h.0, (same x h.0).0 h.1)), (λ h. (h.0, (same x h.0).1 h.1))); agree = λ x y h k. ((λ a. a), (λ a. a)) })
