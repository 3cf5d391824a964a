-- There is one braid: two orders of the same commands, each placed as the braid asks, are the same.
use Rattle.std.proofs.Common.{◌≡◌, ◌↔◌, inl, inr, List, [], ◌∷◌, ◌++◌, sym, ap, subst, ◌∙◌}
use Rattle.std.specs.List.{Contains}
use Rattle.std.proofs.lemmas.List.Elements.{Contains-append_left, Contains-push, Contains-push_cases}
use Rattle.command.specs.declared.command.Command.{Command}
use Rattle.command.specs.Ancestors.{Ancestor}
use Rattle.command.specs.Each.{Each}
use Rattle.command.specs.Wire.{command_id}
use Rattle.command.proofs.ListFacts.{each_before, each_last, end_cases, from_end, none_element}
use Rattle.braid.specs.Braids.{IsPlaced, IsTop}
use Rattle.braid.proofs.Order.{lower_cases}

module _ (cs ds : List Command) where
  -- two orders have the same commands, among which the two lists have the same ancestors, and no two of which have one id
  pub record Match (l m : List Command) : Type 0 where
    pub same : (x : Command) → Contains l x ↔ Contains m x
    pub agree : (x y : Command) → Contains l x → Contains l y → Ancestor cs x y ↔ Ancestor ds x y
    pub ids : (x y : Command) → Contains l x → Contains l y → command_id x ≡ command_id y → x ≡ y

  module _ (l n : List Command) (x y : Command) (match : Match (l ++ x ∷ []) (n ++ y ∷ [])) (p : IsPlaced cs l x) (q : IsPlaced ds n y) where
    x_there : Contains (n ++ y ∷ []) x
    x_there = (match.same x).0 (Contains-push l x)

    y_here : Contains (l ++ x ∷ []) y
    y_here = (match.same y).1 (Contains-push n y)

    x_top : IsTop ds (n ++ y ∷ []) x
    x_top z h a = let among = (match.same z).1 h in p.above z among ((match.agree x z (Contains-push l x) among).1 a)

    y_top : IsTop cs (l ++ x ∷ []) y
    y_top z h a = q.above z ((match.same z).0 h) ((match.agree y z y_here h).0 a)

    same_last : x ≡ y
    same_last =
        elim (Contains-push_cases n y x x_there) [
          | inr is ↦ sym is
          | inl x_older ↦
              elim (Contains-push_cases l x y y_here) [
                | inr is ↦ is
                | inl y_older ↦
                    elim (lower_cases x y) [
                      | inl lower ↦ absurd (q.lowest x x_older x_top lower)
                      | inr other ↦
                          elim other [
                            | inl lower ↦ absurd (p.lowest y y_older y_top lower)
                            | inr one_id ↦ match.ids x y (Contains-push l x) y_here one_id
                          ]
                    ]
              ]
        ]

    match_front : Match l n
    match_front = record {
      same = λ z. (
        (λ h. elim (Contains-push_cases n y z ((match.same z).0 (Contains-append_left l (x ∷ []) z h))) [
          | inl older ↦ older
          | inr last ↦ absurd (p.once (subst (λ w. Contains l w) (sym last ∙ sym same_last) h))
        ]),
        (λ h. elim (Contains-push_cases l x z ((match.same z).1 (Contains-append_left n (y ∷ []) z h))) [
          | inl older ↦ older
          | inr last ↦ absurd (q.once (subst (λ w. Contains n w) (sym last ∙ same_last) h))
        ]),
      );
      agree = λ a b h k. match.agree a b (Contains-append_left l (x ∷ []) a h) (Contains-append_left l (x ∷ []) b k);
      ids = λ a b h k. match.ids a b (Contains-append_left l (x ∷ []) a h) (Contains-append_left l (x ∷ []) b k);
    }

  pub same_order : (l m : List Command) → Match l m → Each (IsPlaced cs) l → Each (IsPlaced ds) m → l ≡ m
  same_order = from_end (λ l. (m : List Command) → Match l m → Each (IsPlaced cs) l → Each (IsPlaced ds) m → l ≡ m)
      (λ m match p q. elim (end_cases m) [
        | inl empty ↦ sym empty
        | inr last ↦ absurd (none_element last.1 ((match.same last.1).1 (subst (λ k. Contains k last.1) (sym last.2) (Contains-push last.0 last.1))))
      ])
      (λ l x before m match p q. elim (end_cases m) [
        | inl empty ↦ absurd (none_element x (subst (λ k. Contains k x) empty ((match.same x).0 (Contains-push l x))))
        | inr last ↦
            let there = subst (λ k. Match (l ++ x ∷ []) k) last.2 match in
            let placed = subst (λ k. Each (IsPlaced ds) k) last.2 q in
            let px = each_last (IsPlaced cs) l x p in
            let qy = each_last (IsPlaced ds) last.0 last.1 placed in
            let front = before last.0 (match_front l last.0 x last.1 there px qy) (each_before (IsPlaced cs) l x p) (each_before (IsPlaced ds) last.0 last.1 placed) in
            ap (λ f. f ++ x ∷ []) front ∙ ap (λ w. last.0 ++ w ∷ []) (same_last l last.0 x last.1 there px qy) ∙ sym last.2
      ])
