-- The braid of a finalize's closure begins the whole braid.
use Rattle.std.proofs.Common.{◌≡◌, ◌⊎◌, inl, inr, Bool, true, false, List, [], ◌∷◌, ◌++◌, refl, sym, ap, subst, ◌∙◌, append_assoc}
use Rattle.std.specs.List.{Contains}
use Rattle.std.proofs.lemmas.List.Elements.{Contains-append_left, Contains-append_cases, Contains-push, Contains-push_cases}
use Rattle.command.specs.declared.command.Command.{Command}
use Rattle.command.specs.declared.command.Command.TheVariants.{Init, Basic, Finalize, Merge}
use Rattle.command.specs.Ancestors.{Ancestor, AreInLine, IsUpTo}
use Rattle.command.specs.Closed.{IsClosed}
use Rattle.command.specs.Each.{Each}
use Rattle.command.specs.Kinds.{is_finalize, is_merge}
use Rattle.command.proofs.AncestorFacts.{from_newest, trans}
use Rattle.command.proofs.KnownAncestors.{ancestor_known}
use Rattle.command.proofs.ListFacts.{each_cut, each_left, head_cases, in_middle, split_at}
use Rattle.braid.specs.Braids.{IsBraid, IsBraidTo, IsPlaced, IsTop}
use Rattle.braid.specs.Lower.{IsLower}
use Rattle.braid.specs.Agreeing.{IsFinal}

pub no_merge : (f : Command) → is_finalize f ≡ true → is_merge f ≡ false
no_merge (Init cut digest author name payload tag) is = refl
no_merge (Basic cut priority parent author name payload tag) is = refl
no_merge (Finalize cut parent author name payload tag) is = refl
no_merge (Merge cut left right) is = absurd cc

below_finalize : (y f : Command) → is_finalize y ≡ false → is_finalize f ≡ true → IsLower y f
below_finalize y f other is = IsLower.under_finalize other is

pub finalize_cases : (c : Command) → (is_finalize c ≡ true) ⊎ (is_finalize c ≡ false)
finalize_cases c = by (is_finalize c) refl
  where
    by : (b : Bool) → is_finalize c ≡ b → (is_finalize c ≡ true) ⊎ (is_finalize c ≡ false)
    by true is = inl is
    by false is = inr is

module _ (cs : List Command) (closed : IsClosed cs) (f : Command) (front behind : List Command) (whole : IsBraid cs (front ++ f ∷ behind)) where
  here : Contains cs f
  here = ((whole.holds f).0 (in_middle front f behind)).0

  placed : IsPlaced cs front f
  placed = each_cut (IsPlaced cs) front f behind whole.placed

  in_front : (x : Command) → Contains front x → Contains cs x × (is_merge x ≡ false)
  in_front x h = let is = (whole.holds x).0 (Contains-append_left front (f ∷ behind) x h) in (is.0, is.2)

  -- what stands behind f is no ancestor of it
  none_behind : (x : Command) → Contains behind x → Ancestor cs x f → ⊥
  none_behind x h a =
      let cut = split_at behind x h in
      let same : front ++ f ∷ behind ≡ (front ++ f ∷ cut.0) ++ x ∷ cut.1 = ap (λ l. front ++ f ∷ l) cut.2 ∙ sym (append_assoc front (f ∷ cut.0) (x ∷ cut.1)) in
      let p = each_cut (IsPlaced cs) (front ++ f ∷ cut.0) x cut.1 (subst (λ l. Each (IsPlaced cs) l) same whole.placed) in
      p.above f (Contains-append_left (front ++ f ∷ cut.0) (x ∷ []) f (in_middle front f cut.0)) a

  -- where all that stands before f is an ancestor of it, that and f are the braid of its closure
  pub front_is_braid : ((x : Command) → Contains front x → Ancestor cs x f) → IsBraidTo cs f (front ++ f ∷ [])
  front_is_braid all = record {
    holds = λ x. (
      (λ h. elim (Contains-push_cases front f x h) [
        | inl older ↦ ((in_front x older).0, inr (all x older), (in_front x older).1)
        | inr last ↦ subst (λ z. Contains cs z × IsUpTo cs f z × (is_merge z ≡ false)) last (here, inl refl, ((whole.holds f).0 (in_middle front f behind)).2)
      ]),
      (λ h. elim (Contains-append_cases front (f ∷ behind) x ((whole.holds x).1 (h.0, tt, h.2))) [
        | inl older ↦ Contains-append_left front (f ∷ []) x older
        | inr later ↦
            elim (head_cases f behind x later) [
              | inl same ↦ subst (λ z. Contains (front ++ f ∷ []) z) same (Contains-push front f)
              | inr last ↦
                  elim h.1 [
                    | inl same ↦ subst (λ z. Contains (front ++ f ∷ []) z) (sym same) (Contains-push front f)
                    | inr above ↦ absurd (none_behind x last above)
                  ]
            ]
      ]),
    );
    placed = each_left (IsPlaced cs) [] (front ++ f ∷ []) behind (subst (λ l. Each (IsPlaced cs) l) (sym (append_assoc front (f ∷ []) behind)) whole.placed);
  }

  -- what stands before a finalize is an ancestor of it
  pub before_finalize : AreInLine cs → is_finalize f ≡ true → (x : Command) → Contains front x → Ancestor cs x f
  before_finalize line is x h =
      elim (ancestor_known cs closed x f (in_front x h).0 here) [
        | inl above ↦ above
        | inr not_above ↦
            absurd
            (from_newest (λ y. Contains front y → (Ancestor cs y f → ⊥) → ⊥) cs closed
            (λ y inside later among not_older.
            let top : IsTop cs (front ++ f ∷ []) y = λ z there a. elim (Contains-push_cases front f z there) [
              | inl older ↦ later z a older (λ b. not_older (trans cs y z f a b))
              | inr last ↦ not_older (subst (λ w. Ancestor cs y w) (sym last) a)
            ] in
            elim (finalize_cases y) [
              | inr other ↦ placed.lowest y among top (below_finalize y f other is)
              | inl also ↦
                  elim (line y f inside here also is) [
                    | inl same ↦ placed.once (subst (λ z. Contains front z) same among)
                    | inr either ↦
                        elim either [
                          | inl older ↦ not_older older
                          | inr newer ↦ placed.above y (Contains-append_left front (f ∷ []) y among) newer
                        ]
                  ]
            ])
            x (in_front x h).0 h not_above)
      ]

pub final : (cs : List Command) → IsClosed cs → AreInLine cs → (f : Command) → Contains cs f → is_finalize f ≡ true → IsFinal cs f
final cs closed line f inside is braid whole =
    let cut = split_at braid f ((whole.holds f).1 (inside, tt, no_merge f is)) in
    let there = subst (λ l. IsBraid cs l) cut.2 whole in
    let front = front_is_braid cs closed f cut.0 cut.1 there (before_finalize cs closed f cut.0 cut.1 there line is) in
    (cut.0 ++ f ∷ [], cut.1, front, cut.2 ∙ sym (append_assoc cut.0 (f ∷ []) cut.1))
