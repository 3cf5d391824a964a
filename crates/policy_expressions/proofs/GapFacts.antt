-- The values before the first `?`, found from the back.
use Rattle.std.proofs.Common.{◌≡◌, List, [], ◌∷◌, ◌++◌, map, reverse, Option, Some, None, refl, sym, ap, ◌∙◌}
use Rattle.std.proofs.lemmas.List.{append_assoc, append-nil, reverse-append}
use Rattle.base_bytes.specs.declared.value.Value.{Value}
use Rattle.policy_expressions.specs.working.Gaps.{put_front}
use Rattle.policy_meaning.specs.Patterns.{before_gap}

-- what stands behind a `?` doesn't count
cut : (front behind : List (Option Value)) → before_gap front ≡ before_gap (front ++ None ∷ behind)
cut [] behind = refl
cut (None ∷ front) behind = refl
cut (Some v ∷ front) behind = ap (λ vs. v ∷ vs) (cut front behind)

pub one_back : (front : List (Option Value)) (o : Option Value) (behind : List Value)
    → before_gap (front ++ map Some (reverse (put_front behind o))) ≡ before_gap ((front ++ o ∷ []) ++ map Some (reverse behind))
one_back front None behind = ap before_gap (append-nil front) ∙ cut front (map Some (reverse behind)) ∙ ap before_gap (sym (append_assoc front (None ∷ []) (map Some (reverse behind))))
one_back front (Some v) behind =
    ap (λ vs. before_gap (front ++ map Some vs)) (reverse-append behind (v ∷ [])) ∙ ap before_gap (sym (append_assoc front (Some v ∷ []) (map Some (reverse behind))))

-- where there is no `?`, all of them
pub all_before : (values : List Value) → before_gap (map Some values) ≡ values
all_before [] = refl
all_before (v ∷ values) = ap (λ vs. v ∷ vs) (all_before values)
