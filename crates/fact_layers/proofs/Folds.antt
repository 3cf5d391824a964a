-- One layer says what several say.
use Rattle.std.proofs.Common.{◌≡◌, ℕ, zero, suc, ◌+◌, ◌-◌, ◌<◌, ◌≤◌, ◌==◌, append_assoc, arith, slice_get, slice_set, Result, Ok, Err, length, get_or, Option, Bool, true, false, cond, List, [], ◌∷◌, ◌++◌, drop, take, Some, None, is_eq, Less, Equal, refl, sym, ap, subst, ◌∙◌}
use Rattle.std.proofs.lemmas.Bool.{and_from, and_parts}
use Rattle.std.proofs.lemmas.Cmp.{eq_by_cmp_equiv}
use Rattle.std.proofs.lemmas.List.{drop_all, drop_more, nil_from_length, take_more}
use Rattle.std.proofs.lemmas.Option.{same_Some}
use Rattle.std.proofs.lemmas.Map.Keys.{sorted_head, sorted_tail}
use Rattle.std.specs.Arc.{arc_value}
use Rattle.std.specs.BTreeMap.{BTreeMap}
use Rattle.std.specs.Cmp.{unsigned_Decides}
use Rattle.std.specs.List.{AllByRecursion}
use Rattle.std.specs.List.Sorted.{IsStrictlySortedBy}
use Rattle.std.specs.Map.{keys_of}
use Rattle.std.specs.declared.ops.Bound.{Bound}
use Rattle.std.specs.declared.sync.Arc.{Arc}
use Rattle.fact_store.specs.declared.wanted.Wanted.{Wanted}
use Rattle.fact_store.specs.Rows.{are_keys}
use Rattle.fact_store.specs.working.Orders.{wanted_order, wanted_order_total}
use Rattle.fact_layers.specs.Layers.{Entries, Said, shared}
use Rattle.fact_layers.specs.working.Nearest.{IsNearest, lesser}
use Rattle.fact_layers.specs.working.Said.{FoldsOver, IsFolded, MayBeBelow, Puts, PutsNewest, PutsOwn, Replaces, above, are_all_keyed, are_keyed, at, held, held_over, said}
use Rattle.fact_layers.proofs.Nearest.{is-Equal, nearest-append}

-- ---- one layer into another

-- behind an entry, none is tied with it
none-tied : (q : Wanted) (k : Wanted) (es : Entries) → AllByRecursion (λ y. wanted_order k y ≡ Less) (keys_of es) → wanted_order q k ≡ Equal → said q es ≡ None
none-tied q k [] all tied = refl
none-tied q k (e ∷ es) all tied =
    let apart : at q e.0 ≡ false = ap is_eq (wanted_order_total.congr q k e.0 tied ∙ all.0) in
    rw apart (none-tied q k es all.1 tied)

pub goes_on : (is_lowest : Bool) (e : Wanted × Said) (es old new : Entries) → IsStrictlySortedBy wanted_order (keys_of (e ∷ es)) → Puts is_lowest e.0 e.1 old new
    → (q : Wanted) (below : Said) → MayBeBelow is_lowest below → above (said q es) (above (said q new) below) ≡ above (said q (e ∷ es)) (above (said q old) below)
goes_on is_lowest e es old new sorted puts q below may =
    ap (above (said q es)) (puts q below may ∙ ap (λ b. cond b e.1 (above (said q old) below)) ((eq_by_cmp_equiv wanted_order_total).symm e.0 q)) ∙ by (at q e.0) refl
  where
    by : (b : Bool) → at q e.0 ≡ b → above (said q es) (cond b e.1 (above (said q old) below)) ≡ above (cond b (Some e.1) (said q es)) (above (said q old) below)
    by true is = ap (λ s. above s e.1) (none-tied q e.0 es (sorted_head wanted_order e.0 (keys_of es) sorted) (is-Equal _ is))
    by false is = refl

-- ---- several layers

pub over-append : (q : Wanted) (layers others : List Entries) (below : Said) → held_over q (layers ++ others) below ≡ held_over q layers (held_over q others below)
over-append q [] others below = refl
over-append q (layer ∷ layers) others below = ap (above (said q layer)) (over-append q layers others below)

pub shared-append : {A : Type 0} (layers others : List (Arc (BTreeMap Wanted Said) A)) → shared (layers ++ others) ≡ shared layers ++ shared others
shared-append [] others = refl
shared-append (layer ∷ layers) others = ap (λ rest. (arc_value layer).entries ∷ rest) (shared-append layers others)

pub keyed-append : (layers others : List Entries) → are_all_keyed (layers ++ others) ≡ true → (are_all_keyed layers ≡ true) × (are_all_keyed others ≡ true)
keyed-append [] others keyed = (refl, keyed)
keyed-append (layer ∷ layers) others keyed =
    let parts = and_parts (are_keyed layer) (are_all_keyed (layers ++ others)) keyed in
    let rest = keyed-append layers others parts.1 in
    (and_from _ _ parts.0 rest.0, rest.1)

-- the layers before a place, and from it on
pub shared-parts : {A : Type 0} (layers : List (Arc (BTreeMap Wanted Said) A)) (n : ℕ) → shared (take n layers) ++ shared (drop n layers) ≡ shared layers
shared-parts [] zero = refl
shared-parts [] (suc n) = refl
shared-parts (layer ∷ layers) zero = refl
shared-parts (layer ∷ layers) (suc n) = ap (λ rest. (arc_value layer).entries ∷ rest) (shared-parts layers n)

pub keyed-parts : {A : Type 0} (layers : List (Arc (BTreeMap Wanted Said) A)) (n : ℕ) → are_all_keyed (shared layers) ≡ true → (are_all_keyed (shared (take n layers)) ≡ true) × (are_all_keyed (shared (drop n layers)) ≡ true)
keyed-parts layers n keyed = keyed-append (shared (take n layers)) (shared (drop n layers)) (ap are_all_keyed (shared-parts layers n) ∙ keyed)

-- a new layer in front, with what the newer ones say
pub begins : (place : Wanted) (says : Said) (is_lowest : Bool) (newer older : List Entries) (folded newest : Entries)
    → (is_lowest ≡ true → older ≡ []) → are_all_keyed older ≡ true → are_keyed newest ≡ true
    → ((q : Wanted) (below : Said) → MayBeBelow is_lowest below → above (said q folded) below ≡ held_over q newer below)
    → Puts is_lowest place says folded newest → Replaces place says (newer ++ older) (newest ∷ older)
begins place says is_lowest newer older folded newest lowest keyed here folds puts =
    record {
      keyed = and_from _ _ here keyed;
      stands = λ q. puts q (held q older) (none q) ∙ ap (cond (at place q) says) (folds q (held q older) (none q) ∙ sym (over-append q newer older None));
    }
  where
    none : (q : Wanted) → MayBeBelow is_lowest (held q older)
    none q is = ap (held q) (lowest is)

-- ---- steps of loops

module _ {A : Type 0} (layers : List (Arc (BTreeMap Wanted Said) A)) (n : ℕ) (layer : Arc (BTreeMap Wanted Said) A) (within : n < length layers) (is : layer ≡ get_or layers n layer) where
  pub drop-step : drop n layers ≡ layer ∷ drop (n + 1) layers
  drop-step = drop_more layers n layer within ∙ ap (λ x. x ∷ drop (n + 1) layers) (sym is)

  pub take-step : take (n + 1) layers ≡ take n layers ++ layer ∷ []
  take-step = take_more layers n layer within ∙ ap (λ x. take n layers ++ x ∷ []) (sym is)

  pub keyed-here : are_all_keyed (shared layers) ≡ true → are_keyed (arc_value layer).entries ≡ true
  keyed-here keyed =
      (and_parts (are_keyed (arc_value layer).entries) (are_all_keyed (shared (drop (n + 1) layers))) (ap (λ ls. are_all_keyed (shared ls)) (sym drop-step) ∙ (keyed-parts layers n keyed).1)).0

  pub held-here : (place : Wanted) (map : BTreeMap Wanted Said) (says : Said) → map ≡ arc_value layer → Some says ≡ said place map.entries → held place (shared (drop n layers)) ≡ says
  held-here place map says same found =
      ap (λ ls. held place (shared ls)) drop-step ∙ ap (λ s. above s (held place (shared (drop (n + 1) layers)))) (sym (found ∙ ap (λ (m : BTreeMap Wanted Said). said place m.entries) same))

  pub share-more : (next new : List (Arc (BTreeMap Wanted Said) A)) (clone : Arc (BTreeMap Wanted Said) A) (whole : List Entries) → arc_value clone ≡ arc_value layer → new ≡ next ++ clone ∷ []
      → shared next ++ shared (drop n layers) ≡ whole → shared new ++ shared (drop (n + 1) layers) ≡ whole
  share-more next new clone whole same pushed so_far =
      ap (λ ls. shared ls ++ shared (drop (n + 1) layers)) pushed
      ∙ ap (λ es. es ++ shared (drop (n + 1) layers)) (shared-append next (clone ∷ []) ∙ ap (λ (m : BTreeMap Wanted Said). shared next ++ m.entries ∷ []) same)
      ∙ append_assoc (shared next) ((arc_value layer).entries ∷ []) (shared (drop (n + 1) layers))
      ∙ ap (λ ls. shared next ++ shared ls) (sym drop-step)
      ∙ so_far

  pub nearest-more : (from : Bound Wanted) (map : BTreeMap Wanted Said) (a b r : Option Wanted) → map ≡ arc_value layer → IsNearest from (shared (take n layers)) a → IsNearest from (map.entries ∷ []) b → r ≡ lesser a b
      → IsNearest from (shared (take (n + 1) layers)) r
  nearest-more from map a b r same one two is_r =
      let lists : shared (take (n + 1) layers) ≡ shared (take n layers) ++ map.entries ∷ [] =
      ap shared take-step ∙ shared-append (take n layers) (layer ∷ []) ∙ ap (λ (m : BTreeMap Wanted Said). shared (take n layers) ++ m.entries ∷ []) (sym same) in
      subst (λ ls. IsNearest from ls r) (sym lists) (subst (IsNearest from (shared (take n layers) ++ map.entries ∷ [])) (sym is_r) (nearest-append from (shared (take n layers)) (map.entries ∷ []) a b one two))

-- one more layer from the end
pub folds-more : {A : Type 0} (layers : List (Arc (BTreeMap Wanted Said) A)) (done : ℕ) (layer : Arc (BTreeMap Wanted Said) A) (map : BTreeMap Wanted Said) (is_lowest : Bool) (old new : Entries) → done < length layers → layer ≡ get_or layers (length layers - 1 - done) layer
    → map ≡ arc_value layer → FoldsOver is_lowest map.entries old new → ((q : Wanted) (below : Said) → MayBeBelow is_lowest below → above (said q old) below ≡ held_over q (shared (drop (length layers - done) layers)) below)
    → (q : Wanted) (below : Said) → MayBeBelow is_lowest below → above (said q new) below ≡ held_over q (shared (drop (length layers - (done + 1)) layers)) below
folds-more layers done layer map is_lowest old new within is same folds so_far q below may =
    let n = length layers - 1 - done in
    let less : n < length layers = omega (arith, within) in
    let one : length layers - (done + 1) ≡ n = omega (arith, within) in
    let two : length layers - done ≡ n + 1 = omega (arith, within) in
    folds q below may
    ∙ (λ i. above (said q (same i).entries) ((so_far q below may ∙ ap (λ m. held_over q (shared (drop m layers)) below) two) i))
    ∙ ap (λ ls. held_over q (shared ls) below) (sym (drop-step layers n layer less is))
    ∙ ap (λ m. held_over q (shared (drop m layers)) below) (sym one)

pub folds-none : {A : Type 0} (layers : List (Arc (BTreeMap Wanted Said) A)) (is_lowest : Bool) (new : Entries) → new ≡ []
    → (q : Wanted) (below : Said) → MayBeBelow is_lowest below → above (said q new) below ≡ held_over q (shared (drop (length layers - 0) layers)) below
folds-none layers is_lowest new empty q below may =
    ap (λ (es : Entries). above (said q es) below) empty ∙ ap (λ ls. held_over q (shared ls) below) (sym (drop_all (length layers - 0) layers (omega arith)))

pub folds-all : {A : Type 0} (layers : List (Arc (BTreeMap Wanted Said) A)) (done : ℕ) → length layers ≤ done → (q : Wanted) (below : Said) → held_over q (shared (drop (length layers - done) layers)) below ≡ held_over q (shared layers) below
folds-all layers done over q below = let none : length layers - done ≡ 0 = omega (arith, over) in ap (λ m. held_over q (shared (drop m layers)) below) none

-- ---- entries one by one

module _ (e : Wanted × Said) (es rest : Entries) (steps : rest ≡ e ∷ es) where
  pub step-sorted : IsStrictlySortedBy wanted_order (keys_of rest) → IsStrictlySortedBy wanted_order (keys_of es)
  step-sorted sorted = sorted_tail wanted_order e.0 (keys_of es) (subst (λ (all : Entries). IsStrictlySortedBy wanted_order (keys_of all)) steps sorted)

  step-parts : are_keyed rest ≡ true → (are_keys e.0.keys ≡ true) × (are_keyed es ≡ true)
  step-parts keyed = and_parts (are_keys e.0.keys) (are_keyed es) (ap are_keyed (sym steps) ∙ keyed)

  pub step-left : are_keyed rest ≡ true → are_keyed es ≡ true
  step-left keyed = (step-parts keyed).1

  pub step-keys : (place : Wanted) → place ≡ e.0 → are_keyed rest ≡ true → are_keys place.keys ≡ true
  step-keys place same keyed = ap (λ (w : Wanted). are_keys w.keys) same ∙ (step-parts keyed).0

  pub step-goes : (is_lowest : Bool) (place : Wanted) (says : Said) (old new upper first : Entries) → place ≡ e.0 → says ≡ e.1 → IsStrictlySortedBy wanted_order (keys_of rest) → Puts is_lowest place says old new
      → ((q : Wanted) (below : Said) → MayBeBelow is_lowest below → above (said q rest) (above (said q old) below) ≡ above (said q upper) (above (said q first) below))
      → (q : Wanted) (below : Said) → MayBeBelow is_lowest below → above (said q es) (above (said q new) below) ≡ above (said q upper) (above (said q first) below)
  step-goes is_lowest place says old new upper first place_is says_is sorted puts so_far q below may =
      goes_on is_lowest e es old new (subst (λ (all : Entries). IsStrictlySortedBy wanted_order (keys_of all)) steps sorted)
      (subst (λ s. Puts is_lowest e.0 s old new) says_is (subst (λ w. Puts is_lowest w says old new) place_is puts)) q below may
      ∙ ap (λ (all : Entries). above (said q all) (above (said q old) below)) (sym steps)
      ∙ so_far q below may

-- ---- a new layer in front

none-shared : {A : Type 0} (layers : List (Arc (BTreeMap Wanted Said) A)) → (length layers == 0) ≡ true → shared layers ≡ []
none-shared layers is = ap shared (nil_from_length layers ((unsigned_Decides (length layers) 0).0 is))

module _ {A : Type 0} (layers newer older : List (Arc (BTreeMap Wanted Said) A)) (count : ℕ) (front : newer ≡ take count layers) (back : older ≡ drop count layers) (keyed : are_all_keyed (shared layers) ≡ true) where
  pub newer-keyed : are_all_keyed (shared newer) ≡ true
  newer-keyed = ap (λ ls. are_all_keyed (shared ls)) front ∙ (keyed-parts layers count keyed).0

  pub begun-replaces : (place : Wanted) (says : Said) (is_lowest : Bool) (folded : Entries) (newest : BTreeMap Wanted Said) (arc : Arc (BTreeMap Wanted Said) A) (next pushed final : List (Arc (BTreeMap Wanted Said) A))
      → is_lowest ≡ (length older == 0) → IsFolded is_lowest (shared newer) folded → Puts is_lowest place says folded newest.entries → are_keyed newest.entries ≡ true
      → arc_value arc ≡ newest → next ≡ [] → pushed ≡ next ++ arc ∷ [] → shared final ≡ shared pushed ++ shared older → Replaces place says (shared layers) (shared final)
  begun-replaces place says is_lowest folded newest arc next pushed final lowest folds puts here value empty push ends =
      let lists : shared newer ++ shared older ≡ shared layers = (λ i. shared (front i) ++ shared (back i)) ∙ shared-parts layers count in
      let made : shared final ≡ newest.entries ∷ shared older =
      ends ∙ ap (λ ls. shared ls ++ shared older) (push ∙ ap (λ ls. ls ++ arc ∷ []) empty) ∙ ap (λ (m : BTreeMap Wanted Said). m.entries ∷ shared older) value in
      subst (λ all. Replaces place says all (shared final)) lists (subst (Replaces place says (shared newer ++ shared older)) (sym made)
      (begins place says is_lowest (shared newer) (shared older) folded newest.entries (λ is. none-shared older (sym lowest ∙ is)) (ap (λ ls. are_all_keyed (shared ls)) back ∙ (keyed-parts layers count keyed).1) here folds.says puts))

-- ---- into the newest

pub newest-puts : {A E : Type 0} (items : List (Arc (BTreeMap Wanted Said) A)) (old new : Arc (BTreeMap Wanted Said) A) (place : Wanted) (says : Said) (is_lowest : Bool) (n : ℕ) (result : Result (Option (Wanted × Said)) E)
    → Some old ≡ slice_get items 0 → is_lowest ≡ (n == 1) → n ≡ length items → are_all_keyed (shared items) ≡ true → are_keys place.keys ≡ true
    → PutsOwn is_lowest place says (arc_value old).entries (arc_value new).entries result → PutsNewest place says (shared items) (shared (slice_set items 0 new)) result
newest-puts [] old new place says is_lowest n result first lowest len keyed keys puts = absurd (cc)
newest-puts {A} {E} (layer ∷ rest) old new place says is_lowest n result first lowest len keyed keys puts = by result (subst (λ (a : Arc (BTreeMap Wanted Said) A). PutsOwn is_lowest place says (arc_value a).entries (arc_value new).entries result) (same_Some old layer first) puts)
  where
    parts : (are_keyed (arc_value layer).entries ≡ true) × (are_all_keyed (shared rest) ≡ true)
    parts = and_parts (are_keyed (arc_value layer).entries) (are_all_keyed (shared rest)) keyed

    none : (q : Wanted) → MayBeBelow is_lowest (held q (shared rest))
    none q is =
        let one : n ≡ 1 = (unsigned_Decides n 1).0 (sym lowest ∙ is) in
        let none_left : length rest ≡ 0 = omega (arith, one, len) in
        ap (λ ls. held q (shared ls)) (nil_from_length rest none_left)

    by : (r : Result (Option (Wanted × Said)) E) → PutsOwn is_lowest place says (arc_value layer).entries (arc_value new).entries r → PutsNewest place says ((arc_value layer).entries ∷ shared rest) ((arc_value new).entries ∷ shared rest) r
    by (Ok None) done = record { keyed = and_from _ _ (done.1 keys parts.0) parts.1; stands = λ q. done.0 q (held q (shared rest)) (none q) }
    by (Ok (Some left)) kept = (kept.0, ap (λ es. es ∷ shared rest) kept.1)
    by (Err why) kept = ap (λ es. es ∷ shared rest) kept
