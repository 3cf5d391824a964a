-- The least place behind a bound, in one layer and in several.
use Rattle.std.proofs.Common.{◌≡◌, Bool, true, false, ◌&&◌, ◌||◌, cond, List, [], ◌∷◌, ◌++◌, Option, Some, None, is_some, Ordering, Less, Equal, Greater, is_eq, is_le, is_lt, refl, sym, ap, subst, ◌∙◌}
use Rattle.std.proofs.lemmas.Bool.{and_parts, false_from_ne_true, false≢true, or_from, or_left, or_parts, or_right}
use Rattle.std.proofs.lemmas.Map.{lookup-none}
use Rattle.std.proofs.lemmas.Map.Entries.{none_below_head}
use Rattle.std.proofs.lemmas.Map.Keys.{sorted_tail}
use Rattle.std.specs.BTreeMap.Range.{entries_between}
use Rattle.std.proofs.lemmas.Cmp.{alike_right, tied_back, tied_itself}
use Rattle.std.specs.List.{list_any}
use Rattle.std.specs.List.Sorted.{IsStrictlySortedBy}
use Rattle.std.specs.Map.{keys_of}
use Rattle.std.specs.Ordering.{ordering_reverse}
use Rattle.std.specs.declared.ops.Bound.{Bound}
use Rattle.std.specs.declared.ops.Bound.TheVariants.{Excluded, Included, Unbounded}
use Rattle.fact_store.specs.declared.wanted.Wanted.{Wanted}
use Rattle.fact_store.specs.Rows.{are_keys}
use Rattle.fact_store.specs.working.Orders.{wanted_order, wanted_order_total}
use Rattle.fact_layers.specs.Layers.{Entries, Said}
use Rattle.fact_layers.specs.working.Nearest.{IsLeast, IsNearest, is_behind, is_less, is_spoken, lesser}
use Rattle.fact_layers.specs.working.Said.{above, are_all_keyed, are_keyed, at, held, said}
use Rattle.fact_layers.proofs.Alike.{alike}

pub is-Less : (o : Ordering) → is_lt o ≡ true → o ≡ Less
is-Less Less is = refl
is-Less Equal is = absurd (false≢true is)
is-Less Greater is = absurd (false≢true is)

pub is-Equal : (o : Ordering) → is_eq o ≡ true → o ≡ Equal
is-Equal Less is = absurd (false≢true is)
is-Equal Equal is = refl
is-Equal Greater is = absurd (false≢true is)

pub is-Greater : (o : Ordering) → is_lt o ≡ false → is_eq o ≡ false → o ≡ Greater
is-Greater Less is apart = absurd (false≢true (sym is))
is-Greater Equal is apart = absurd (false≢true (sym apart))
is-Greater Greater is apart = refl

-- places that are tied stand behind the same bounds
pub behind-tied : (from : Bound Wanted) (a b : Wanted) → at a b ≡ true → is_behind from a ≡ is_behind from b
behind-tied (Included c) a b tied = ap is_le (alike_right wanted_order_total a b c (is-Equal _ tied))
behind-tied (Excluded c) a b tied = ap is_lt (alike_right wanted_order_total a b c (is-Equal _ tied))
behind-tied Unbounded a b tied = refl

-- ---- one layer

abbrev first_key : Entries → Option Wanted
first_key [] = None
first_key (e ∷ es) = Some e.0

-- an entry that isn't behind the bound changes nothing
passed : (from : Bound Wanted) (e : Wanted × Said) (es : Entries) → is_behind from e.0 ≡ false → (q : Wanted) → is_behind from q ≡ true → is_spoken q ((e ∷ es) ∷ []) ≡ is_spoken q (es ∷ [])
passed from e es before q behind =
    let apart : at q e.0 ≡ false = false_from_ne_true (at q e.0) (λ tied. false≢true (sym before ∙ sym (behind-tied from q e.0 tied) ∙ behind)) in
    rw apart refl

nearest-passed : (from : Bound Wanted) (e : Wanted × Said) (es : Entries) (found : Option Wanted) → is_behind from e.0 ≡ false → IsNearest from (es ∷ []) found → IsNearest from ((e ∷ es) ∷ []) found
nearest-passed from e es None before is = λ q behind. passed from e es before q behind ∙ is q behind
nearest-passed from e es (Some place) before is =
    record { behind = is.behind; spoken = passed from e es before place is.behind ∙ is.spoken; first = λ q behind less. passed from e es before q behind ∙ is.first q behind less }

pub nearest-in : (from : Bound Wanted) (es : Entries) → IsStrictlySortedBy wanted_order (keys_of es) → IsNearest from (es ∷ []) (first_key (entries_between wanted_order from Unbounded es))
nearest-in from [] sorted = λ q behind. refl
nearest-in from (e ∷ es) sorted = by (is_behind from e.0) refl (nearest-in from es (sorted_tail wanted_order e.0 (keys_of es) sorted))
  where
    by : (b : Bool) → is_behind from e.0 ≡ b → IsNearest from (es ∷ []) (first_key (entries_between wanted_order from Unbounded es))
        → IsNearest from ((e ∷ es) ∷ []) (first_key (cond (b && true) (e ∷ entries_between wanted_order from Unbounded es) (entries_between wanted_order from Unbounded es)))
    by true is more =
        record {
          behind = is;
          spoken = rw (ap is_eq (tied_itself wanted_order_total e.0)) refl;
          first = λ q behind less. or_from _ _ (ap is_some (lookup-none (at q) (e ∷ es) (none_below_head wanted_order_total q e es sorted (is-Less _ less)))) refl;
        }
    by false is more = nearest-passed from e es _ is more

pub nearest-found : (from : Bound Wanted) (es rest behind : Entries) (e : Wanted × Said) → IsStrictlySortedBy wanted_order (keys_of es) → rest ≡ entries_between wanted_order from Unbounded es → rest ≡ e ∷ behind → IsLeast from (es ∷ []) e.0
nearest-found from es rest behind e sorted is first = subst (λ (es' : Entries). IsNearest from (es ∷ []) (first_key es')) (sym is ∙ first) (nearest-in from es sorted)

pub nearest-none : (from : Bound Wanted) (es rest : Entries) → IsStrictlySortedBy wanted_order (keys_of es) → rest ≡ entries_between wanted_order from Unbounded es → rest ≡ [] → IsNearest from (es ∷ []) None
nearest-none from es rest sorted is none = subst (λ (es' : Entries). IsNearest from (es ∷ []) (first_key es')) (sym is ∙ none) (nearest-in from es sorted)

-- ---- several layers

any-append : {X : Type 0} (p : X → Bool) (xs ys : List X) → list_any p (xs ++ ys) ≡ (list_any p xs || list_any p ys)
any-append p [] ys = refl
any-append p (x ∷ xs) ys = by (p x) (any-append p xs ys)
  where
    by : (b : Bool) → list_any p (xs ++ ys) ≡ (list_any p xs || list_any p ys) → (b || list_any p (xs ++ ys)) ≡ ((b || list_any p xs) || list_any p ys)
    by true more = refl
    by false more = more

spoken-append : (q : Wanted) (layers others : List Entries) → is_spoken q (layers ++ others) ≡ (is_spoken q layers || is_spoken q others)
spoken-append q layers others = any-append (λ layer. is_some (said q layer)) layers others

-- what is less than the one and isn't behind the other
less-trans : (a b c : Wanted) → is_less a b ≡ true → is_less b c ≡ true → is_less a c ≡ true
less-trans a b c first second = ap is_lt (wanted_order_total.trans a b c (is-Less _ first) (is-Less _ second))

less-le : (a b c : Wanted) → is_less a b ≡ true → is_less c b ≡ false → is_less a c ≡ true
less-le a b c less not_less = by (wanted_order c b) refl not_less
  where
    by : (o : Ordering) → wanted_order c b ≡ o → is_lt o ≡ false → is_less a c ≡ true
    by Less is not = absurd (false≢true (sym not))
    by Equal is not = ap is_lt (alike_right wanted_order_total c b a is) ∙ less
    by Greater is not = less-trans a b c less (ap is_lt (wanted_order_total.antisymm b c ∙ ap ordering_reverse is))

pub nearest-append : (from : Bound Wanted) (layers others : List Entries) (a b : Option Wanted) → IsNearest from layers a → IsNearest from others b → IsNearest from (layers ++ others) (lesser a b)
nearest-append from layers others None None one two = λ q behind. spoken-append q layers others ∙ or_from _ _ (one q behind) (two q behind)
nearest-append from layers others None (Some b) one two =
    record {
      behind = two.behind;
      spoken = spoken-append b layers others ∙ or_right _ _ two.spoken;
      first = λ q behind less. spoken-append q layers others ∙ or_from _ _ (one q behind) (two.first q behind less);
    }
nearest-append from layers others (Some a) None one two =
    record {
      behind = one.behind;
      spoken = spoken-append a layers others ∙ or_left _ _ one.spoken;
      first = λ q behind less. spoken-append q layers others ∙ or_from _ _ (one.first q behind less) (two q behind);
    }
nearest-append from layers others (Some a) (Some b) one two = by (is_less b a) refl
  where
    by : (t : Bool) → is_less b a ≡ t → IsNearest from (layers ++ others) (cond t (Some b) (Some a))
    by true is =
        record {
          behind = two.behind;
          spoken = spoken-append b layers others ∙ or_right _ _ two.spoken;
          first = λ q behind less. spoken-append q layers others ∙ or_from _ _ (one.first q behind (less-trans q b a less is)) (two.first q behind less);
        }
    by false is =
        record {
          behind = one.behind;
          spoken = spoken-append a layers others ∙ or_left _ _ one.spoken;
          first = λ q behind less. spoken-append q layers others ∙ or_from _ _ (one.first q behind less) (two.first q behind (less-le q a b less is));
        }

-- ---- what is spoken of

-- what no layer speaks of doesn't stand
pub unspoken : (q : Wanted) (layers : List Entries) → is_spoken q layers ≡ false → held q layers ≡ None
unspoken q [] none = refl
unspoken q (layer ∷ layers) none = let parts = or_parts (is_some (said q layer)) (is_spoken q layers) none in by (said q layer) parts.0 (unspoken q layers parts.1)
  where
    by : (s : Option Said) → is_some s ≡ false → held q layers ≡ None → above s (held q layers) ≡ None
    by None is more = more
    by (Some says) is more = absurd (false≢true (sym is))

said-keyed : (q : Wanted) (es : Entries) → are_keyed es ≡ true → is_some (said q es) ≡ true → are_keys q.keys ≡ true
said-keyed q [] keyed is = absurd (false≢true is)
said-keyed q (e ∷ es) keyed is = let parts = and_parts (are_keys e.0.keys) (are_keyed es) keyed in by (at q e.0) refl parts.0 is (said-keyed q es parts.1)
  where
    by : (b : Bool) → at q e.0 ≡ b → are_keys e.0.keys ≡ true → is_some (cond b (Some e.1) (said q es)) ≡ true → (is_some (said q es) ≡ true → are_keys q.keys ≡ true) → are_keys q.keys ≡ true
    by true tied keys found more = ap are_keys (sym (alike e.0 q keys (ap is_eq (tied_back wanted_order_total q e.0 (is-Equal _ tied)))).keys) ∙ keys
    by false tied keys found more = more found

-- what a layer speaks of is of key values
pub spoken-keyed : (q : Wanted) (layers : List Entries) → are_all_keyed layers ≡ true → is_spoken q layers ≡ true → are_keys q.keys ≡ true
spoken-keyed q [] keyed is = absurd (false≢true is)
spoken-keyed q (layer ∷ layers) keyed is =
    let parts = and_parts (are_keyed layer) (are_all_keyed layers) keyed in by (is_some (said q layer)) refl parts.0 is (spoken-keyed q layers parts.1)
  where
    by : (b : Bool) → is_some (said q layer) ≡ b → are_keyed layer ≡ true → (b || is_spoken q layers) ≡ true → (is_spoken q layers ≡ true → are_keys q.keys ≡ true) → are_keys q.keys ≡ true
    by true found here spoken more = said-keyed q layer here found
    by false found here spoken more = more spoken
