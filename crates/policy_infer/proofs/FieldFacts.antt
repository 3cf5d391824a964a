-- Lists that are gone through side by side.
use Rattle.std.proofs.Common.{◌≡◌, ℕ, ◌+◌, ◌<◌, Bool, true, false, not, ◌&&◌, ◌||◌, suc, List, [], ◌∷◌, length, drop, get_or, map, Option, Some, refl, sym, ap, ◌∙◌, arith, add-one}
use Rattle.std.proofs.Math.Seq.{drop-cons}
use Rattle.std.specs.List.{list_all}
use Rattle.std.specs.Str.{bytes_eq}
use Rattle.std.proofs.lemmas.Slice.Eq.{bytes_eq-Decides}
use Rattle.policy_ast.specs.declared.bind.Bind.{Bind}
use Rattle.policy_ast.specs.declared.expr.Expr.{Expr}
use Rattle.policy_ast.specs.declared.pattern.Free.{Free}
use Rattle.policy_rules.specs.FieldLists.{are_distinct, are_leading_keys, arguments_fit, fit_fields, gap_fits, in_any_order, in_declared_order}
use Rattle.policy_rules.specs.Names.{Name, is_among}
use Rattle.policy_infer.specs.working.Answers.{AreNames}
use Rattle.policy_rules.specs.Scopes.{names_in}
use Rattle.policy_rules.specs.Types.{fits}
use Rattle.policy_rules.specs.declared.types.Named.{Named}
use Rattle.policy_rules.specs.declared.types.NamedType.{NamedType}

-- what is left at a place: the element there, and what is left behind it
pub left_at : {A : Type 0} (xs : List A) (i : ℕ) (x : A) → i < length xs → x ≡ get_or xs i x → drop i xs ≡ x ∷ drop (i + 1) xs
left_at xs i x lt is = drop-cons xs i x lt ∙ ap (λ y. y ∷ drop (suc i) xs) (sym is) ∙ ap (λ n. x ∷ drop n xs) (sym (add-one i))

and_false : (b : Bool) → (b && false) ≡ false
and_false true = refl
and_false false = refl

pub arguments_differ : (types : List NamedType) (parameters : List Named) → (length types ≡ length parameters → ⊥) → arguments_fit types parameters ≡ false
arguments_differ [] [] differ = absurd (differ refl)
arguments_differ [] (p ∷ parameters) differ = refl
arguments_differ (t ∷ types) [] differ = refl
arguments_differ (t ∷ types) (p ∷ parameters) differ = ap (λ b. fits t p.ty && b) (arguments_differ types parameters (λ is. differ (ap suc is))) ∙ and_false (fits t p.ty)

pub order_differs : (fields : List Named) (binds : List (Bind Expr)) (types : List NamedType) → (length binds ≡ length fields → ⊥)
    → in_declared_order fields (map (λ b. b.name) binds) types ≡ false
order_differs [] [] types differ = absurd (differ refl)
order_differs [] (b ∷ binds) types differ = refl
order_differs (f ∷ fields) [] types differ = refl
order_differs (f ∷ fields) (b ∷ binds) [] differ = refl
order_differs (f ∷ fields) (b ∷ binds) (t ∷ types) differ =
    ap (λ rest. bytes_eq b.name f.name && fits t f.ty && rest) (order_differs fields binds types (λ is. differ (ap suc is))) ∙ and_false (bytes_eq b.name f.name && fits t f.ty)

pub keys_lack : (keys : List Named) (fields : List (Free Expr)) (gaps : List (Option NamedType)) → length keys < length fields
    → are_leading_keys keys (map (λ f. f.name) fields) gaps ≡ false
keys_lack [] [] gaps lt = absurd (omega arith)
keys_lack [] (f ∷ fields) gaps lt = refl
keys_lack (k ∷ keys) [] gaps lt = absurd (omega arith)
keys_lack (k ∷ keys) (f ∷ fields) [] lt = refl
keys_lack (k ∷ keys) (f ∷ fields) (gap ∷ gaps) lt =
    ap (λ rest. bytes_eq f.name k.name && gap_fits gap (Some k.ty) && rest) (keys_lack keys fields gaps (omega arith)) ∙ and_false (bytes_eq f.name k.name && gap_fits gap (Some k.ty))

-- ---- distinct names

-- of the names none is in a set, and no two are the same
abbrev pub are_new : List Name → List Name → Bool
are_new set names = list_all (λ name. not (is_among name set)) names && are_distinct names

pub parted : (a b c d : Bool) → (not (a || b) && (c && not d)) ≡ ((not a && c) && not (b || d))
parted true b c d = refl
parted false true c d = sym (and_false c)
parted false false c d = refl

pub grouped : (a b c : Bool) → ((a && b) && c) ≡ (a && (b && c))
grouped true b c = refl
grouped false b c = refl

pub same_both : (a b : Name) → bytes_eq a b ≡ bytes_eq b a
same_both a b = by (bytes_eq a b) (bytes_eq b a) refl refl
  where
    by : (p q : Bool) → bytes_eq a b ≡ p → bytes_eq b a ≡ q → p ≡ q
    by true true is other = refl
    by false false is other = refl
    by true false is other = sym ((bytes_eq-Decides b a).1 (sym ((bytes_eq-Decides a b).0 is))) ∙ other
    by false true is other = sym is ∙ (bytes_eq-Decides a b).1 (sym ((bytes_eq-Decides b a).0 other))

others_new : (set added : List Name) (name : Name) (names : List Name) → ((q : Name) → is_among q added ≡ (is_among q set || bytes_eq q name))
    → list_all (λ q. not (is_among q added)) names ≡ (list_all (λ q. not (is_among q set)) names && not (is_among name names))
others_new set added name [] adds = refl
others_new set added name (n ∷ names) adds =
    ap (λ b. not b && list_all (λ q. not (is_among q added)) names) (adds n)
    ∙ ap (λ rest. not (is_among n set || bytes_eq n name) && rest) (others_new set added name names adds)
    ∙ parted (is_among n set) (bytes_eq n name) (list_all (λ q. not (is_among q set)) names) (is_among name names)
    ∙ ap (λ b. (not (is_among n set) && list_all (λ q. not (is_among q set)) names) && not (b || is_among name names)) (same_both n name)

-- the first of the names is new, and joins the set
pub one_new : (set added : List Name) (name : Name) (names : List Name) → is_among name set ≡ false → ((q : Name) → is_among q added ≡ (is_among q set || bytes_eq q name))
    → are_new added names ≡ are_new set (name ∷ names)
one_new set added name names new adds =
    ap (λ b. b && are_distinct names) (others_new set added name names adds)
    ∙ grouped (list_all (λ q. not (is_among q set)) names) (not (is_among name names)) (are_distinct names)
    ∙ ap (λ b. (not b && list_all (λ q. not (is_among q set)) names) && (not (is_among name names) && are_distinct names)) (sym new)

-- the first of the names isn't new
pub not_new : (set : List Name) (name : Name) (names : List Name) → is_among name set ≡ true → are_new set (name ∷ names) ≡ false
not_new set name names is = rw is refl

pub none_new : (names : List Name) → are_new [] names ≡ are_distinct names
none_new names = ap (λ b. b && are_distinct names) (all_new names)
  where
    all_new : (names : List Name) → list_all (λ q. not (is_among q [])) names ≡ true
    all_new [] = refl
    all_new (n ∷ names) = all_new names

joined_left : (a b c : Bool) → ((a || b) || c) ≡ (a || (b || c))
joined_left true b c = refl
joined_left false b c = refl

pub unset : (is_new is : Bool) → is_new ≡ not is → is_new ≡ true → is ≡ false
unset is_new true one other = sym other ∙ one
unset is_new false one other = refl

-- one turn of a loop that puts names into a set: what is left begins with a new name
pub names_turn : (set added all left : List Name) (name : Name) (rest : List Name) (is_new : Bool) → left ≡ name ∷ rest → is_new ≡ not (is_among name set) → is_new ≡ true
    → ((q : Name) → is_among q added ≡ (is_among q set || bytes_eq q name))
    → (are_new set left ≡ are_distinct all) × ((q : Name) → (is_among q set || is_among q left) ≡ is_among q all)
    → (are_new added rest ≡ are_distinct all) × ((q : Name) → (is_among q added || is_among q rest) ≡ is_among q all)
names_turn set added all left name rest is_new begins says is adds so_far = (
  one_new set added name rest (unset is_new (is_among name set) says is) adds ∙ ap (are_new set) (sym begins) ∙ so_far.0,
  λ q. ap (λ b. b || is_among q rest) (adds q) ∙ joined_left (is_among q set) (bytes_eq q name) (is_among q rest) ∙ ap (λ names. is_among q set || is_among q names) (sym begins) ∙ so_far.1 q,
)

-- what a set says of names is what their list says
pub all_among : (set names fields : List Name) → ((q : Name) → is_among q set ≡ is_among q names) → list_all (λ field. is_among field set) fields ≡ list_all (λ field. is_among field names) fields
all_among set names [] same = refl
all_among set names (f ∷ fields) same = ap (λ b. b && list_all (λ field. is_among field set) fields) (same f) ∙ ap (λ rest. is_among f names && rest) (all_among set names fields same)

-- each field once, where the names are distinct and each is a field's
pub order_by_set : (fields : List Named) (names set : List Name) (types : List NamedType) → AreNames names (Some set) → fit_fields fields names types ≡ true
    → list_all (λ field. is_among field set) (names_in fields) ≡ in_any_order fields names types
order_by_set fields names set types are fit = all_among set names (names_in fields) are.1 ∙ rw (are.0, fit) refl
