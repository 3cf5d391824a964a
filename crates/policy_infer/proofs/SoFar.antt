-- Loops over the elements of a list, each of which may have no type.
use Rattle.std.proofs.Common.{◌≡◌, ℕ, Bool, true, false, ◌+◌, ◌<◌, List, [], ◌∷◌, ◌++◌, length, drop, get_or, Option, Some, None, Result, Ok, Err, option_map, refl, sym, ap, subst, ◌∙◌}
use Rattle.std.proofs.lemmas.List.{append_assoc, append-nil, length-append}
use Rattle.std.proofs.Math.Seq.{drop-length}
use Rattle.policy_ast.specs.declared.expr.Let.{Let}
use Rattle.policy_ast.specs.declared.expr.Expr.{Expr}
use Rattle.policy_ast.specs.declared.item.Item.{Item}
use Rattle.policy_infer.proofs.FieldFacts.{left_at}
use Rattle.policy_infer.proofs.ScopeFacts.{keeps_all, keeps_both}
use Rattle.policy_infer.specs.declared.refusal.Refusal.{Refusal}
use Rattle.policy_infer.specs.declared.refusal.Refusal.TheVariants as refusal
use Rattle.policy_infer.specs.working.Answers.{Infers, InfersEach, InfersWithin, Judges, Keeps, Leads}
use Rattle.policy_infer.specs.working.Types.{block_of, introduced, lets_behind, type_of}
use Rattle.policy_rules.specs.Scopes.{Scope, may_introduce, with_name}
use Rattle.policy_rules.specs.declared.context.Context.{Context}
use Rattle.policy_rules.specs.declared.types.NamedType.{NamedType}
use Rattle.policy_rules.specs.Inference.{◌>>=◌, only_if}

-- an element is refused, so the whole is
pub refused : {A B : Type 0} (r : Refusal) (o : Option A) (p : Option B) → (o ≡ None → p ≡ None) → Judges {A = A} (Err r) o → Judges {A = B} (Err r) p
refused refusal.IllTyped o p so is = so is
refused refusal.NoMemory o p so is = tt

unwrapped : {A : Type 0} {x y : A} → Some x ≡ Some y → x ≡ y
unwrapped is = cc

nothing : {A P : Type 0} {x : A} → None ≡ Some x → P
nothing is = cc

pushed : {B : Type 0} (made : List B) (y : B) (o : Option (List B)) → option_map (λ rest. (made ++ y ∷ []) ++ rest) o ≡ option_map (λ rest. made ++ rest) (option_map (λ ys. y ∷ ys) o)
pushed made y None = refl
pushed made y (Some rest) = ap Some (append_assoc made (y ∷ []) rest)

mapped : {A B C : Type 0} (f : A → B) (g : B → C) (o : Option A) → option_map g (option_map f o) ≡ option_map (λ x. g (f x)) o
mapped f g None = refl
mapped f g (Some x) = refl

unmapped : {A B : Type 0} (f : A → B) (o : Option A) → option_map f o ≡ None → o ≡ None
unmapped f None is = refl
unmapped f (Some x) is = nothing (sym is)

pub itself : {A : Type 0} (o : Option A) → o ≡ option_map (λ x. x) o
itself None = refl
itself (Some x) = refl

-- ---- a list that is made element by element

-- What was made so far, and what is to be made of the rest, are the whole; the scope is as it was.
pub record SoFar {A B : Type 0} (of : List A → Scope → Option (List B)) (all : List A) (before now : Scope) (i : ℕ) (made : List B) : Type 0 where
  pub so_far : option_map (λ more. made ++ more) (of (drop i all) before) ≡ of all before
  pub sized : length made ≡ i
  pub kept : now ≡ before

module _ {A B : Type 0} (of : List A → Scope → Option (List B)) (one : A → Scope → Option B)
    (step : (x : A) (xs : List A) (scope : Scope) → of (x ∷ xs) scope ≡ (one x scope >>= λ y. option_map (λ ys. y ∷ ys) (of xs scope))) (none : (scope : Scope) → of [] scope ≡ Some []) where
  pub begins : (all : List A) (before : Scope) → SoFar of all before before 0 []
  begins all before = record { so_far = by (of all before); sized = refl; kept = refl }
    where
      by : (o : Option (List B)) → option_map (λ more. more) o ≡ o
      by None = refl
      by (Some ys) = refl

  whole : {all : List A} {before now : Scope} {i : ℕ} {made : List B} → SoFar of all before now i made → (x : A) → i < length all → x ≡ get_or all i x
      → of all before ≡ option_map (λ more. made ++ more) (one x before >>= λ y. option_map (λ ys. y ∷ ys) (of (drop (i + 1) all) before))
  whole {all} {before} {now} {i} {made} p x lt is =
      sym p.so_far ∙ ap (λ xs. option_map (λ more. made ++ more) (of xs before)) (left_at all i x lt is)
      ∙ ap (option_map (λ more. made ++ more)) (step x (drop (i + 1) all) before)

  more_made : {all : List A} {before now after : Scope} {i : ℕ} {made more : List B} → SoFar of all before now i made → (x : A) → i < length all → x ≡ get_or all i x
      → option_map (λ y. made ++ y ∷ []) (one x now) ≡ Some more → after ≡ now → SoFar of all before after (i + 1) more
  more_made {all} {before} {now} {after} {i} {made} {more} p x lt is adds same = by (one x before) refl
    where
      by : (o : Option B) → one x before ≡ o → SoFar of all before after (i + 1) more
      by None isnt = nothing (sym (ap (λ scope. option_map (λ y. made ++ y ∷ []) (one x scope)) p.kept ∙ ap (option_map (λ y. made ++ y ∷ [])) isnt) ∙ adds)
      by (Some y) gives =
          let more_is : more ≡ made ++ y ∷ [] = unwrapped (sym adds ∙ ap (λ scope. option_map (λ y. made ++ y ∷ []) (one x scope)) p.kept ∙ ap (option_map (λ y. made ++ y ∷ [])) gives) in
          record {
            so_far =
                ap (λ ys. option_map (λ rest. ys ++ rest) (of (drop (i + 1) all) before)) more_is ∙ pushed made y (of (drop (i + 1) all) before)
                ∙ ap (λ o. option_map (λ rest. made ++ rest) (o >>= λ y. option_map (λ ys. y ∷ ys) (of (drop (i + 1) all) before))) (sym gives)
                ∙ sym (whole p x lt is);
            sized = ap length more_is ∙ length-append made (y ∷ []) ∙ ap (λ n. n + 1) p.sized;
            kept = same ∙ p.kept;
          }

  fails : {all : List A} {before now : Scope} {i : ℕ} {made : List B} → SoFar of all before now i made → (x : A) → i < length all → x ≡ get_or all i x → one x now ≡ None
      → of all before ≡ None
  fails {all} {before} {now} {i} {made} p x lt is isnt =
      whole p x lt is ∙ ap (λ o. option_map (λ more. made ++ more) (o >>= λ y. option_map (λ ys. y ∷ ys) (of (drop (i + 1) all) before))) (ap (one x) (sym p.kept) ∙ isnt)

  -- the element's type is found, and joins those that were made
  pub turns : {C : Type 0} {all : List A} {before now after : Scope} {i : ℕ} {made more : List B} {found : Result C Refusal} {part : Scope → Option C} → SoFar of all before now i made
      → (x : A) (wrap : C → B) → i < length all → x ≡ get_or all i x → ((scope : Scope) → one x scope ≡ option_map wrap (part scope)) → Infers found part now after
      → ((o : Option C) → Judges found o → Judges {A = List B} (Ok more) (option_map (λ c. made ++ wrap c ∷ []) o)) → SoFar of all before after (i + 1) more
  turns {now = now} {made = made} {part = part} p x wrap lt is parts q adds =
      more_made p x lt is (ap (option_map (λ y. made ++ y ∷ [])) (parts now) ∙ mapped wrap (λ y. made ++ y ∷ []) (part now) ∙ adds (part now) q.judged) q.kept

  -- it has none, or memory is wanting
  pub stops : {C : Type 0} {all : List A} {before now after : Scope} {i : ℕ} {made : List B} {found : Result C Refusal} {part : Scope → Option C} → SoFar of all before now i made
      → (x : A) (wrap : C → B) (r : Refusal) (n : ℕ) → i < length all → x ≡ get_or all i x → ((scope : Scope) → one x scope ≡ option_map wrap (part scope)) → Infers found part now after
      → ((o : Option C) → Judges found o → Judges {A = List B} (Err r) (option_map (λ c. made ++ wrap c ∷ []) o)) → InfersEach (Err r) (of all) before after n
  stops {all = all} {before = before} {now = now} {made = made} {part = part} p x wrap r n lt is parts q adds =
      record {
        judged =
            refused r (option_map (λ c. made ++ wrap c ∷ []) (part now)) (of all before)
            (λ isnt. fails p x lt is (parts now ∙ ap (option_map wrap) (unmapped (λ c. made ++ wrap c ∷ []) (part now) isnt))) (adds (part now) q.judged);
        kept = q.kept ∙ p.kept;
        sized = tt;
      }

  -- a `?` stands in its place
  pub gap_turns : {all : List A} {before now : Scope} {i : ℕ} {made more : List B} → SoFar of all before now i made → (x : A) (y : B) → i < length all → x ≡ get_or all i x
      → ((scope : Scope) → one x scope ≡ Some y) → more ≡ made ++ y ∷ [] → SoFar of all before now (i + 1) more
  gap_turns {now = now} {made = made} p x y lt is gives adds = more_made p x lt is (ap (option_map (λ y. made ++ y ∷ [])) (gives now) ∙ ap Some (sym adds)) refl

  pub lacks : {all : List A} {before now : Scope} {i : ℕ} {made : List B} → SoFar of all before now i made → (n : ℕ) → InfersEach (Err refusal.NoMemory) (of all) before now n
  lacks p n = record { judged = tt; kept = p.kept; sized = tt }

  pub ends : {all : List A} {before now : Scope} {i : ℕ} {made : List B} → SoFar of all before now i made → i ≡ length all → InfersEach (Ok made) (of all) before now (length all)
  ends {all} {before} {now} {i} {made} p is =
      record {
        judged = sym p.so_far ∙ ap (λ xs. option_map (λ more. made ++ more) (of xs before)) (at_end is) ∙ ap (option_map (λ more. made ++ more)) (none before) ∙ ap Some (append-nil made);
        kept = p.kept;
        sized = p.sized ∙ is;
      }
    where
      at_end : i ≡ length all → drop i all ≡ []
      at_end is = ap (λ n. drop n all) is ∙ drop-length all

-- ---- the `let`s of a block

module _ (items : List Item) (context : Context) where
  -- What is left to introduce leads on from the scope as it is now, which begins as it was lent.
  pub record Led (all : List (Let Expr)) (before now : Scope) (i : ℕ) : Type 0 where
    pub leads : lets_behind items context (drop i all) now ≡ lets_behind items context all before
    pub keeps : Keeps before now

  pub led : (all : List (Let Expr)) (before : Scope) → Led all before before 0
  led all before = record { leads = refl; keeps = keeps_all before }

  next : {all : List (Let Expr)} {before now : Scope} {i : ℕ} → Led all before now i → (l : Let Expr) → i < length all → l ≡ get_or all i l
      → lets_behind items context all before
      ≡ (type_of items context l.value now >>= λ t. only_if (may_introduce items context now l.name) (lets_behind items context (drop (i + 1) all) (with_name now l.name t)))
  next {all} {before} {now} {i} p l lt is = sym p.leads ∙ ap (λ lets. lets_behind items context lets now) (left_at all i l lt is)

  led_by : (b : Bool) (w : NamedType → Scope) (f : Scope → Option Scope) (o : Option NamedType) → (o >>= λ t. only_if b (f (w t))) ≡ ((o >>= λ t. only_if b (Some (w t))) >>= f)
  led_by b w f None = refl
  led_by true w f (Some t) = refl
  led_by false w f (Some t) = refl

  one_led : {all : List (Let Expr)} {before now : Scope} {i : ℕ} → Led all before now i → (l : Let Expr) → i < length all → l ≡ get_or all i l
      → lets_behind items context all before ≡ (introduced items context l.name now (type_of items context l.value now) >>= λ after. lets_behind items context (drop (i + 1) all) after)
  one_led {all} {before} {now} {i} p l lt is =
      next p l lt is
      ∙ led_by (may_introduce items context now l.name) (with_name now l.name) (lets_behind items context (drop (i + 1) all)) (type_of items context l.value now)

  pub led_on : {all : List (Let Expr)} {before now middle after : Scope} {i : ℕ} {found : Result NamedType Refusal} → Led all before now i → (l : Let Expr) → i < length all → l ≡ get_or all i l
      → Infers found (type_of items context l.value) now middle → ((o : Option NamedType) → Judges found o → Leads (Ok tt) (introduced items context l.name middle o) after) → Keeps middle after
      → Led all before after (i + 1)
  led_on {all} {before} {now} {middle} {after} {i} p l lt is q leads keeps =
      let gives : introduced items context l.name now (type_of items context l.value now) ≡ Some after =
      subst (λ scope. introduced items context l.name scope (type_of items context l.value now) ≡ Some after) q.kept (leads (type_of items context l.value now) q.judged) in
      record {
        leads = sym (one_led p l lt is ∙ ap (λ o. o >>= λ after. lets_behind items context (drop (i + 1) all) after) gives);
        keeps = keeps_both before middle after (subst (Keeps before) (sym q.kept) p.keeps) keeps;
      }

  -- a `let` is refused
  pub let_stops : {all : List (Let Expr)} {before now middle after : Scope} {i : ℕ} {found : Result NamedType Refusal} → Led all before now i → (l : Let Expr) (e : Expr) (r : Refusal)
      → i < length all → l ≡ get_or all i l → Infers found (type_of items context l.value) now middle
      → ((o : Option NamedType) → Judges found o → Leads (Err r) (introduced items context l.name middle o) after) → Keeps middle after
      → InfersWithin {A = NamedType} (Err r) (block_of items context (record { lets = all; value = e })) before after
  let_stops {all} {before} {now} {middle} {after} {i} p l e r lt is q leads keeps =
      record { judged = by r (leads (type_of items context l.value now) q.judged); kept = keeps_both before middle after (subst (Keeps before) (sym q.kept) p.keeps) keeps }
    where
      by : (r : Refusal) → Leads (Err r) (introduced items context l.name middle (type_of items context l.value now)) after
          → Judges {A = NamedType} (Err r) (lets_behind items context all before >>= λ inner. type_of items context e inner)
      by refusal.IllTyped isnt =
          ap (λ o. o >>= λ inner. type_of items context e inner)
          (one_led p l lt is
          ∙ ap (λ o. o >>= λ after. lets_behind items context (drop (i + 1) all) after)
          (subst (λ scope. introduced items context l.name scope (type_of items context l.value now) ≡ None) q.kept isnt))
      by refusal.NoMemory isnt = tt

  -- all names are introduced, and the block's value is left
  pub let_ends : {all : List (Let Expr)} {before now after : Scope} {i : ℕ} {r : Result NamedType Refusal} → Led all before now i → (e : Expr) → i ≡ length all
      → Infers r (type_of items context e) now after → InfersWithin r (block_of items context (record { lets = all; value = e })) before after
  let_ends {all} {before} {now} {after} {i} {r} p e is q =
      record {
        judged = subst (λ o. Judges r (o >>= λ inner. type_of items context e inner)) (sym (ap (λ lets. lets_behind items context lets now) (at_end is)) ∙ p.leads) q.judged;
        kept = subst (Keeps before) (sym q.kept) p.keeps;
      }
    where
      at_end : i ≡ length all → drop i all ≡ []
      at_end is = ap (λ n. drop n all) is ∙ drop-length all
