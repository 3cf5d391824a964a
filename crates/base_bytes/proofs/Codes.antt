-- A form with a reading is unambiguous, and a reading to the end answers as the form asks.
use Rattle.std.proofs.Common.{◌≡◌, ◌==◌, ℕ, Bool, true, false, List, [], ◌++◌, length, Option, Some, None, Result, Ok, Err, refl, sym, ap, ◌∙◌}
use Rattle.std.specs.Prelude.{IfErr, IfOk, IfSome, IfNone}
use Rattle.std.specs.Option.{option_and_then}
use Rattle.std.proofs.lemmas.Bool.{eqb-true}
use Rattle.std.proofs.lemmas.List.{append-nil, nil_from_length}
use Rattle.std.proofs.lemmas.Option.{some_pair_parts}
use Rattle.base_bytes.specs.Laws.{IsUnambiguous}
use Rattle.base_bytes.specs.Reading.{Reading, Reads, ReadsAll, ended, inside, or_none}
use Rattle.base_bytes.specs.declared.unread.Unread.{Unread}
use Rattle.base_bytes.specs.declared.unread.Unread.TheVariants as unread

-- one reading finds both values, whatever follows them
pub record IsReadBy {A : Type 0} (read : Reading A) (x : A) (told : List ℕ) : Type 0 where
  pub found : (rest : List ℕ) → read (told ++ rest) ≡ Some (x, rest)

module _ {A : Type 0} {IsSpelled : A → List ℕ → Type 0}
    (both : (x y : A) (told others : List ℕ) → IsSpelled x told → IsSpelled y others → (read : Reading A) × IsReadBy read x told × IsReadBy read y others)
    (spelled : (x : A) (told others : List ℕ) → IsSpelled x told → IsSpelled x others → told ≡ others) where
  same_front : (x y : A) (told others more rest : List ℕ) → IsSpelled x told → IsSpelled y others → told ++ more ≡ others ++ rest → (x ≡ y) × (more ≡ rest)
  same_front x y told others more rest is is_too same =
      let r = both x y told others is is_too in
      some_pair_parts x y more rest (sym (r.1.found more) ∙ ap r.0 same ∙ r.2.found rest)

  pub unambiguous : IsUnambiguous IsSpelled
  unambiguous = record {
    again = same_front;
    none_begins_another = λ x y told more is is_too. (same_front x y told (told ++ more) more [] is is_too (sym (append-nil (told ++ more)))).1;
    one_value = λ x y told is is_too. (same_front x y told told [] [] is is_too refl).0;
    one_spelling = spelled;
  }

module _ {A : Type 0} (answer : Result A Unread) (found : Option (A × List ℕ)) (reads : ReadsAll answer found) where
  pub found_in_form : (IsRead : A → Type 0) → ((x : A) → found ≡ Some (x, []) → IsRead x) → IfOk (or_none answer) (λ o. IfSome o IsRead)
  found_in_form IsRead form = found_by answer reads
    where
      found_by : (it : Result A Unread) → ReadsAll it found → IfOk (or_none it) (λ o. IfSome o IsRead)
      found_by (Ok x) is = form x is
      found_by (Err unread.Malformed) is = tt
      found_by (Err unread.NoMemory) is = tt

  pub none_in_form : (IsRead : A → Type 0) → ((x : A) → IsRead x → found ≡ Some (x, [])) → IfOk (or_none answer) (λ o. IfNone o ((x : A) → IsRead x → ⊥))
  none_in_form IsRead form = none_by answer reads
    where
      none_by : (it : Result A Unread) → ReadsAll it found → IfOk (or_none it) (λ o. IfNone o ((x : A) → IsRead x → ⊥))
      none_by (Ok x) is = tt
      none_by (Err unread.Malformed) is = λ x in_form. is x (form x in_form)
      none_by (Err unread.NoMemory) is = tt

-- where a call found nothing at the front, nothing of the form stands there
pub none_at_front : {A : Type 0} (answer : Result A Unread) (rest : List ℕ) (found : Option (A × List ℕ)) → Reads (λ x. x) answer rest found → (IsFront : A → List ℕ → Type 0) → ((x : A) (left : List ℕ) → IsFront x left → found ≡ Some (x, left))
    → IfErr answer (λ error. error ≡ unread.Malformed → (x : A) (left : List ℕ) → IsFront x left → ⊥)
none_at_front (Ok x) rest found is IsFront form = tt
none_at_front (Err unread.Malformed) rest found is IsFront form = λ same x left in_form. let some = form x left in_form in absurd (cc)
none_at_front (Err unread.NoMemory) rest found is IsFront form = λ same. absurd (cc)

not_ended : {A : Type 0} (found : Option (A × List ℕ)) → ((x : A) → found ≡ Some (x, []) → ⊥) → option_and_then ended found ≡ None
not_ended None refused = refl
not_ended {A} (Some found) refused = by_test (length found.1 == 0) refl
  where
    by_test : (b : Bool) → (length found.1 == 0) ≡ b → ended found ≡ None
    by_test true is = absurd (refused found.0 (ap (λ z. let both : A × List ℕ = (found.0, z) in Some both) (nil_from_length found.1 (eqb-true _ _ is))))
    by_test false is = rw is refl

-- a piece that is read to its end
pub reads_inside : {A : Type 0} (answer : Result A Unread) (piece : Reading (List ℕ)) (read : Reading A) (bytes told rest : List ℕ) → piece bytes ≡ Some (told, rest) → ReadsAll answer (read told) → Reads (λ x. x) answer rest (inside piece read bytes)
reads_inside (Ok x) piece read bytes told rest found is = rw (found, is) refl
reads_inside (Err unread.Malformed) piece read bytes told rest found is = rw (found, not_ended (read told) is) refl
reads_inside (Err unread.NoMemory) piece read bytes told rest found is = tt
