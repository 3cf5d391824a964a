-- The entries of a map in which each command stands under its id.
use Rattle.std.proofs.Common.{◌≡◌, ℕ, ◌+◌, Bool, true, false, cond, not, nat_lt, List, [], ◌∷◌, ◌++◌, length, map, slice_get, Some, None, option_map, refl, sym, ap, subst, ◌∙◌}
use Rattle.std.specs.List.{position, prefix_len}
use Rattle.std.specs.Map.{lookup}
use Rattle.std.specs.Str.{bytes_eq}
use Rattle.std.proofs.lemmas.List.{length-map, map-append}
use Rattle.std.proofs.lemmas.Option.{slice_get-map}
use Rattle.command.specs.declared.command.Command.{Command}
use Rattle.command.specs.Closed.{IsHeld, has_id, place_of}
use Rattle.command.specs.Wire.{command_id}
use Rattle.command.proofs.ClosedFacts.{by_left, by_right}

abbrev pub Entries : Type 0
Entries = List (List ℕ × Command)

abbrev pub ids : Entries → List (List ℕ)
ids es = map (λ e. e.0) es

abbrev pub commands : Entries → List Command
commands es = map (λ e. e.1) es

-- the id that stands at a place is that of the command there
pub id_there : (es : Entries) (place : ℕ) (id : List ℕ) (c : Command) → ids es ≡ map command_id (commands es) → Some (id, c) ≡ slice_get es place → option_map command_id (slice_get (commands es) place) ≡ Some id
id_there es place id c named is =
    sym (slice_get-map command_id (commands es) place) ∙ ap (λ ks. slice_get ks place) (sym named) ∙ slice_get-map (λ (e : List ℕ × Command). e.0) es place ∙ sym (ap (option_map (λ (e : List ℕ × Command). e.0)) is)

-- where no entry stands there is no command
pub none_there : (es : Entries) (place : ℕ) → slice_get es place ≡ None → slice_get (commands es) place ≡ None
none_there es place is = slice_get-map (λ (e : List ℕ × Command). e.1) es place ∙ ap (option_map (λ (e : List ℕ × Command). e.1)) is

prefix_len-map : {A B : Type 0} (p : B → Bool) (f : A → B) (xs : List A) → prefix_len p (map f xs) ≡ prefix_len (λ x. p (f x)) xs
prefix_len-map p f [] = refl
prefix_len-map p f (x ∷ xs) = ap (λ n. cond (p (f x)) (1 + n) 0) (prefix_len-map p f xs)

pub position-map : {A B : Type 0} (p : B → Bool) (f : A → B) (xs : List A) → position p (map f xs) ≡ position (λ x. p (f x)) xs
position-map p f xs =
    ap (λ n. cond (nat_lt n (length (map f xs))) (Some n) None) (prefix_len-map (λ y. not (p y)) f xs)
    ∙ ap (λ m. cond (nat_lt (prefix_len (λ x. not (p (f x))) xs) m) (Some (prefix_len (λ x. not (p (f x))) xs)) None) (length-map xs f)

pub found_place : (es : Entries) (id : List ℕ) → ids es ≡ map command_id (commands es) → position (bytes_eq id) (ids es) ≡ place_of (commands es) id
found_place es id named = ap (position (bytes_eq id)) named ∙ position-map (bytes_eq id) command_id (commands es)

is_false : (b : Bool) → (b ≡ true → ⊥) → b ≡ false
is_false true h = absurd (h refl)
is_false false h = refl

-- an id that no command has is no key
pub absent : (es : Entries) (id : List ℕ) → ids es ≡ map command_id (commands es) → (IsHeld (commands es) id → ⊥) → lookup (bytes_eq id) es ≡ None
absent [] id named fresh = refl
absent (e ∷ es) id named fresh =
    let here : e.0 ≡ command_id e.1 = cc in
    let later : ids es ≡ map command_id (commands es) = cc in
    ap (λ b. cond b (Some e.1) (lookup (bytes_eq id) es))
    (is_false (bytes_eq id e.0) (λ h. fresh (by_left (bytes_eq id (command_id e.1)) (has_id (commands es) id) (subst (λ k. bytes_eq id k ≡ true) here h))))
    ∙ absent es id later (λ h. fresh (by_right (bytes_eq id (command_id e.1)) (has_id (commands es) id) h))

-- one more entry behind the others
pub ids_more : (es : Entries) (id : List ℕ) (c : Command) → ids es ≡ map command_id (commands es) → id ≡ command_id c → ids (es ++ (id, c) ∷ []) ≡ map command_id (commands (es ++ (id, c) ∷ []))
ids_more es id c named is =
    map-append (λ (e : List ℕ × Command). e.0) es ((id, c) ∷ [])
    ∙ ap (λ l. l ++ id ∷ []) named ∙ ap (λ i. map command_id (commands es) ++ i ∷ []) is
    ∙ sym (map-append command_id (commands es) (c ∷ [])) ∙ ap (map command_id) (sym (map-append (λ (e : List ℕ × Command). e.1) es ((id, c) ∷ [])))

pub commands_more : (es : Entries) (id : List ℕ) (c : Command) → commands (es ++ (id, c) ∷ []) ≡ commands es ++ c ∷ []
commands_more es id c = map-append (λ (e : List ℕ × Command). e.1) es ((id, c) ∷ [])
