-- Cuts, as commands are added.
use Rattle.std.proofs.Common.{◌≡◌, ℕ, ◌+◌, ◌<◌, ◌≤◌, inl, inr, List, [], ◌∷◌, ◌++◌, length, map, get_or, refl, sym, ap, ◌∙◌, append_assoc, append-nil, arith, length-append}
use Rattle.std.specs.List.{Contains}
use Rattle.std.proofs.lemmas.List.{get_or_append_left}
use Rattle.std.proofs.Math.Seq.{get_or-append_seam}
use Rattle.command.specs.declared.command.Command.{Command}
use Rattle.command.specs.Kinds.{parents_of}
use Rattle.command.proofs.ListFacts.{at_head, behind_head, from_end, head_cases, none_element}
use Rattle.command.specs.Cuts.{cuts, cuts_from, next_cut, one_above}

cuts_behind : (front : List Command) (told : List ℕ) (cs : List Command) (c : Command) →
    cuts_from front told (cs ++ c ∷ []) ≡ cuts_from front told cs ++ next_cut (front ++ cs) (cuts_from front told cs) (parents_of c) ∷ []
cuts_behind front told [] c = ap (λ l. told ++ next_cut l told (parents_of c) ∷ []) (sym (append-nil front))
cuts_behind front told (x ∷ cs) c =
    let more = told ++ next_cut front told (parents_of x) ∷ [] in
    cuts_behind (front ++ x ∷ []) more cs c
    ∙ ap (λ l. cuts_from (front ++ x ∷ []) more cs ++ next_cut l (cuts_from (front ++ x ∷ []) more cs) (parents_of c) ∷ []) (append_assoc front (x ∷ []) cs)

pub cuts_more : (cs : List Command) (c : Command) → cuts (cs ++ c ∷ []) ≡ cuts cs ++ next_cut cs (cuts cs) (parents_of c) ∷ []
cuts_more cs c = cuts_behind [] [] cs c

pub length-cuts : (cs : List Command) → length (cuts cs) ≡ length cs
length-cuts = from_end (λ cs. length (cuts cs) ≡ length cs) refl
    (λ cs c before.
    ap length (cuts_more cs c) ∙ length-append (cuts cs) (next_cut cs (cuts cs) (parents_of c) ∷ []) ∙ ap (λ n. n + 1) before ∙ sym (length-append cs (c ∷ [])))

pub cut_left : (cs : List Command) (c : Command) (p : ℕ) → p < length cs → get_or (cuts (cs ++ c ∷ [])) p 0 ≡ get_or (cuts cs) p 0
cut_left cs c p lt =
    let size = length-cuts cs in
    ap (λ l. get_or l p 0) (cuts_more cs c) ∙ get_or_append_left (cuts cs) (next_cut cs (cuts cs) (parents_of c) ∷ []) 0 p (omega (arith, lt, size))

pub cut_end : (cs : List Command) (c : Command) → get_or (cuts (cs ++ c ∷ [])) (length cs) 0 ≡ next_cut cs (cuts cs) (parents_of c)
cut_end cs c =
    ap (λ l. get_or l (length cs) 0) (cuts_more cs c)
    ∙ ap (λ n. get_or (cuts cs ++ next_cut cs (cuts cs) (parents_of c) ∷ []) n 0) (sym (length-cuts cs))
    ∙ get_or-append_seam (cuts cs) (next_cut cs (cuts cs) (parents_of c)) [] 0

-- one above some numbers is no more than what they are below
pub one_above_few : {X : Type 0} (f : X → ℕ) (xs : List X) (n : ℕ) → ((x : X) → Contains xs x → f x < n) → one_above (map f xs) ≤ n
one_above_few f [] n below = omega arith
one_above_few f (x ∷ xs) n below =
    let here = below x (at_head x xs) in
    let rest = one_above_few f xs n (λ y h. below y (behind_head x xs y h)) in
    omega (arith, here, rest)

-- and above each of them
pub one_above_each : {X : Type 0} (f : X → ℕ) (xs : List X) (x : X) → Contains xs x → f x < one_above (map f xs)
one_above_each f [] x h = absurd (none_element x h)
one_above_each f (y ∷ xs) x h =
    elim (head_cases y xs x h) [
      | inl same ↦ let here : f y ≡ f x = ap f same in omega (arith, here)
      | inr later ↦ let rest = one_above_each f xs x later in omega (arith, rest)
    ]
