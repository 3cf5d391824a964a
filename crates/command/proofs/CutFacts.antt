-- Cuts: as commands are added, and that a command has the same cut in each closed list.
use Rattle.std.proofs.Common.{◌≡◌, ℕ, zero, suc, ◌+◌, ◌<◌, ◌≤◌, inl, inr, List, [], ◌∷◌, ◌++◌, length, map, max, get_or, take, drop, slice_get, Option, Some, None, refl, sym, ap, subst, ◌∙◌, append_assoc, append-nil, arith, length-append}
use Rattle.std.specs.List.{Contains}
use Rattle.std.proofs.lemmas.List.{get_or_append_left, length-take, take-append-drop}
use Rattle.std.proofs.lemmas.List.Elements.{Contains-append_left, Contains-push, Contains-push_cases}
use Rattle.std.proofs.lemmas.Option.{slice_get_within, slice_get-get_or, get_or_from_slice_get}
use Rattle.std.proofs.Math.Seq.{get_or-append_seam}
use Rattle.command.specs.declared.command.Command.{Command}
use Rattle.command.specs.Ancestors.{IsAt}
use Rattle.command.specs.Closed.{IsClosed, IsHeld, IsNext}
use Rattle.command.specs.Cuts.{cut_behind, cut_of_id, cuts, cuts_from, next_cut, number_at, one_above}
use Rattle.command.specs.Kinds.{parents_of}
use Rattle.command.specs.Places.{place_of}
use Rattle.command.specs.Wire.{command_id}
use Rattle.command.proofs.ClosedFacts.{held_by, held_command, held_more, parents_held}
use Rattle.command.proofs.ListFacts.{at_head, behind_head, each_before, each_last, each_more, from_end, none_element}
use Rattle.command.proofs.PlaceFacts.{held_place, inside_at, next_at, place_at, place_is, take_one_more}

cuts_behind : (front : List Command) (told : List ℕ) (cs : List Command) (c : Command) →
    cuts_from front told (cs ++ c ∷ []) ≡ cuts_from front told cs ++ next_cut (front ++ cs) (cuts_from front told cs) (parents_of c) ∷ []
cuts_behind front told [] c = ap (λ l. told ++ next_cut l told (parents_of c) ∷ []) (sym (append-nil front))
cuts_behind front told (x ∷ cs) c =
    let more = told ++ next_cut front told (parents_of x) ∷ [] in
    cuts_behind (front ++ x ∷ []) more cs c
    ∙ ap (λ l. cuts_from (front ++ x ∷ []) more cs ++ next_cut l (cuts_from (front ++ x ∷ []) more cs) (parents_of c) ∷ []) (append_assoc front (x ∷ []) cs)

pub cuts_more : (cs : List Command) (c : Command) → cuts (cs ++ c ∷ []) ≡ cuts cs ++ cut_behind cs c ∷ []
cuts_more cs c = cuts_behind [] [] cs c

pub length-cuts : (cs : List Command) → length (cuts cs) ≡ length cs
length-cuts = from_end (λ cs. length (cuts cs) ≡ length cs) refl
    (λ cs c before. ap length (cuts_more cs c) ∙ length-append (cuts cs) (cut_behind cs c ∷ []) ∙ ap (λ n. n + 1) before ∙ sym (length-append cs (c ∷ [])))

-- where two functions agree on the parents
pub one_above_same : (f g : List ℕ → ℕ) (ids : List (List ℕ)) → ((id : List ℕ) → Contains ids id → f id ≡ g id) → one_above (map f ids) ≡ one_above (map g ids)
one_above_same f g [] same = refl
one_above_same f g (id ∷ ids) same =
    ap (λ n. max (n + 1) (one_above (map f ids))) (same id (at_head id ids)) ∙ ap (λ n. max (g id + 1) n) (one_above_same f g ids (λ i h. same i (behind_head id ids i h)))

at_front : (cs more : List Command) (p : ℕ) (x : Command) → IsAt cs p x → IsAt (cs ++ more) p x
at_front cs more p x at =
    let lt = slice_get_within cs p x at in
    slice_get-get_or (cs ++ more) p x (let size = length-append cs more in omega (arith, lt, size)) ∙ ap Some (get_or_append_left cs more x p lt ∙ get_or_from_slice_get cs p x x at)

-- an append leaves the cuts
pub cut_kept : (cs : List Command) (c : Command) → IsClosed (cs ++ c ∷ []) → (id : List ℕ) → IsHeld cs id → cut_of_id (cs ++ c ∷ []) id ≡ cut_of_id cs id
cut_kept cs c closed id held =
    let p = held_place cs id held in
    let x = place_at cs id p.0 p.1 in
    let lt = slice_get_within cs p.0 x.0 x.1 in
    let there : place_of (cs ++ c ∷ []) id ≡ Some p.0 = ap (place_of (cs ++ c ∷ [])) (sym x.2) ∙ place_is (cs ++ c ∷ []) closed p.0 x.0 (at_front cs (c ∷ []) p.0 x.0 x.1) in
    ap (number_at (cuts (cs ++ c ∷ []))) there
    ∙ ap (λ l. get_or l p.0 0) (cuts_more cs c)
    ∙ get_or_append_left (cuts cs) (cut_behind cs c ∷ []) 0 p.0 (let size = length-cuts cs in omega (arith, lt, size))
    ∙ sym (ap (number_at (cuts cs)) p.1)

-- and gives the new one its own
at_end : (cs : List Command) (c : Command) → IsAt (cs ++ c ∷ []) (length cs) c
at_end [] c = refl
at_end (x ∷ cs) c = at_end cs c

pub cut_new : (cs : List Command) (c : Command) → IsClosed (cs ++ c ∷ []) → cut_of_id (cs ++ c ∷ []) (command_id c) ≡ cut_behind cs c
cut_new cs c closed =
    ap (number_at (cuts (cs ++ c ∷ []))) (place_is (cs ++ c ∷ []) closed (length cs) c (at_end cs c))
    ∙ ap (λ l. get_or l (length cs) 0) (cuts_more cs c)
    ∙ ap (λ n. get_or (cuts cs ++ cut_behind cs c ∷ []) n 0) (sym (length-cuts cs))
    ∙ get_or-append_seam (cuts cs) (cut_behind cs c) [] 0

-- the cut of a command is one above its parents'
pub cut_is : (cs : List Command) → IsClosed cs → (x : Command) → Contains cs x → cut_of_id cs (command_id x) ≡ one_above (map (cut_of_id cs) (parents_of x))
cut_is = from_end (λ cs. IsClosed cs → (x : Command) → Contains cs x → cut_of_id cs (command_id x) ≡ one_above (map (cut_of_id cs) (parents_of x)))
    (λ closed x inside. absurd (none_element x inside))
    (λ cs c before closed x inside.
    let old = each_before IsNext cs c closed in
    let next = each_last IsNext cs c closed in
    elim (Contains-push_cases cs c x inside) [
      | inl older ↦
          cut_kept cs c closed (command_id x) (held_by cs x older) ∙ before old x older
          ∙ one_above_same (cut_of_id cs) (cut_of_id (cs ++ c ∷ [])) (parents_of x) (λ id link. sym (cut_kept cs c closed id (parents_held cs old x id older link)))
      | inr same ↦
          subst (λ z. cut_of_id (cs ++ c ∷ []) (command_id z) ≡ one_above (map (cut_of_id (cs ++ c ∷ [])) (parents_of z))) same
          (cut_new cs c closed ∙ one_above_same (cut_of_id cs) (cut_of_id (cs ++ c ∷ [])) (parents_of c) (λ id link. sym (cut_kept cs c closed id (next.held id link))))
    ])

-- two closed lists in which no id is that of two commands give a command the same cut
pub cut_agrees : (ds : List Command) → IsClosed ds → (cs : List Command) → IsClosed cs → ((x y : Command) → Contains cs x → Contains ds y → command_id x ≡ command_id y → x ≡ y) → (x : Command) → Contains cs x → Contains ds x →
    cut_of_id cs (command_id x) ≡ cut_of_id ds (command_id x)
cut_agrees ds others = from_end
    (λ cs. IsClosed cs → ((x y : Command) → Contains cs x → Contains ds y → command_id x ≡ command_id y → x ≡ y) → (x : Command) → Contains cs x → Contains ds x → cut_of_id cs (command_id x) ≡ cut_of_id ds (command_id x))
    (λ closed agree x inside. absurd (none_element x inside))
    (λ cs c before closed agree x inside there.
    let old = each_before IsNext cs c closed in
    let next = each_last IsNext cs c closed in
    let left : (y z : Command) → Contains cs y → Contains ds z → command_id y ≡ command_id z → y ≡ z = λ y z h. agree y z (Contains-append_left cs (c ∷ []) y h) in
    elim (Contains-push_cases cs c x inside) [
      | inl older ↦ cut_kept cs c closed (command_id x) (held_by cs x older) ∙ before old left x older there
      | inr same ↦
          let here : Contains ds c = subst (λ z. Contains ds z) (sym same) there in
          subst (λ z. cut_of_id (cs ++ c ∷ []) (command_id z) ≡ cut_of_id ds (command_id z)) same
          (cut_new cs c closed
          ∙ one_above_same (cut_of_id cs) (cut_of_id ds) (parents_of c) (λ id link.
          let y = held_command cs id (next.held id link) in
          let z = held_command ds id (parents_held ds others c id here link) in
          let one : y.0 ≡ z.0 = left y.0 z.0 y.1 z.1 (y.2 ∙ sym z.2) in
          let equal = before old left y.0 y.1 (subst (λ w. Contains ds w) (sym one) z.1) in
          ap (cut_of_id cs) (sym y.2) ∙ equal ∙ ap (cut_of_id ds) y.2)
          ∙ sym (cut_is ds others c here))
    ])

-- a cut is at most one more than its place
one_above_few : (f : List ℕ → ℕ) (ids : List (List ℕ)) (n : ℕ) → ((id : List ℕ) → f id < n) → one_above (map f ids) ≤ n
one_above_few f [] n below = omega arith
one_above_few f (id ∷ ids) n below = let here = below id in let rest = one_above_few f ids n below in omega (arith, here, rest)

below_by : (numbers : List ℕ) (n : ℕ) → ((p : ℕ) → get_or numbers p 0 ≤ n) → (o : Option ℕ) → number_at numbers o < n + 1
below_by numbers n low None = omega arith
below_by numbers n low (Some p) = let here = low p in omega (arith, here)

push_low : (numbers : List ℕ) (k n : ℕ) → ((p : ℕ) → get_or numbers p 0 ≤ n) → k ≤ n + 1 → (p : ℕ) → get_or (numbers ++ k ∷ []) p 0 ≤ n + 1
push_low [] k n low le zero = le
push_low [] k n low le (suc p) = omega arith
push_low (m ∷ numbers) k n low le zero = let here = low 0 in omega (arith, here)
push_low (m ∷ numbers) k n low le (suc p) = push_low numbers k n (λ q. low (suc q)) le p

pub cut_low : (cs : List Command) (p : ℕ) → get_or (cuts cs) p 0 ≤ length cs
cut_low = from_end (λ cs. (p : ℕ) → get_or (cuts cs) p 0 ≤ length cs) (λ p. omega arith)
    (λ cs c before p.
    let own : cut_behind cs c ≤ length cs + 1 = one_above_few (cut_of_id cs) (parents_of c) (length cs + 1) (λ id. below_by (cuts cs) (length cs) before (place_of cs id)) in
    let low = push_low (cuts cs) (cut_behind cs c) (length cs) before own p in
    subst (λ n. get_or (cuts (cs ++ c ∷ [])) p 0 ≤ n) (sym (length-append cs (c ∷ []))) (subst (λ l. get_or l p 0 ≤ length cs + 1) (sym (cuts_more cs c)) low))

-- the cuts of a front
pub cuts_front : (cs : List Command) (p : ℕ) (x : Command) → IsAt cs p x → cuts (take (p + 1) cs) ≡ cuts (take p cs) ++ next_cut (take p cs) (cuts (take p cs)) (parents_of x) ∷ []
cuts_front cs p x at = ap cuts (take_one_more cs p x at) ∙ cuts_more (take p cs) x

-- and of the whole list, read at a place of the front
cuts_left : (front : List Command) (told : List ℕ) (xs ys : List Command) (p : ℕ) → p < length told + length xs → get_or (cuts_from front told (xs ++ ys)) p 0 ≡ get_or (cuts_from front told xs) p 0
cuts_left front told [] [] p lt = refl
cuts_left front told [] (y ∷ ys) p lt =
    let more = told ++ next_cut front told (parents_of y) ∷ [] in
    let size = length-append told (next_cut front told (parents_of y) ∷ []) in
    cuts_left (front ++ y ∷ []) more [] ys p (omega (arith, lt, size)) ∙ get_or_append_left told (next_cut front told (parents_of y) ∷ []) 0 p (omega (arith, lt))
cuts_left front told (x ∷ xs) ys p lt =
    let size = length-append told (next_cut front told (parents_of x) ∷ []) in
    cuts_left (front ++ x ∷ []) (told ++ next_cut front told (parents_of x) ∷ []) xs ys p (omega (arith, lt, size))

pub cut_in_front : (cs : List Command) (n p : ℕ) → p < n → p < length cs → get_or (cuts (take n cs)) p 0 ≡ get_or (cuts cs) p 0
cut_in_front cs n p lt within =
    let size = length-take n cs in
    sym (cuts_left [] [] (take n cs) (drop n cs) p (omega (arith, lt, within, size))) ∙ ap (λ l. get_or (cuts l) p 0) (take-append-drop n cs)

-- the parents of a command have their places in front of it
pub front_places : (cs : List Command) → IsClosed cs → (p : ℕ) (x : Command) → IsAt cs p x → (numbers : List ℕ) → next_cut cs numbers (parents_of x) ≡ next_cut (take p cs) numbers (parents_of x)
front_places cs closed p x at numbers =
    one_above_same (λ id. number_at numbers (place_of cs id)) (λ id. number_at numbers (place_of (take p cs) id)) (parents_of x) (λ id link.
    let q = held_place (take p cs) id ((next_at cs closed p x at).held id link) in
    let m = place_at (take p cs) id q.0 q.1 in
    let there : IsAt cs q.0 m.0 = subst (λ l. IsAt l q.0 m.0) (take-append-drop p cs) (at_front (take p cs) (drop p cs) q.0 m.0 m.1) in
    ap (number_at numbers) (ap (place_of cs) (sym m.2) ∙ place_is cs closed q.0 m.0 there ∙ sym q.1))
