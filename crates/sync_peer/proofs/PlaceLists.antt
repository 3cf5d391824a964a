-- Commands by their places, as the loops gather them, and the response that they make.
use Rattle.std.proofs.Common.{◌≡◌, ℕ, zero, suc, ◌+◌, ◌-◌, ◌<◌, ◌≤◌, inl, inr, Bool, true, false, ◌||◌, if◌then◌else◌, List, [], ◌∷◌, ◌++◌, drop, get_or, length, min, nat_lt, not, take, Option, Some, None, option_map, slice_get, refl, sym, ap, subst, ◌∙◌, arith, add-one, append_assoc, append-nil, drop-cons, length-drop, length-take}
use Rattle.std.specs.List.{All, list_any}
use Rattle.std.specs.Str.{bytes_eq}
use Rattle.std.proofs.Math.Seq.{take-suc}
use Rattle.std.proofs.lemmas.Bool.{ltb-true}
use Rattle.std.proofs.lemmas.List.{drop_all}
use Rattle.std.proofs.lemmas.List.Elements.{All-drop, All-push, filter-append, filter_map-append}
use Rattle.std.proofs.lemmas.List.Folds.{list_any-append}
use Rattle.std.proofs.lemmas.Option.{get_or_from_slice_get, slice_get_cases, slice_get_within}
use Rattle.command.specs.Ancestors.{IsAt}
use Rattle.command.specs.Closed.{has_id, max_commands}
use Rattle.command.specs.Kinds.{parents_of}
use Rattle.command.specs.Wire.{IsInForm, command_id}
use Rattle.command.specs.declared.command.Command.{Command}
use Rattle.sync_codec.specs.Messages.{IsRequestInForm, IsResponseInForm}
use Rattle.sync_codec.specs.declared.request.Request.{Request}
use Rattle.sync_codec.specs.declared.response.Response.{Response}
use Rattle.sync_peer.specs.Messages.{most_sent, response_of}
use Rattle.sync_peer.specs.Missing.{AreMissing, held_ids}
use Rattle.sync_peer.specs.Samples.{ids_at}
use Rattle.sync_peer.specs.working.Walks.{HaveSame, commands_at, is_among, unknown, walked, with_parents}
use Rattle.sync_peer.proofs.SampleFacts.{filter_few}

-- the thing that a name was taken of
named : {A B : Type 0} (f : A → B) (o : Option A) (y : B) → option_map f o ≡ Some y → (x : A) × (o ≡ Some x) × (f x ≡ y)
named f None y is = absurd cc
named f (Some x) y is = (x, refl, cc)

pub one_at : (cs : List Command) (place : ℕ) (c : Command) (places : List ℕ) → IsAt cs place c → commands_at cs (place ∷ places) ≡ c ∷ commands_at cs places
one_at cs place c places is = rw is refl

some_at : (cs : List Command) (place : ℕ) → place < length cs → (c : Command) × IsAt cs place c
some_at cs place within = elim (slice_get_cases cs place).1 [ inl found ↦ (found.0, found.2) | inr past ↦ absurd (omega (arith, within, past.0)) ]

from_place : (cs : List Command) (place : ℕ) (c : Command) → IsAt cs place c → drop place cs ≡ c ∷ drop (place + 1) cs
from_place cs place c at =
    drop-cons cs place c (slice_get_within cs place c at) ∙ ap (λ y. y ∷ drop (suc place) cs) (get_or_from_slice_get cs place c c at) ∙ ap (λ k. c ∷ drop k cs) (sym (add-one place))

-- ---- the loop that walks

with_same : (c : Command) (one other : List (List ℕ)) → HaveSame one other → HaveSame (with_parents c one) (with_parents c other)
with_same c one other same id = by (is_among one (command_id c)) refl
  where
    by : (b : Bool) → is_among one (command_id c) ≡ b → is_among (with_parents c one) id ≡ is_among (with_parents c other) id
    by true is =
        let first : with_parents c one ≡ parents_of c ++ one = rw is refl in
        let second : with_parents c other ≡ parents_of c ++ other = rw (sym (same (command_id c)) ∙ is) refl in
        ap (λ l. is_among l id) first
        ∙ list_any-append (bytes_eq id) (parents_of c) one
        ∙ ap (λ b. list_any (bytes_eq id) (parents_of c) || b) (same id)
        ∙ sym (list_any-append (bytes_eq id) (parents_of c) other)
        ∙ ap (λ l. is_among l id) (sym second)
    by false is =
        let first : with_parents c one ≡ one = rw is refl in
        let second : with_parents c other ≡ other = rw (sym (same (command_id c)) ∙ is) refl in
        ap (λ l. is_among l id) first ∙ same id ∙ ap (λ l. is_among l id) (sym second)

pub next_walk : (cs : List Command) (ids old new : List (List ℕ)) (place : ℕ) → 0 < place → place ≤ length cs → HaveSame old (walked (drop place cs) ids) →
    ((c : Command) → IsAt cs (place - 1) c → HaveSame new (with_parents c old)) → HaveSame new (walked (drop (place - 1) cs) ids)
next_walk cs ids old new place some within so_far step id =
    let c = some_at cs (place - 1) (omega (arith, some, within)) in
    let here : place - 1 + 1 ≡ place = omega (arith, some) in
    let rest : drop (place - 1) cs ≡ c.0 ∷ drop place cs = from_place cs (place - 1) c.0 c.1 ∙ ap (λ k. c.0 ∷ drop k cs) here in
    step c.0 c.1 id ∙ with_same c.0 old (walked (drop place cs) ids) so_far id ∙ ap (λ l. is_among (walked l ids) id) (sym rest)

-- ---- the loop that gathers what is unknown

module _ (cs : List Command) (ids : List (List ℕ)) where
  -- a place is taken where its command is unknown
  same_one : (place : ℕ) (c : Command) → IsAt cs place c → (b : Bool) → is_among ids (command_id c) ≡ b → commands_at cs (if b then [] else place ∷ []) ≡ unknown (c ∷ []) ids
  same_one place c at true is = rw is refl
  same_one place c at false is = one_at cs place c [] at ∙ rw is refl

  pub next_unknown : (found next : List ℕ) (place : ℕ) (id : List ℕ) (all : List Command) → option_map command_id (slice_get cs place) ≡ Some id →
      next ≡ found ++ (if is_among ids id then [] else place ∷ []) → commands_at cs found ++ unknown (drop place cs) ids ≡ all → commands_at cs next ++ unknown (drop (place + 1) cs) ids ≡ all
  next_unknown found next place id all named_so more so_far =
      let c = named command_id (slice_get cs place) id named_so in
      let one = if is_among ids id then [] else place ∷ [] in
      let rest = unknown (drop (place + 1) cs) ids in
      ap (λ l. commands_at cs l ++ rest) more
      ∙ ap (λ l. l ++ rest) (filter_map-append (slice_get cs) found one)
      ∙ append_assoc (commands_at cs found) (commands_at cs one) rest
      ∙ ap (λ l. commands_at cs found ++ (l ++ rest)) (same_one place c.0 c.1 (is_among ids id) (ap (is_among ids) c.2))
      ∙ ap (λ l. commands_at cs found ++ l) (sym (filter-append (λ y. not (is_among ids (command_id y))) (c.0 ∷ []) (drop (place + 1) cs)))
      ∙ ap (λ l. commands_at cs found ++ unknown l ids) (sym (from_place cs place c.0 c.1))
      ∙ so_far

  pub last_unknown : (found : List ℕ) (place : ℕ) (all : List Command) → length cs ≤ place → commands_at cs found ++ unknown (drop place cs) ids ≡ all → commands_at cs found ≡ all
  last_unknown found place all over so_far = sym (ap (λ l. commands_at cs found ++ unknown l ids) (drop_all place cs over) ∙ append-nil (commands_at cs found)) ∙ so_far

  pub next_within : (P : ℕ → Type 0) (found next : List ℕ) (place : ℕ) (b : Bool) → next ≡ found ++ (if b then [] else place ∷ []) → All P found → P place → All P next
  next_within P found next place true more all one = subst (λ l. All P l) (sym (more ∙ append-nil found)) all
  next_within P found next place false more all one = subst (λ l. All P l) (sym more) (All-push P found place all one)

-- ---- the loop that copies commands

take_next : (places : List ℕ) (i : ℕ) → i < length places → take (i + 1) places ≡ take i places ++ get_or places i 0 ∷ []
take_next places i within = rw add-one (take-suc places i 0 within)

pub next_copy : (cs : List Command) (places : List ℕ) (i : ℕ) (c : Command) (made next : List Command) → i < length places → IsAt cs (get_or places i 0) c → next ≡ made ++ c ∷ [] →
    made ≡ commands_at cs (take i places) → next ≡ commands_at cs (take (i + 1) places)
next_copy cs places i c made next within at more so_far =
    let place = get_or places i 0 in
    more
    ∙ ap (λ l. l ++ c ∷ []) so_far
    ∙ ap (λ l. commands_at cs (take i places) ++ l) (sym (one_at cs place c [] at))
    ∙ sym (filter_map-append (slice_get cs) (take i places) (place ∷ []))
    ∙ ap (commands_at cs) (sym (take_next places i within))

-- ---- the loop that gathers ids

pub next_ids : (cs : List Command) (places : List ℕ) (i : ℕ) (made next : List (List ℕ)) → i < length places → next ≡ made ++ ids_at cs (get_or places i 0 ∷ []) →
    made ≡ ids_at cs (take i places) → next ≡ ids_at cs (take (i + 1) places)
next_ids cs places i made next within more so_far =
    let place = get_or places i 0 in
    more
    ∙ ap (λ l. l ++ ids_at cs (place ∷ [])) so_far
    ∙ sym (filter_map-append (λ p. option_map command_id (slice_get cs p)) (take i places) (place ∷ []))
    ∙ ap (ids_at cs) (sym (take_next places i within))

-- ---- places within the list have a command each

module _ (cs : List Command) where
  first_within : (place : ℕ) (places : List ℕ) → All (λ p. p < length cs) (place ∷ places) → place < length cs
  first_within place places within = within 0 0 (omega arith)

  later_within : (place : ℕ) (places : List ℕ) → All (λ p. p < length cs) (place ∷ places) → All (λ p. p < length cs) places
  later_within place places within = λ k d lt. within (suc k) d (omega (arith, lt))

  pub take_at : (n : ℕ) (places : List ℕ) → All (λ p. p < length cs) places → commands_at cs (take n places) ≡ take n (commands_at cs places)
  take_at zero places within = refl
  take_at (suc n) [] within = refl
  take_at (suc n) (place ∷ places) within =
      let c = some_at cs place (first_within place places within) in
      one_at cs place c.0 (take n places) c.1
      ∙ ap (λ l. c.0 ∷ l) (take_at n places (later_within place places within))
      ∙ ap (take (suc n)) (sym (one_at cs place c.0 places c.1))

  pub drop_at : (n : ℕ) (places : List ℕ) → All (λ p. p < length cs) places → commands_at cs (drop n places) ≡ drop n (commands_at cs places)
  drop_at zero places within = refl
  drop_at (suc n) [] within = refl
  drop_at (suc n) (place ∷ places) within =
      let c = some_at cs place (first_within place places within) in drop_at n places (later_within place places within) ∙ ap (drop (suc n)) (sym (one_at cs place c.0 places c.1))

  pub length_at : (places : List ℕ) → All (λ p. p < length cs) places → length (commands_at cs places) ≡ length places
  length_at [] within = refl
  length_at (place ∷ places) within =
      let c = some_at cs place (first_within place places within) in
      let rest = length_at places (later_within place places within) in
      ap length (one_at cs place c.0 places c.1) ∙ ap suc rest

-- ---- the response

made : Request → List (List ℕ) → Bool → List Command → Response
made request sample more commands = record { graph = request.graph; sample = sample; from = request.from; more = more; commands = commands }

-- the response to a request, of the places of what is missing
pub response_is : (cs : List Command) (request : Request) (missing : List ℕ) (sample : List (List ℕ)) (more : Bool) (commands : List Command) → All (λ p. p < length cs) missing →
    sample ≡ held_ids cs request.sample → more ≡ nat_lt most_sent (length (drop request.from missing)) → commands ≡ commands_at cs (take most_sent (drop request.from missing)) →
    record { graph = request.graph; sample = sample; from = request.from; more = more; commands = commands } ≡ response_of cs request (commands_at cs missing)
unfolding made
response_is cs request missing sample more commands within same_sample same_more same_commands =
    let rest = drop request.from missing in
    let rest_within = All-drop (λ p. p < length cs) request.from missing within in
    let all = drop_at cs request.from missing within in
    let count : length rest ≡ length (drop request.from (commands_at cs missing)) = sym (length_at cs rest rest_within) ∙ ap length all in
    ap (λ s. made request s more commands) same_sample
    ∙ ap (λ m. made request (held_ids cs request.sample) m commands) (same_more ∙ ap (nat_lt most_sent) count)
    ∙ ap (λ l. made request (held_ids cs request.sample) (nat_lt most_sent (length (drop request.from (commands_at cs missing)))) l)
    (same_commands ∙ take_at cs most_sent rest rest_within ∙ ap (take most_sent) all)

-- ---- a response is in the message form

pub all_more : {X : Type 0} (P : X → Type 0) (old new : List X) (x : X) → new ≡ old ++ x ∷ [] → All P old → P x → All P new
all_more P old new x is all one = subst (λ l. All P l) (sym is) (All-push P old x all one)

pub response_in_form : (cs : List Command) (request : Request) (missing : List Command) (response : Response) → length cs ≤ max_commands → IsRequestInForm request →
    AreMissing cs (held_ids cs request.sample) missing → response ≡ response_of cs request missing → All IsInForm response.commands → IsResponseInForm response
response_in_form cs request missing response few form are is formed =
    let rest = drop request.from missing in
    let sent : length response.commands ≡ min most_sent (length rest) = ap (λ r. length r.commands) is ∙ length-take most_sent rest in
    let left : length rest ≡ length missing - request.from = length-drop request.from missing in
    let total : length missing ≤ length cs = subst (λ l. length l ≤ length cs) (sym are.same_missing) (filter_few (λ c. not (are.is_known c)) cs) in
    let from : response.from ≡ request.from = ap (λ r. r.from) is in
    let ids : length response.sample ≡ length (held_ids cs request.sample) = ap (λ r. length r.sample) is in
    record {
      few_ids = omega (arith, ids, filter_few (has_id cs) request.sample, form.few_ids);
      few_commands = omega (arith, sent);
      near = omega (arith, from, sent, left, total, few, form.near);
      some = λ more. let longer : most_sent < length rest = ltb-true most_sent (length rest) (sym (ap (λ r. r.more) is) ∙ more) in omega (arith, sent, longer);
      in_form = formed;
    }
