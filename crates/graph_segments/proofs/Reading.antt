-- Reading the tables of a graph.
use Rattle.std.proofs.Common.{◌≡◌, ℕ, ◌+◌, ◌-◌, ◌<◌, ◌≤◌, Bool, true, false, cond, List, [], ◌∷◌, ◌++◌, length, IfSome, get_or, slice_get, Option, Some, None, refl, sym, ap, subst, ◌∙◌, arith}
use Rattle.std.proofs.lemmas.Option.{slice_get_within, slice_get-get_or}
use Rattle.command.specs.declared.command.Command.{Command}
use Rattle.command.specs.Closed.{IsClosed, max_commands, place_of}
use Rattle.command.specs.Kinds.{parents_of}
use Rattle.command.proofs.PlaceFacts.{place_at}
use Rattle.command.specs.Cuts.{cuts, next_cut}
use Rattle.graph_segments.specs.Segments.{follows, goes_on, located, locations, one_more, segments, tables, with_next}
use Rattle.graph_segments.specs.working.Tables.{AreTables, IsPlaced, Stands, tables_of}
use Rattle.graph_segments.specs.declared.tables.Location.{Location}
use Rattle.graph_segments.specs.declared.tables.Segment.{Segment}
use Rattle.graph_segments.proofs.Slots.{one_slot}
use Rattle.graph_segments.proofs.Standing.{location_at, tables_more, tables_stand}

-- an element that was read by its index
pub read_at : {X : Type 0} (xs ys : List X) (i : ℕ) (x : X) → xs ≡ ys → i < length ys → x ≡ get_or xs i x → slice_get ys i ≡ Some x
read_at xs ys i x same lt is = slice_get-get_or ys i x lt ∙ ap Some (sym (is ∙ ap (λ l. get_or l i x) same))

module _ (cs : List Command) (closed : IsClosed cs) where
  stand : AreTables cs (tables cs)
  stand = tables_stand cs closed

  pub locations_len : length (locations cs) ≡ length cs
  locations_len = stand.located

  pub segments_few : length (segments cs) ≤ length cs
  segments_few = stand.few

  pub segment_there : (place : ℕ) (at : Location) → slice_get (locations cs) place ≡ Some at → at.segment < length (segments cs)
  segment_there place at is = let there = stand.placed place at is in slice_get_within (segments cs) at.segment there.0 there.1

  pub stands : length cs ≤ max_commands → (place : ℕ) (at : Location) (seg : Segment) → slice_get (locations cs) place ≡ Some at → slice_get (segments cs) at.segment ≡ Some seg → Stands cs place at seg
  stands few place at seg is there =
      let placed = stand.placed place at is in
      let facts = stand.segment at.segment seg there in
      record {
        located = is;
        segment = there;
        placed = subst (λ g. IsPlaced cs place at g) (one_slot (segments cs) at.segment placed.0 seg placed.1 there) placed.2;
        len = omega (arith, facts.len, few);
        cut = omega (arith, facts.cut, few);
      }

  -- the cut, as it is computed
  pub cut_there : (place : ℕ) (at : Location) (seg : Segment) → Stands cs place at seg → seg.cut + at.index + 1 - seg.len ≡ get_or (cuts cs) place 0
  cut_there place at seg is = let sum = is.placed.cut in omega (arith, sum)

  -- the first place of a segment
  pub first_within : (number : ℕ) (seg : Segment) → slice_get (segments cs) number ≡ Some seg → seg.first < length cs
  first_within number seg is =
      let first = (stand.segment number seg is).first in
      let lt = slice_get_within (locations cs) seg.first (located number 0) first in
      omega (arith, lt, locations_len)

  -- which parents go on
  pub ends_there : (place : ℕ) (at : Location) (seg : Segment) (id : List ℕ) → Stands cs place at seg → place_of cs id ≡ Some place → seg.last ≡ place → Some place ≡ cond (goes_on cs id) None (place_of cs id)
  ends_there place at seg id is there last =
      let x = place_at cs id place there in
      let off : goes_on cs id ≡ false = ap (goes_on cs) (sym x.2) ∙ is.placed.last x.0 x.1 last in
      sym (ap (λ b. cond b None (place_of cs id)) off ∙ there)

  pub goes_there : (place : ℕ) (at : Location) (seg : Segment) (id : List ℕ) → Stands cs place at seg → place_of cs id ≡ Some place → (seg.last ≡ place → ⊥) → None ≡ cond (goes_on cs id) None (place_of cs id)
  goes_there place at seg id is there other =
      let x = place_at cs id place there in
      let on : goes_on cs id ≡ true = ap (goes_on cs) (sym x.2) ∙ is.placed.passed x.0 x.1 other in
      sym (ap (λ b. cond b None (place_of cs id)) on)

  -- what a command that goes on stands behind
  pub parent_there : length cs ≤ max_commands → (locs : List Location) (segs : List Segment) → locs ≡ locations cs → segs ≡ segments cs → (o : Option ℕ) → IfSome o (λ p. p < length cs) →
      IfSome o (λ parent. (at : Location) × (slice_get locs parent ≡ Some at) × ((seg : Segment) × (slice_get segs at.segment ≡ Some seg) × (at.index < 65536) × (seg.len < 65536 + 1)))
  parent_there few locs segs is are None within = tt
  parent_there few locs segs is are (Some p) within =
      let at = location_at cs closed p within in
      let there = stand.placed p at.0 at.1 in
      let facts = stands few p at.0 there.0 at.1 there.1 in
      let len = facts.len in
      let inside = facts.placed.inside in
      (at.0, ap (λ l. slice_get l p) is ∙ at.1, (there.0, ap (λ l. slice_get l at.0.segment) are ∙ there.1, omega (arith, len, inside), omega (arith, len)))

-- the tables with one command more
pub tables_put : (cs : List Command) (c : Command) (parents : List (List ℕ)) (locs new : List Location) (segs more : List Segment) (place cut : ℕ) (o : Option ℕ) (all : List Command) →
    tables_of new more ≡ one_more (tables_of locs segs) place cut o → locs ≡ locations cs → segs ≡ segments cs → place ≡ length cs → cut ≡ next_cut cs (cuts cs) parents → o ≡ follows cs parents → parents ≡ parents_of c → all ≡ cs ++ c ∷ [] →
    tables_of new more ≡ tables all
tables_put cs c parents locs new segs more place cut o all put is are at number follow same grown =
    put
    ∙ ap (λ l. one_more (tables_of l segs) place cut o) is
    ∙ ap (λ l. one_more (tables_of (locations cs) l) place cut o) are
    ∙ ap (λ k. one_more (tables cs) k cut o) at
    ∙ ap (λ k. one_more (tables cs) (length cs) k o) number
    ∙ ap (λ k. one_more (tables cs) (length cs) (next_cut cs (cuts cs) parents) k) follow
    ∙ ap (λ ps. with_next cs (tables cs) ps) same
    ∙ sym (tables_more cs c)
    ∙ ap tables (sym grown)
