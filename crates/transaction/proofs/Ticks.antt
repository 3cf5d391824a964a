-- An action that is done takes a tick for each command that it publishes.
use Rattle.std.proofs.Common.{◌≡◌, ℕ, ◌+◌, List, [], ◌∷◌, ◌++◌, length, Option, Some, None, Result, Ok, Err, refl, sym, ap, ◌∙◌, arith, length-append}
use Rattle.std.proofs.lemmas.List.Sums.{sum_by-cons}
use Rattle.braid_run.specs.declared.entry.Entry.{Entry}
use Rattle.fact_store.specs.declared.row.Row.{Row}
use Rattle.policy_meaning.specs.Desks.{Chain, Posting, brought, total}
use Rattle.policy_meaning.specs.declared.ends.ActionEnd.{ActionEnd}
use Rattle.policy_meaning.specs.declared.ends.ActionEnd.TheVariants as end
use Rattle.policy_meaning.specs.declared.ends.Posted.{Posted}
use Rattle.transaction.specs.Acting.{Acts, ActsFrom, Made, Request, RunsBody, Start, by_end, by_refusal, made_of, started}
use Rattle.transaction.specs.Drafts.{Basis, Draft, first_draft}
use Rattle.transaction.specs.Publishing.{Publication, IsTooLong, Refuses, Takes, declared_at}
use Rattle.transaction.specs.Seals.{IsPublish, Leaves}
use Rattle.transaction.specs.declared.fault.ActFault.{ActFault}
use Rattle.transaction.proofs.Tells.{IfTakes, IsTaken, merges_keep, opening_tells, tells}

-- merging makes no entry and refuses nothing
pub opening_keeps : (basis : Basis) (old : Draft) (rows : List Row) (b : Rattle.policy_meaning.specs.Actions.Brought) (tag : Option (List ℕ)) (draft : Draft) (after : List Row) (t : IsTaken basis old rows b tag draft after)
    → (t.joined.refusal ≡ old.refusal) × (t.joined.entries ≡ old.entries)
opening_keeps basis old rows b tag draft after t =
    merges_keep basis.held (λ d. (d.refusal ≡ old.refusal) × (d.entries ≡ old.entries)) (λ d left right others two known kept. kept) (length old.heads) old t.joined
    (opening_tells basis.held old t.joined (declared_at basis.policy b.command) t.opens).merged (refl, refl)

one_more : (new joined old : List Entry) (e : Entry) (ticks : ℕ) → new ≡ joined ++ e ∷ [] → joined ≡ old → ticks ≡ 1 → length new ≡ length old + ticks
one_more new joined old e ticks is kept one =
    let sizes = ap length is ∙ length-append joined (e ∷ []) in let same = ap length kept in omega (arith, sizes, same, one)

-- where nothing is refused behind a publish, nothing was before, and its ticks are its entries
step_by : (basis : Basis) (old : Draft) (rows : List Row) (b : Rattle.policy_meaning.specs.Actions.Brought) (tag : Option (List ℕ)) (q : Publication) → IfTakes (IsTaken basis old rows b tag) q
    → (answer : Posted) (after : List Row) (ticks : ℕ) (new : Draft) → Leaves q old rows answer after ticks new → new.refusal ≡ None
    → (old.refusal ≡ None) × (length new.entries ≡ length old.entries + ticks)
step_by basis old rows b tag (Takes draft last) taken answer after ticks new leaves none =
    let kept = opening_keeps basis old rows b tag draft last taken in
    let whole = leaves.3 ∙ taken.is in
    (sym kept.0 ∙ sym (ap (λ d. d.refusal) whole) ∙ none, one_more new.entries taken.joined.entries old.entries _ ticks (ap (λ d. d.entries) whole) kept.1 leaves.2)
step_by basis old rows b tag IsTooLong taken answer after ticks new leaves none =
    let same = ap (λ d. length d.entries) leaves.3 in let zero_ticks = leaves.2 in (sym (ap (λ d. d.refusal) leaves.3) ∙ none, omega (arith, same, zero_ticks))
step_by basis old rows b tag (Refuses why run) taken answer after ticks new leaves none = let both : Some why ≡ None = sym leaves.3 ∙ none in absurd cc

pub step_ticks : (basis : Basis) (old : Draft) (rows : List Row) (p : Posting) (new : Draft) → IsPublish basis old rows p new → new.refusal ≡ None
    → (old.refusal ≡ None) × (length new.entries ≡ length old.entries + p.ticks)
step_ticks basis old rows p new is none = step_by basis old rows (brought p) is.tag _ (tells basis old rows (brought p) is.tag) p.posted p.rows p.ticks new is.leaves none

pub chain_ticks : (basis : Basis) (old : Draft) (rows : List Row) (postings : List Posting) (new : Draft) (last : List Row) → Chain (IsPublish basis) old rows postings new last → new.refusal ≡ None
    → (old.refusal ≡ None) × (length new.entries ≡ length old.entries + total postings)
chain_ticks basis old rows [] new last chain none =
    let same = ap (λ d. length d.entries) chain.0 in (sym (ap (λ d. d.refusal) chain.0) ∙ none, omega (arith, same))
chain_ticks basis old rows (p ∷ more) new last chain none =
    let rest = chain_ticks basis chain.0 p.rows more new last chain.3 none in
    let first = step_ticks basis old rows p chain.0 chain.1 rest.0 in
    let sum = sum_by-cons (λ (q : Posting). q.ticks) p more in
    let one = first.1 in let others = rest.1 in
    (first.0, omega (arith, one, others, sum))

-- ---- an action that answers what it made

pub record IsDone (basis : Basis) (rows : List Row) (start : Start) (made : Made) (before now : ℕ) : Type 0 where
  pub draft : Draft
  pub last : List Row
  pub postings : List Posting
  pub chain : Chain (IsPublish basis) (first_draft basis.held) rows postings draft last
  pub counted : now ≡ before + total postings
  pub none : draft.refusal ≡ None
  pub is : made ≡ made_of draft last

done_end : (e : ActionEnd) (made all : Made) → Ok made ≡ by_end e all → made ≡ all
done_end end.Done made all is = cc
done_end end.Check made all is = absurd cc
done_end (end.Fault kind) made all is = absurd cc
done_end end.Stopped made all is = absurd cc

none_refused : (o : Option ActFault) (e : ActionEnd) (made all : Made) → Ok made ≡ by_refusal o e all → (o ≡ None) × (made ≡ all)
none_refused (Some why) e made all is = absurd cc
none_refused None e made all is = (refl, done_end e made all is)

done_body : (basis : Basis) (rows : List Row) (start : Start) (made : Made) (before now : ℕ) → RunsBody basis rows start (Ok made) before now → IsDone basis rows start made before now
done_body basis rows start made before now body =
    let none = none_refused body.draft.refusal body.end made (made_of body.draft body.last) body.ends in
    record { draft = body.draft; last = body.last; postings = body.run.postings; chain = body.run.chain; counted = body.run.counted; none = none.0; is = none.1 }

pub done : (basis : Basis) (rows : List Row) (request : Request) (made : Made) (before now : ℕ) → Acts basis rows request (Ok made) before now → (start : Start) × (started basis request ≡ Ok start) × IsDone basis rows start made before now
done basis rows request made before now acts = by (started basis request) refl acts
  where
    by : (r : Result Start ActFault) → started basis request ≡ r → ActsFrom r basis rows (Ok made) before now → (start : Start) × (started basis request ≡ Ok start) × IsDone basis rows start made before now
    by (Err why) is answer = absurd cc
    by (Ok start) is body = (start, is, done_body basis rows start made before now body)

pub made_ticks : (basis : Basis) (rows : List Row) (request : Request) (made : Made) (before now : ℕ) → Acts basis rows request (Ok made) before now → now ≡ before + length made.entries
made_ticks basis rows request made before now acts =
    let d = (done basis rows request made before now acts).2 in
    let counts = (chain_ticks basis (first_draft basis.held) rows d.postings d.draft d.last d.chain d.none).1 in
    let same = ap (λ m. length m.entries) d.is in
    let all = d.counted in
    omega (arith, counts, same, all)
