-- Actions: what is counted of one, and that a replica stays one behind it.
use Rattle.std.proofs.Common.{◌≡◌, ℕ, slice_index_or, Bool, true, List, [], ◌∷◌, ◌++◌, Option, Some, None, Result, Ok, Err, length, map, refl, sym, ap, subst, ◌∙◌, arith, length-append}
use Rattle.std.specs.List.{All}
use Rattle.std.proofs.lemmas.List.Elements.{All-contains_itself, Contains-append_right}
use Rattle.braid_run.specs.Runs.{run_of}
use Rattle.braid_run.specs.States.{Held, IsStanding}
use Rattle.command.specs.Closed.{IsClosed, IsNext}
use Rattle.command.specs.Wire.{IsFormed, body, command_id}
use Rattle.command.specs.declared.command.Command.{Command}
use Rattle.command.proofs.ListFacts.{each_cut, split_at}
use Rattle.fact_store.specs.declared.row.Row.{Row}
use Rattle.policy_ast.specs.declared.policy.PlacedItem.{PlacedItem}
use Rattle.policy_meaning.specs.Actions.{Brought}
use Rattle.policy_meaning.specs.Desks.{Chain, Posting, brought}
use Rattle.policy_meaning.specs.Typed.{AreTyped}
use Rattle.policy_rules.specs.WellTyped.{IsWellTyped}
use Rattle.replica.proofs.FrontFacts.{batch_of, front_shared}
use Rattle.replica.specs.Actions.{IsCounted}
use Rattle.replica.specs.Kept.{IsReplica, any_tag}
use Rattle.replica.specs.declared.counts.Published.{Published}
use Rattle.transaction.specs.Acting.{Acts, ActsFrom, Made, Request, Start, started}
use Rattle.transaction.specs.Applying.{applied, graph_named}
use Rattle.transaction.specs.Drafts.{Basis, Draft, first_draft}
use Rattle.transaction.specs.Publishing.{command_of, declared_at, opened}
use Rattle.transaction.specs.Seals.{IsPublish, IsSeal, IsSealOf}
use Rattle.transaction.specs.declared.fault.ActFault.{ActFault}
use Rattle.transaction.proofs.SoundFacts.{applied_sound, made_goes}

-- what stands on a test of tags stands on every tag too
abbrev pub with_any_tag : Basis → Basis
with_any_tag basis = record { policy = basis.policy; digest = basis.digest; good = any_tag; told = None; author = basis.author; held = basis.held }

module _ (basis : Basis) where
  any_seal : (sealed : List ℕ) (tag : Option (List ℕ)) → IsSeal basis sealed tag → IsSeal (with_any_tag basis) sealed tag
  any_seal sealed None is = tt
  any_seal sealed (Some tag) is = (refl, tt)

  any_seal_of : (draft : Result Draft ActFault) (b : Brought) (tag : Option (List ℕ)) → IsSealOf basis draft b tag → IsSealOf (with_any_tag basis) draft b tag
  any_seal_of (Err why) b tag is = tt
  any_seal_of (Ok draft) b tag is = any_seal (body (command_of basis draft.heads b [])) tag is

  any_publish : (old : Draft) (rows : List Row) (posting : Posting) (new : Draft) → IsPublish basis old rows posting new → IsPublish (with_any_tag basis) old rows posting new
  any_publish old rows posting new is = record {
    declared = is.declared;
    tag = is.tag;
    seal = any_seal_of (opened basis.held old (declared_at basis.policy posting.command)) (brought posting) is.tag is.seal;
    leaves = is.leaves;
  }

  any_chain : (old : Draft) (rows : List Row) (postings : List Posting) (new : Draft) (last : List Row) → Chain (IsPublish basis) old rows postings new last → Chain (IsPublish (with_any_tag basis)) old rows postings new last
  any_chain old rows [] new last chain = chain
  any_chain old rows (p ∷ more) new last chain = (chain.0, any_publish old rows p chain.0 chain.1, chain.2, any_chain chain.0 p.rows more new last chain.3)

  any_from : (start : Result Start ActFault) (rows : List Row) (result : Result Made ActFault) (before now : ℕ) → ActsFrom start basis rows result before now → ActsFrom start (with_any_tag basis) rows result before now
  any_from (Err why) rows result before now is = is
  any_from (Ok start) rows result before now is = record {
    end = is.end;
    draft = is.draft;
    last = is.last;
    run = record {
      postings = is.run.postings;
      chain = any_chain (first_draft basis.held) rows is.run.postings is.draft is.last is.run.chain;
      acts = is.run.acts;
      counted = is.run.counted;
    };
    ends = is.ends;
  }

  pub any_acts : (rows : List Row) (request : Request) (result : Result Made ActFault) (before now : ℕ) → Acts basis rows request result before now → Acts (with_any_tag basis) rows request result before now
  any_acts rows request result before now is = any_from (started basis request) rows result before now is

-- what stands in a closed list has its form
pub all_formed : (held made : List Command) → IsClosed (held ++ made) → All IsFormed made
all_formed held made closed k d inside =
    let c = slice_index_or made k d in
    let at = split_at (held ++ made) c (Contains-append_right held made c (All-contains_itself made k d inside)) in
    (each_cut IsNext at.0 c at.1 (subst IsClosed at.2 closed)).formed

pub replica_acted : (policy : List PlacedItem) (digest : List ℕ) (good : List ℕ → List ℕ → List ℕ → Bool) (told : Option (List ℕ → List ℕ → List ℕ)) (author : List ℕ) (held : Held) (request : Request) (made : Made)
    (before now : ℕ) → IsWellTyped policy → (request.first ≡ true → held.graph_id ≡ None) → IsReplica policy digest held → IsStanding (graph_named held.graph_id made.commands) (held.commands ++ made.commands) →
    AreTyped policy made.rows → Acts (record { policy = policy; digest = digest; good = good; told = told; author = author; held = held.commands }) held.rows request (Ok made) before now →
    IsReplica policy digest (applied held made)
replica_acted policy digest good told author held request made before now well first is standing typed acts =
    let basis : Basis = record { policy = policy; digest = digest; good = any_tag; told = None; author = author; held = held.commands } in
    let any = any_acts (record { policy = policy; digest = digest; good = good; told = told; author = author; held = held.commands }) held.rows request (Ok made) before now acts in
    let goes = made_goes basis held refl held.rows refl request made before now any well is.sound.commands.standing first (all_formed held.commands made.commands standing.closed) in
    record {
      typed = typed;
      sound = applied_sound (record { policy = policy; digest = digest; good = any_tag }) held made standing is.sound goes.1;
    }

-- what is counted: the entries before are all shared, and those of the action follow
pub counted_of : (policy : List PlacedItem) (digest : List ℕ) (held : Held) (made : Made) → ((xs : List Command) → map (λ e. e.id) (run_of policy xs).entries ≡ map command_id xs) → IsReplica policy digest held →
    IsReplica policy digest (applied held made) → (counts : Published) → counts ≡ record { commands = length made.entries; merges = made.merges; cut = length held.entries; entries = length made.entries } →
    IsCounted policy held.commands made counts
counted_of policy digest held made names old new counts told = record {
  commands = ap (λ t. t.commands) told;
  merges = ap (λ t. t.merges) told;
  batch =
      batch_of policy held.commands made.commands old.sound.run.braid new.sound.run.braid held.entries (held.entries ++ made.entries) counts.cut counts.entries new.sound.commands.standing.closed old.sound.run.is
      new.sound.run.is names old.sound.run.same_entries new.sound.run.same_entries (ap (λ t. t.cut) told ∙ sym (front_shared held.entries made.entries))
      (let cut : counts.cut ≡ length held.entries = ap (λ t. t.cut) told in
      let count : counts.entries ≡ length made.entries = ap (λ t. t.entries) told in
      omega (arith, cut, count, length-append held.entries made.entries));
}
