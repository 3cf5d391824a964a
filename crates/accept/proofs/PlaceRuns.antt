-- The places of a command's parents, and the run that gives the facts at its place.
use Rattle.std.proofs.Common.{◌≡◌, ℕ, ◌+◌, ◌<◌, ◌≤◌, List, [], ◌∷◌, length, Option, Some, None, refl, sym, ap, subst, ◌∙◌}
use Rattle.std.specs.List.{All, cons_option, filter_map}
use Rattle.std.proofs.lemmas.List.Elements.{All-cons, All-nil}
use Rattle.std.proofs.lemmas.Option.{slice_get_within}
use Rattle.braid.specs.Braids.{IsBraidOf, IsBraidUnder}
use Rattle.braid.proofs.Agreement.{one_braid}
use Rattle.braid_run.specs.Places.{AreAtPlace, IsBehind, parent_places}
use Rattle.braid_run.specs.RunOf.{IsRunUnder}
use Rattle.braid_run.specs.Runs.{run_of}
use Rattle.braid_run.specs.declared.entry.Entry.{Entry}
use Rattle.braid_run.proofs.PlacedFacts.{has_place_facts}
use Rattle.command.specs.Closed.{IsClosed, place_of}
use Rattle.command.specs.declared.command.Command.{Command}
use Rattle.command.proofs.PlaceFacts.{place_at}
use Rattle.fact_store.specs.declared.row.Row.{Row}
use Rattle.policy_ast.specs.declared.policy.PlacedItem.{PlacedItem}

-- places that are found are places of the list
pub found_within : (cs : List Command) (ids : List (List ℕ)) → All (λ place. place < length cs) (filter_map (place_of cs) ids)
found_within cs [] = All-nil (λ place. place < length cs)
found_within cs (id ∷ ids) = by (place_of cs id) refl (found_within cs ids)
  where
    by : (o : Option ℕ) → place_of cs id ≡ o → All (λ place. place < length cs) (filter_map (place_of cs) ids)
        → All (λ place. place < length cs) (cons_option o (filter_map (place_of cs) ids))
    by None is rest = rest
    by (Some place) is rest =
        let found = place_at cs id place is in
        All-cons (λ place. place < length cs) place (filter_map (place_of cs) ids) (slice_get_within cs place found.0 found.1) rest

module _ (policy : List PlacedItem) (cs : List Command) (closed : IsClosed cs) (c : Command) (tips : List ℕ) (same : tips ≡ parent_places cs c) (rows : List Row) (entries : List Entry)
    (before now : ℕ) (run : IsRunUnder policy cs tips rows entries before now) where
  braid_is : IsBraidOf cs (IsBehind cs c) run.braid
  braid_is = ((has_place_facts cs closed c policy).under run.braid).1 (subst (λ t. IsBraidUnder cs t run.braid) same run.is)

  -- the run under them gives the facts at its place
  pub facts_are : AreAtPlace policy cs c rows
  facts_are = record { braid = run.braid; is = braid_is; same_rows = run.run.same_rows }

  -- and takes just the ticks of the braid there
  pub ticks_are : (braid : List Command) → IsBraidOf cs (IsBehind cs c) braid → now ≡ before + (run_of policy braid).ticks
  ticks_are braid is = run.run.counted ∙ ap (λ b. before + (run_of policy b).ticks) (one_braid cs closed (IsBehind cs c) run.braid braid braid_is is)

-- and a bound on its ticks is one by the braid there
pub ticks_within : (policy : List PlacedItem) (cs : List Command) → IsClosed cs → (c : Command) (tips : List ℕ) → tips ≡ parent_places cs c → (before now : ℕ)
    → ((braid : List Command) → IsBraidUnder cs tips braid → now ≤ before + (run_of policy braid).ticks) → (braid : List Command) → IsBraidOf cs (IsBehind cs c) braid
    → now ≤ before + (run_of policy braid).ticks
ticks_within policy cs closed c tips same before now bound braid is =
    bound braid (subst (λ t. IsBraidUnder cs t braid) (sym same) (((has_place_facts cs closed c policy).under braid).0 is))
