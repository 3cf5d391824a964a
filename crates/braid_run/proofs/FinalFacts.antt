-- The laws of runs: one run, the same run of lists that agree, and what is final.
use Rattle.std.proofs.Common.{◌≡◌, true, List, [], ◌++◌, length, take, refl, sym, ap, subst, ◌∙◌, ◌≤◌, arith, length-append}
use Rattle.std.specs.List.{Contains}
use Rattle.std.proofs.Math.Seq.{take-append_seam}
use Rattle.braid.specs.Agreeing.{Agree}
use Rattle.braid.specs.Braids.{IsBraidTo}
use Rattle.braid.proofs.Agreement.{one_braid, same_braid}
use Rattle.braid.proofs.Appends.{stays}
use Rattle.braid.proofs.Existence.{some_braid}
use Rattle.braid.proofs.Finality.{final}
use Rattle.braid_run.specs.Laws.{BeginsWith, HasOneRun, HaveOneRun, StaysFinal}
use Rattle.braid_run.specs.Runs.{no_run, run_of}
use Rattle.braid_run.proofs.RunFacts.{first_entries, run_append}
use Rattle.command.specs.Ancestors.{AreInLine}
use Rattle.command.specs.Closed.{IsClosed, IsNext}
use Rattle.command.specs.Kinds.{is_finalize}
use Rattle.command.specs.declared.command.Command.{Command}
use Rattle.command.proofs.ListFacts.{each_left}
use Rattle.std.proofs.lemmas.List.Elements.{Contains-append_left}
use Rattle.policy_ast.specs.declared.policy.PlacedItem.{PlacedItem}

pub has_one_run : (policy : List PlacedItem) (cs : List Command) → IsClosed cs → HasOneRun policy cs
has_one_run policy cs closed =
    let braid = some_braid cs closed in
    record {
      some = ((run_of policy braid.0).rows, (run_of policy braid.0).entries, record { braid = braid.0; is = braid.1; same_rows = refl; same_entries = refl });
      one = λ rows others entries more one other.
          let same = one_braid cs closed (λ x. Unit {0}) one.braid other.braid one.is other.is in (
            one.same_rows ∙ ap (λ b. (run_of policy b).rows) same ∙ sym other.same_rows,
            one.same_entries ∙ ap (λ b. (run_of policy b).entries) same ∙ sym other.same_entries,
          );
    }

pub converges : (policy : List PlacedItem) (one other : List Command) → IsClosed one → IsClosed other → Agree one other → HaveOneRun policy one other
converges policy one other closed also agree rows others entries more first second =
    let same = same_braid one other closed also agree first.braid second.braid first.is second.is in (
      first.same_rows ∙ ap (λ b. (run_of policy b).rows) same ∙ sym second.same_rows,
      first.same_entries ∙ ap (λ b. (run_of policy b).entries) same ∙ sym second.same_entries,
    )

begins_with : (policy : List PlacedItem) (cs : List Command) (f : Command) (braid part rest : List Command) → IsBraidTo cs f part → braid ≡ part ++ rest → BeginsWith policy cs f braid
begins_with policy cs f braid part rest closure begins = record {
  part = part;
  rest = rest;
  closure = closure;
  begins = begins;
  continues = ap (run_of policy) begins ∙ run_append policy no_run part rest;
  entries =
      let within : length part ≤ length braid = subst (λ l. length part ≤ length l) (sym begins) (omega (arith, length-append part rest)) in
      first_entries policy (length part) braid within ∙ ap (λ l. (run_of policy (take (length part) l)).entries) begins ∙ ap (λ l. (run_of policy l).entries) (take-append_seam part rest);
}

pub stays_here : (policy : List PlacedItem) (cs : List Command) (f : Command) → IsClosed cs → AreInLine cs → Contains cs f → is_finalize f ≡ true → StaysFinal policy cs cs f
stays_here policy cs f closed line inside is braid whole =
    let r = final cs closed line f inside is braid whole in begins_with policy cs f braid r.0 r.1 r.2 r.3

pub stays_final : (policy : List PlacedItem) (cs more : List Command) (f : Command) → IsClosed (cs ++ more) → AreInLine (cs ++ more) → Contains cs f → is_finalize f ≡ true →
    StaysFinal policy cs (cs ++ more) f
stays_final policy cs more f longer line inside is braid whole =
    let r = final (cs ++ more) longer line f (Contains-append_left cs more f inside) is braid whole in
    let closed = each_left IsNext [] cs more longer in
    begins_with policy cs f braid r.0 r.1 (((stays cs f closed inside).kept more r.0 longer).1 r.2) r.3
