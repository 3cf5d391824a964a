-- Merging turn by turn.
use Rattle.std.proofs.Common.{◌≡◌, ℕ, suc, ◌+◌, ◌-◌, ◌<◌, ◌≤◌, List, Some, None, Result, Ok, Err, refl, sym, ap, subst, ◌∙◌, arith}
use Rattle.command.specs.declared.command.Command.{Command}
use Rattle.transaction.specs.Drafts.{Draft}
use Rattle.transaction.specs.Merging.{merge_two, merges}
use Rattle.transaction.specs.working.Steps.{Merges}

-- one turn of so many that are left
pub one_turn : (held : List Command) (total i : ℕ) (draft : Draft) → i < total → merges held (total - i) draft ≡ merge_two held draft draft.heads (merges held (total - (i + 1)))
one_turn held total i draft within = ap (λ n. merges held n draft) (next total i within)
  where
    next : (total i : ℕ) → i < total → total - i ≡ suc (total - (i + 1))
    next total i within = omega (arith, within)

-- no turn is left
pub no_turn : (held : List Command) (total : ℕ) (draft : Draft) → merges held (total - total) draft ≡ Ok draft
no_turn held total draft = ap (λ n. merges held n draft) (none total)
  where
    none : (n : ℕ) → n - n ≡ 0
    none n = omega arith

-- what the whole is, once it ends or goes on
pub turns_end : (held : List Command) (total i : ℕ) (old new : Draft) (whole : Result Draft (List ℕ)) → i < total → merges held (total - i) old ≡ whole
    → ((more : Draft → Result Draft (List ℕ)) → merge_two held old old.heads more ≡ Ok new) → Ok new ≡ whole
turns_end held total i old new whole within so_far step = sym (step (merges held (total - (i + 1)))) ∙ sym (one_turn held total i old within) ∙ so_far

pub turns_known : (held : List Command) (total i : ℕ) (old : Draft) (id : List ℕ) (whole : Result Draft (List ℕ)) → i < total → merges held (total - i) old ≡ whole
    → ((more : Draft → Result Draft (List ℕ)) → merge_two held old old.heads more ≡ Err id) → Err id ≡ whole
turns_known held total i old id whole within so_far step = sym (step (merges held (total - (i + 1)))) ∙ sym (one_turn held total i old within) ∙ so_far

pub turns_go : (held : List Command) (total i : ℕ) (old new : Draft) (whole : Result Draft (List ℕ)) → i < total → merges held (total - i) old ≡ whole
    → ((more : Draft → Result Draft (List ℕ)) → merge_two held old old.heads more ≡ more new) → merges held (total - (i + 1)) new ≡ whole
turns_go held total i old new whole within so_far step = sym (step (merges held (total - (i + 1)))) ∙ sym (one_turn held total i old within) ∙ so_far

pub all_merged : (whole : Result Draft (List ℕ)) (new : Draft) → Ok new ≡ whole → Merges whole None new
all_merged whole new is = subst (λ r. Merges r None new) is refl

pub known_merge : (whole : Result Draft (List ℕ)) (new : Draft) (id : List ℕ) → Err id ≡ whole → Merges whole (Some id) new
known_merge whole new id is = subst (λ r. Merges r (Some id) new) is refl

pub ends_whole : (held : List Command) (total i : ℕ) (old new : Draft) (whole : Result Draft (List ℕ)) → i < total → merges held (total - i) old ≡ whole
    → ((more : Draft → Result Draft (List ℕ)) → merge_two held old old.heads more ≡ Ok new) → Merges whole None new
ends_whole held total i old new whole within so_far step = all_merged whole new (turns_end held total i old new whole within so_far step)

pub ends_known : (held : List Command) (total i : ℕ) (old new : Draft) (id : List ℕ) (whole : Result Draft (List ℕ)) → i < total → merges held (total - i) old ≡ whole
    → ((more : Draft → Result Draft (List ℕ)) → merge_two held old old.heads more ≡ Err id) → Merges whole (Some id) new
ends_known held total i old new id whole within so_far step = known_merge whole new id (turns_known held total i old id whole within so_far step)

pub ends_last : (held : List Command) (total i : ℕ) (draft : Draft) (whole : Result Draft (List ℕ)) → (i < total → ⊥) → i ≤ total → merges held (total - i) draft ≡ whole → Merges whole None draft
ends_last held total i draft whole over within so_far = all_merged whole draft (sym (ap (λ n. merges held n draft) (none total i over within)) ∙ so_far)
  where
    none : (total i : ℕ) → (i < total → ⊥) → i ≤ total → total - i ≡ 0
    none total i over within = omega (arith, within, over)
