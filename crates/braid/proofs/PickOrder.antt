-- What is taken first.
use Rattle.std.proofs.Common.{◌≡◌, ℕ, ◌<◌, true, false, List, [], ◌∷◌, length, Some, refl, sym, ◌∙◌, arith, get_or}
use Rattle.std.specs.Cmp.{IsTotalOrder, bool_cmp_total}
use Rattle.std.proofs.lemmas.Cmp.{back_total, on_total, then_total, tied_itself}
use Rattle.std.proofs.lemmas.Option.{slice_get-get_or}
use Rattle.command.specs.declared.command.Command.{Command}
use Rattle.command.specs.Ancestors.{IsAt}
use Rattle.command.specs.Kinds.{is_merge}
use Rattle.braid.specs.Lower.{IsLower}
use Rattle.braid.specs.working.Placing.{IsBefore, pick_order}
use Rattle.braid.proofs.Order.{rank_from_lower, rank_total}

pick_total : IsTotalOrder pick_order
pick_total = then_total (on_total is_merge (back_total bool_cmp_total)) rank_total

pub not_before_itself : (x : Command) → IsBefore x x → ⊥
not_before_itself x h = let t = tied_itself pick_total x in absurd cc

-- a merge is before every other command, and others go by their ranks
pub merge_before : (x y : Command) → is_merge x ≡ true → is_merge y ≡ false → IsBefore x y
merge_before x y is other = rw (is, other) refl

pub lower_before : (x y : Command) → is_merge x ≡ false → is_merge y ≡ false → IsLower x y → IsBefore x y
lower_before x y is other lower = rw (is, other) (rank_from_lower x y lower)

-- the command at a place that is there
pub command_at : (cs : List Command) (place : ℕ) → place < length cs → (x : Command) × IsAt cs place x
command_at [] place lt = absurd (omega (arith, lt))
command_at (c ∷ cs) place lt = (get_or (c ∷ cs) place c, slice_get-get_or (c ∷ cs) place c lt)

pub one_at : (cs : List Command) (place : ℕ) (x y : Command) → IsAt cs place x → IsAt cs place y → x ≡ y
one_at cs place x y here there = let both : Some x ≡ Some y = sym here ∙ there in cc
