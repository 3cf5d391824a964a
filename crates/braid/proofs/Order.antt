-- The order of two commands is total, but for commands of one id.
use Rattle.std.proofs.Common.{◌≡◌, ◌⊎◌, inl, inr, Bool, true, false, refl, sym, ap, ◌∙◌}
use Rattle.std.specs.Cmp.{IsTotalOrder, bool_cmp_total, nat_cmp_is, ranked}
use Rattle.std.specs.Ordering.{bool_cmp, nat_cmp, ordering_reverse, ordering_then}
use Rattle.std.specs.declared.cmp.Ordering.{Ordering}
use Rattle.std.specs.declared.cmp.Ordering.TheVariants.{Less, Equal, Greater}
use Rattle.std.proofs.lemmas.Cmp.{back_total, nat_cmp_total, nat_list_cmp_total, on_total, then_total, tied_itself}
use Rattle.std.proofs.lemmas.Map.Lookups.{exact_bytes}
use Rattle.command.specs.declared.command.Command.{Command}
use Rattle.command.specs.Kinds.{is_finalize, priority_of}
use Rattle.command.specs.Wire.{command_id}
use Rattle.braid.specs.Lower.{IsLower}
use Rattle.braid.specs.working.Placing.{rank_order}

pub rank_total : IsTotalOrder rank_order
rank_total = then_total (on_total is_finalize bool_cmp_total) (then_total (on_total priority_of nat_cmp_total) (on_total command_id (back_total nat_list_cmp_total)))

-- a part decides, or the next one does
then_less : (a b : Ordering) → ordering_then a b ≡ Less → (a ≡ Less) ⊎ ((a ≡ Equal) × (b ≡ Less))
then_less Less b e = inl refl
then_less Equal b e = inr (refl, e)
then_less Greater b e = absurd cc

bools_less : (a b : Bool) → bool_cmp a b ≡ Less → (a ≡ false) × (b ≡ true)
bools_less false true e = (refl, refl)
bools_less false false e = absurd cc
bools_less true false e = absurd cc
bools_less true true e = absurd cc

bools_equal : (a b : Bool) → bool_cmp a b ≡ Equal → a ≡ b
bools_equal false false e = refl
bools_equal true true e = refl
bools_equal false true e = absurd cc
bools_equal true false e = absurd cc

one_bool : (a b : Bool) → a ≡ b → bool_cmp a b ≡ Equal
one_bool false false e = refl
one_bool true true e = refl
one_bool false true e = absurd cc
one_bool true false e = absurd cc

-- the code's comparison is the definition's three cases
pub lower_from_rank : (x y : Command) → rank_order x y ≡ Less → IsLower x y
lower_from_rank x y e =
    elim (then_less (bool_cmp (is_finalize x) (is_finalize y)) _ e) [
      | inl kinds ↦ let k = bools_less (is_finalize x) (is_finalize y) kinds in IsLower.under_finalize k.0 k.1
      | inr later ↦ elim (then_less (nat_cmp (priority_of x) (priority_of y)) _ later.1) [
        | inl smaller ↦ IsLower.smaller_priority (bools_equal (is_finalize x) (is_finalize y) later.0) (ranked (priority_of x) (priority_of y) Less (sym smaller))
        | inr last ↦ IsLower.greater_id (bools_equal (is_finalize x) (is_finalize y) later.0) (ranked (priority_of x) (priority_of y) Equal (sym last.0)) last.1
      ]
    ]

pub rank_from_lower : (x y : Command) → IsLower x y → rank_order x y ≡ Less
rank_from_lower x y (IsLower.under_finalize other is) = rw (other, is) refl
rank_from_lower x y (IsLower.smaller_priority one smaller) = rw (one_bool (is_finalize x) (is_finalize y) one, sym (nat_cmp_is (priority_of x) (priority_of y) Less smaller)) refl
rank_from_lower x y (IsLower.greater_id one level ids) = rw (one_bool (is_finalize x) (is_finalize y) one, sym (nat_cmp_is (priority_of x) (priority_of y) Equal level)) ids

second_equal : (a b : Ordering) → ordering_then a b ≡ Equal → b ≡ Equal
second_equal Less b e = absurd cc
second_equal Equal b e = e
second_equal Greater b e = absurd cc

one_id : (x y : Command) → rank_order x y ≡ Equal → command_id x ≡ command_id y
one_id x y e =
    let later = second_equal (bool_cmp (is_finalize x) (is_finalize y)) _ e in
    sym (exact_bytes (command_id y) (command_id x) (second_equal (nat_cmp (priority_of x) (priority_of y)) _ later))

by_order : (o : Ordering) (x y : Command) → rank_order x y ≡ o → IsLower x y ⊎ (IsLower y x ⊎ (command_id x ≡ command_id y))
by_order Less x y e = inl (lower_from_rank x y e)
by_order Equal x y e = inr (inr (one_id x y e))
by_order Greater x y e = inr (inl (lower_from_rank y x (rank_total.antisymm y x ∙ ap ordering_reverse e)))

-- one of two commands is lower, or they have one id
pub lower_cases : (x y : Command) → IsLower x y ⊎ (IsLower y x ⊎ (command_id x ≡ command_id y))
lower_cases x y = by_order (rank_order x y) x y refl

pub lower_trans : (x y z : Command) → IsLower x y → IsLower y z → IsLower x z
lower_trans x y z h k = lower_from_rank x z (rank_total.trans x y z (rank_from_lower x y h) (rank_from_lower y z k))

pub lower_not_itself : (x : Command) → IsLower x x → ⊥
lower_not_itself x h = let t = tied_itself rank_total x in let e = rank_from_lower x x h in absurd cc

-- not lower than one that isn't lower than a third
pub lower_not_back : (x y : Command) → IsLower x y → IsLower y x → ⊥
lower_not_back x y h k = lower_not_itself x (lower_trans x y x h k)
