use Rattle.std.proofs.Common.{rules, ap, sym, ◌∙◌, ◌∷◌, Some}
use Rattle.atomic_table.specs.Table.{rest}
use Rattle.turn_lock.proofs.Taking.{look_allowed}
use Rattle.turn_lock.proofs.board.take_value.Goals as goal

pub load-requires : goal.load-requires
load-requires g c = (search rules, search rules, look_allowed _ _ _ _ c.args.ticket _ (search rules) (search rules))

pub exchange-requires : goal.exchange-requires
exchange-requires g c =
    let took = (c.load.ensures.2 c.args.ticket (search rules)).0 (search rules) in
    let carried = ap (λ m. m.1) took.hand in
    (search rules, (Some took.value, carried ∙ ap (λ cs. (0, Some took.value) ∷ rest cs) (sym carried)))
