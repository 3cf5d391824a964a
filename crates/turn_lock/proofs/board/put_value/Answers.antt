use Rattle.std.proofs.Common.{rules, ap, sym, ◌∙◌, ◌∷◌, Some, subst}
use Rattle.atomic_table.specs.Table.{rest}
use Rattle.turn_lock.specs.Turns.{IsIn, AddsOne}
use Rattle.turn_lock.proofs.Taking.{release_allowed}
use Rattle.turn_lock.proofs.board.put_value.Goals as goal

pub fetch_add-requires : goal.fetch_add-requires
fetch_add-requires g c =
    let now = c.exchange.ensures.3 in
    let same = ap (λ m. m.0) now in
    let carried = ap (λ m. m.1) now ∙ ap (λ cs. (0, Some c.args.value) ∷ rest cs) c.requires.inside.2 in (
      search rules,
      search rules,
      release_allowed _ _ _ _ c.args.number _ c.args.value carried (ap (λ v. v.inside) same ∙ c.requires.inside.0) (ap (λ v. v.other.numbers) same ∙ ap (λ p. p.numbers) c.requires.inside.1)
          (subst (λ v. IsIn c.args.number v.mine.numbers) (sym same) c.requires.inside.3)
          (subst (λ v. AddsOne g.T.Kept.caller g.T.Kept.before c.args.number v.mine.seen v.idle (g.T.Kept.turns c.args.value) (g.T.Kept.idle c.args.value)) (sym same) c.requires.value.0)
          c.requires.value.1,
    )
