use Rattle.std.proofs.Common.{◌≡◌, length, sym, ◌∙◌, ap}
use Rattle.fact_readers.proofs.Adding.{adds_moves}
use Rattle.fact_readers.proofs.book.Front.add.Goals as goal

pub compare_exchange-found-requires : goal.compare_exchange-found-requires
compare_exchange-found-requires g c =
    let h = c.args.book.now.head_is in
    let offer = c.plain-offer.ensures in
    let pen = c.no_pen-pen.ensures in
    let next = c.again-next.ensures in
    let book = ap (λ s. s.book) next ∙ (c.self.invariant.1 ∙ sym (ap (λ w. w.book) h)) in
    let len : length c.again-next.result.log ≡ c.self.inside.count = ap (λ s. length s.log) next ∙ sym c.self.invariant.0 in (
      ap (λ w. w.tracked) h,
      book,
      pen.0 ∙ book,
      offer.0,
      rw (ap (λ w. w.key) h, pen.1, offer.1, offer.3) (adds_moves c.again-next.result.log c.args.commit.now.items c.self.inside.count len),
    )
