use Rattle.std.proofs.Common.{rules, ◌≡◌, ap, sym, [], ◌∷◌, Some}
use Rattle.turn_lock.proofs.Seating.{opens}
use Rattle.turn_lock.proofs.lock.TurnLock.new.Goals as goal

pub new-requires : goal.new-requires
new-requires g c =
    let items : c.push.new.self.items ≡ Some c.args.value ∷ [] = search rules in
    rw items (opens _ _ c.args.value c.requires.0 c.requires.1 (ap g.T.Kept.opening (sym c.of-about.ensures)))
