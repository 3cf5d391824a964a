use Rattle.std.proofs.Common.{◌≡◌, ℕ, Bool, true, false, ◌||◌, cond, List, refl, sym, ap, ◌∙◌}
use Rattle.std.specs.Bool.{one_answer}
use Rattle.std.specs.Str.{bytes_eq}
use Rattle.std.proofs.lemmas.Slice.Eq.{bytes_eq-Decides}
use Rattle.sync_peer.specs.working.Walks.{is_among}
use Rattle.sync_peer.proofs.known.add.Goals as goal

same_either_way : (a b : List ℕ) → bytes_eq a b ≡ bytes_eq b a
same_either_way a b = let d = bytes_eq-Decides b a in one_answer (bytes_eq a b) (bytes_eq b a) (bytes_eq-Decides a b) ((λ h. sym (d.0 h)), (λ h. d.1 (sym h)))

cond_or : (new old : Bool) → cond new true old ≡ (new || old)
cond_or true old = refl
cond_or false old = refl

pub returns : goal.returns
returns c = λ id.
    c.in_ok-insert.ensures.updates.0 id ∙ cond_or (bytes_eq c.args.one.now id) (is_among c.args.ids.now.keys id)
    ∙ ap (λ b. b || is_among c.args.ids.now.keys id) (same_either_way c.args.one.now id)
