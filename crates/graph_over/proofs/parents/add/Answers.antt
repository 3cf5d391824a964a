use Rattle.std.proofs.Common.{◌≡◌, ℕ, Bool, true, false, ◌||◌, cond, List, refl, sym, ap, ◌∙◌}
use Rattle.std.specs.Bool.{one_answer}
use Rattle.std.specs.List.{list_any}
use Rattle.std.specs.Str.{bytes_eq}
use Rattle.std.proofs.lemmas.Slice.Eq.{bytes_eq-Decides}
use Rattle.graph_over.proofs.parents.add.Goals as goal

same_either_way : (a b : List ℕ) → bytes_eq a b ≡ bytes_eq b a
same_either_way a b = let d = bytes_eq-Decides b a in one_answer (bytes_eq a b) (bytes_eq b a) (bytes_eq-Decides a b) ((λ h. sym (d.0 h)), (λ h. d.1 (sym h)))

cond_or : (new old : Bool) → cond new true old ≡ (old || new)
cond_or true true = refl
cond_or true false = refl
cond_or false true = refl
cond_or false false = refl

pub returns : goal.returns
returns c = λ id.
    c.in_ok-insert.ensures.updates.0 id ∙ cond_or (bytes_eq c.args.one.now id) (list_any (bytes_eq id) c.args.ids.now.keys)
    ∙ ap (λ b. list_any (bytes_eq id) c.args.ids.now.keys || b) (same_either_way c.args.one.now id)
