use Rattle.std.proofs.Common.{◌≡◌, ◌++◌, drop}
use Rattle.std.specs.Option.{option_to_list}
use Rattle.fact_readers.specs.working.Book.{IsLaid}
use Rattle.fact_readers.proofs.writer.hand_all.Given as goal

-- all commits are where they were, in one order
abbrev pub invariant-loop : goal.invariant-loop
invariant-loop g l = IsLaid l.front l.copies.desk.shown.value (drop l.copies.behind l.copies.log.items) l.held
    × (l.copies.desk ≡ l.initial.copies.desk)
    × (drop l.copies.behind l.copies.log.items ++ (option_to_list l.held ++ l.queue) ≡ drop l.initial.copies.behind l.initial.copies.log.items ++ (option_to_list l.initial.held ++ l.initial.queue))
