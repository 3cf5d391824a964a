use Rattle.command.proofs.AncestorFacts.{kept, not_itself, trans, under_down, was}
use Rattle.command.proofs.PlaceFacts.{stands_before}
use Rattle.command.proofs.laws.ancestors_are_older.Goals as goal

pub returns : goal.returns
returns c = λ commands closed. record {
  older = stands_before commands closed;
  not_itself = not_itself commands closed;
  transitive = trans commands;
  kept = λ more both x y inside. (was commands more both x y inside, kept commands more x y);
  closure = under_down commands;
}
