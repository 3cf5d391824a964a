-- Commands that are appended one by one.
use Rattle.std.proofs.Common.{◌≡◌, List, ◌∷◌, ◌++◌, sym, ap, subst, ◌∙◌}
use Rattle.command.specs.Closed.{IsClosed, IsNext}
use Rattle.command.specs.declared.command.Command.{Command}
use Rattle.command.proofs.ListFacts.{each_cut}

module _ (held left all more : List Command) (c : Command) (whole : held ++ left ≡ all) (first : left ≡ c ∷ more) where
  cut : all ≡ held ++ c ∷ more
  cut = sym whole ∙ ap (λ l. held ++ l) first

  pub next_is : IsClosed all → IsNext held c
  next_is closed = each_cut IsNext held c more (subst IsClosed cut closed)
