-- That a list is closed is a proposition, as a fact that a type keeps has to be.
use Rattle.std.specs.Prelude.{ℕ, List, [], ◌∷◌, ◌++◌, Option, Some, None}
use Rattle.std.proofs.Props.{props}
use Rattle.command.specs.declared.command.Command.{Command}
use Rattle.command.specs.declared.command.Command.TheVariants.{Init, Basic, Finalize, Merge}
use Rattle.command.specs.Closed.{IsClosed, IsNext}
use Rattle.command.specs.Each.{EachAfter}
use Rattle.command.specs.Wire.{HasCut, IsFormed}

cut_prop : (cut : Option ℕ) → IsProp (HasCut cut)
cut_prop None = hlevel props
cut_prop (Some cut) = hlevel props

formed_prop : (c : Command) → IsProp (IsFormed c)
formed_prop (Init cut digest author name payload tag) = hlevel (props, cut_prop cut)
formed_prop (Basic cut priority parent author name payload tag) = hlevel (props, cut_prop cut)
formed_prop (Finalize cut parent author name payload tag) = hlevel (props, cut_prop cut)
formed_prop (Merge cut left right) = hlevel (props, cut_prop cut)

next_prop : (front : List Command) (c : Command) → IsProp (IsNext front c)
next_prop front c = hlevel (props, formed_prop c)

each_prop : (front cs : List Command) → IsProp (EachAfter IsNext front cs)
each_prop front [] = hlevel props
each_prop front (c ∷ cs) = hlevel (props, next_prop front c, each_prop (front ++ c ∷ []) cs)

pub closed_prop : (cs : List Command) → IsProp (IsClosed cs)
closed_prop cs = each_prop [] cs
