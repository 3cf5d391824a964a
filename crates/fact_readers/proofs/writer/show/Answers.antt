use Rattle.fact_readers.proofs.Versions.{shows}
use Rattle.std.proofs.Common.{drop}
use Rattle.fact_readers.proofs.writer.show.Goals as goal

pub returns : goal.returns
returns g c = let w = c.args.copies in let now = c.publish_as.result in λ plain.
    shows g.bound-3.state g.bound-3.applied plain now.1 w.desk.shown.value now.0.desk.shown.value (drop w.behind w.log.items) (drop now.0.behind now.0.log.items) c.publish_as.ensures.values
