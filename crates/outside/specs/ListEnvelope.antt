-- What contracts see of the envelope whose seals may fail.
use Rattle.outside.specs.Plan.{Plan}
use Rattle.outside.specs.Schedule.{plan_of}
use Rattle.outside.specs.declared.list_envelope.ListEnvelope.{ListEnvelope}

-- its seals, counted, and those that are to fail
abbrev pub envelope_plan : ListEnvelope → Plan
envelope_plan envelope = plan_of envelope.schedule
