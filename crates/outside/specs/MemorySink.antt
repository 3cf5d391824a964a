-- What contracts see of the sink in memory.
use Rattle.std.specs.Prelude.{ℕ, List}
use Rattle.outside.specs.Plan.{Plan}
use Rattle.outside.specs.Schedule.{plan_of}
use Rattle.outside.specs.declared.memory_sink.MemorySink.{MemorySink}

-- the bytes written to it
abbrev pub sink_bytes : MemorySink → List ℕ
sink_bytes sink = sink.bytes

-- its calls, counted, and those that are to fail
abbrev pub sink_plan : MemorySink → Plan
sink_plan sink = plan_of sink.schedule
