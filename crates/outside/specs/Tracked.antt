-- What contracts see of bytes whose changes are recorded.
use Rattle.std.specs.Prelude.{reverse}
use Rattle.outside.specs.Disk.{Content}
use Rattle.outside.specs.Replaced.{moment_after, past_after}
use Rattle.outside.specs.declared.tracked_bytes.TrackedBytes.{TrackedBytes}

-- their content, as a disk's
abbrev pub tracked_content : TrackedBytes → Content
tracked_content tracked = record {
  reads = tracked.bytes.items;
  now = moment_after (reverse tracked.calls.items) tracked.bytes.items;
  past = past_after (reverse tracked.calls.items) tracked.bytes.items;
}
