-- The proofs of the laws that each disk owes, for one that tells nothing. They stand here since such disks cite them.
use Rattle.std.proofs.Common.{ℕ, ◌<◌, List, [], slice_index, refl, arith}
use Rattle.outside.specs.Disk.{IsImage, at_rest}

-- what was synced is its own image
pub image_at_rest : (bytes : List ℕ) → IsImage (at_rest bytes) bytes
image_at_rest bytes = record { no_shorter = omega arith; no_longer = omega arith; outside = λ place known out. refl }

-- where nothing stands, there are bytes alone
pub no_bytes : (place : ℕ) → slice_index [] place < 256
no_bytes place = omega arith
