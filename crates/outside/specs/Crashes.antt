-- What a crash may leave of a disk now, and what one at some moment since an earlier time might have left.
use Rattle.std.specs.Prelude.{◌≡◌, ℕ, ◌+◌, ◌-◌, List, ◌∷◌, ◌++◌, length, take}
use Rattle.std.specs.List.{Any}
use Rattle.outside.specs.Disk.{Content, Moment, IsImage}

-- the disk's clock: how many of its calls changed what a crash may leave
abbrev pub clock : Content → ℕ
clock content = length content.past

-- all its moments, the newest first
abbrev pub moments : Content → List Moment
moments content = content.now ∷ content.past

-- those of them that were at this time of the clock or are later
abbrev pub moments_since : Content → ℕ → List Moment
moments_since content time = take (clock content + 1 - time) (moments content)

-- a crash now may leave these bytes
abbrev pub MayLeave : Content → List ℕ → Type 0
MayLeave content image = IsImage content.now image

-- a crash at some moment since that time might have left these bytes
abbrev pub MightHaveLeft : Content → ℕ → List ℕ → Type 0
MightHaveLeft content time image = Any (λ moment. IsImage moment image) (moments_since content time)

-- a crash at the moment leaves only what has P
abbrev pub Leaves : (List ℕ → Type 0) → Moment → Type 0
Leaves P moment = (image : List ℕ) → IsImage moment image → P image

-- the new content is the old one or a later one: some moments came since
pub record IsLater (old new : Content) : Type 0 where
  pub added : List Moment
  pub grown : moments new ≡ added ++ moments old

-- from the old content to the new one, a crash at any moment leaves only what has P
pub record LeavesOnly (old new : Content) (P : List ℕ → Type 0) : Type 0 where
  pub later : IsLater old new
  pub each : (image : List ℕ) → MightHaveLeft new (clock old) image → P image
