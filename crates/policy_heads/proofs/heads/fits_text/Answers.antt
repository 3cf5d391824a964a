use Rattle.std.proofs.lemmas.Str.{is_utf8-from_IsUtf8}
use Rattle.std.proofs.Common.{refl}
use Rattle.policy_heads.proofs.heads.fits_text.Goals as goal

pub returns : goal.returns
returns c = rw (← c.as_slice.ensures.bytes, is_utf8-from_IsUtf8 c.as_slice.result.now (rw c.as_slice.ensures.bytes c.as_slice.ensures.utf8)) refl
