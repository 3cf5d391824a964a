use Rattle.outside.proofs.plain_tag.tag_digest.Goals as goal

pub returns : goal.returns
returns c = rw (← c.as_slice.ensures.value) (c.finalize.ensures _ (c.update-3.ensures _ (c.update-2.ensures _ (c.update.ensures _ c.new-hasher.ensures))))
