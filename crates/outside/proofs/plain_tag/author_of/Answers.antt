use Rattle.outside.proofs.plain_tag.author_of.Goals as goal

pub returns : goal.returns
returns c = rw (c.new.ensures, ← c.as_slice.ensures.bytes) (c.finalize.ensures _ (c.update-2.ensures _ (c.update.ensures _ c.new-hasher.ensures)))
