use Rattle.braid.proofs.BaseFacts.{finalize_is_base, parts_at, straight_is_base, under_inside, waist_is_base}
use Rattle.braid.proofs.Finality.{no_merge}
use Rattle.braid.proofs.laws.bases_are_final.Goals as goal

pub returns-clause-parts : goal.returns-clause-parts
returns-clause-parts c = λ commands tips f closed base. parts_at commands closed tips f base

pub returns-clause-finalize : goal.returns-clause-finalize
returns-clause-finalize c = λ commands tips f line is under.
    finalize_is_base commands line tips f (under_inside commands tips f under) is (no_merge f is) under (λ x u. under_inside commands tips x u)

pub returns-clause-waist : goal.returns-clause-waist
returns-clause-waist c = λ commands tips f waist plain under. waist_is_base commands tips f waist plain under (λ x u. under_inside commands tips x u)

pub returns-clause-straight : goal.returns-clause-straight
returns-clause-straight c = λ commands tips f closed inside is plain under. straight_is_base commands closed tips f inside is.at_f is.parents under plain
