-- A slash stored, then the name after it.
use Rattle.aff_format.proofs.WrittenLaws.{written_cons}
use Rattle.aff_read.proofs.paths.put_own.Goals as goal

pub returns : goal.returns
returns c =
    written_cons _ _ _ _ c.requires.name_fits c.put_spelled.ensures
