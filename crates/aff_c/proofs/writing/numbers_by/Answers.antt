use mathlib.Core.Path.{refl}
use Rattle.aff_c.specs.Writing.{numbers_by}
use Rattle.aff_c.proofs.RecordsLaws.{flag_is}
use Rattle.aff_c.proofs.writing.numbers_by.Goals as goal

pub returns : goal.returns
unfolding numbers_by
returns c = rw (c.from.ensures, c.from-2.ensures, flag_is c.args.writer.live) refl
