-- A node more is in the table, and the front gets shorter with each step up.
use Rattle.aff_reader.proofs.BelongsLaws.{belongs_record}
use Rattle.aff_read.proofs.ClimbLaws.{climbing_less, climbing_next}
use Rattle.aff_read.proofs.paths.note_climb.Goals as goal

pub loop-at-smaller : goal.loop-at-smaller
loop-at-smaller c =
    climbing_less c.loop-at.invariant (belongs_record c.args.belonging.now.belongs) c.loop-at-test.true _ c.note-at.ensures.parent

pub loop-at-preserved : goal.loop-at-preserved
loop-at-preserved c =
    climbing_next c.loop-at.invariant (belongs_record c.args.belonging.now.belongs) c.loop-at-test.true _ c.note-at.ensures.parent c.note-at.ensures.table
