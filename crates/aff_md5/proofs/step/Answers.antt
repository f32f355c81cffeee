-- The entries of the tables: those of the definition, each in its range.
use Rattle.aff_md5.specs.Md5.{word_order, shifts, additive, step}
use Rattle.aff_md5.proofs.StepTables.{shift_positive, shift_below, word_below}
use Rattle.aff_md5.proofs.step.Goals as goal

pub word-x-requires-clause-index : goal.word-x-requires-clause-index
unfolding word_order
word-x-requires-clause-index c = rw c.from.ensures (word_below c.args.i c.requires.index)

pub turn-requires : goal.turn-requires
unfolding shifts
turn-requires c =
    record {
      least = rw c.from-2.ensures (shift_positive c.args.i c.requires.index);
      most = rw c.from-2.ensures (shift_below c.args.i c.requires.index);
    }

pub returns : goal.returns
unfolding word_order shifts additive step
returns c = rw (c.turn.ensures, c.mix.ensures, c.word-x.ensures, c.from.ensures, c.from-2.ensures)
