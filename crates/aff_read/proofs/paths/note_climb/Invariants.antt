-- The nodes that the climb has passed are in the table. The front of the node that it is at gets shorter.
use Rattle.std.proofs.Common.{length}
use Rattle.aff_reader.specs.Opened.{of}
use Rattle.aff_spelling.specs.declared.spelling.Spelling.TheVariants.{Raw}
use Rattle.aff_read.specs.passes.Held.{holds}
use Rattle.aff_read.proofs.ClimbLaws.{Climbing}
use Rattle.aff_read.proofs.FrontLaws.{front_at}
use Rattle.aff_read.proofs.paths.note_climb.Given as goal

abbrev pub invariant-loop-at : goal.invariant-loop-at
invariant-loop-at l = holds l.belonging.opened Climbing l.node l.table l.at

abbrev pub decreases-loop-at : goal.decreases-loop-at
decreases-loop-at l = length (of l.belonging.opened (front_at Raw) l.at)
