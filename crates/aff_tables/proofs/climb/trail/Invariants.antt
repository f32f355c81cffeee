-- The invariant: the climb is on its way, `On`. The measure: the free marks.
use Rattle.aff_tables.specs.passes.Climb.{copied_parent}
use Rattle.aff_tables.proofs.MarkLaws.{On, free}
use Rattle.aff_tables.proofs.climb.trail.Given as goal

abbrev pub invariant-loop-x : goal.invariant-loop-x
invariant-loop-x l = On (copied_parent l.parents) l.nodes l.k l.x l.fn.marks l.marks

abbrev pub decreases-loop-x : goal.decreases-loop-x
decreases-loop-x l = free l.marks
