-- The invariant: no climb so far was endless, and the marks are theirs, `Passed`.
use Rattle.aff_tables.specs.passes.Climb.{copied_parent}
use Rattle.aff_tables.proofs.MarkLaws.{Passed}
use Rattle.aff_tables.proofs.climb.climbs.Given as goal

abbrev pub invariant-loop-k : goal.invariant-loop-k
invariant-loop-k l = Passed (copied_parent l.parents) l.nodes l.k l.marks
