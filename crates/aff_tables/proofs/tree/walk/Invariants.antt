-- The invariant: the walk is at an entry, `Walking`.
use Rattle.aff_tables.proofs.WalkLaws.{Walking}
use Rattle.aff_tables.proofs.tree.walk.Given as goal

abbrev pub invariant-loop-n : goal.invariant-loop-n
invariant-loop-n l = Walking l.section l.first l.fn.places l.places l.n l.at
