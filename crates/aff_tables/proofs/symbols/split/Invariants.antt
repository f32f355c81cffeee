-- The invariant: the walk is in a string, `Splitting`.
use Rattle.aff_tables.proofs.SplitLaws.{Splitting}
use Rattle.aff_tables.proofs.symbols.split.Given as goal

abbrev pub invariant-loop-at : goal.invariant-loop-at
invariant-loop-at l = Splitting l.section l.first l.fn.places l.places l.n l.start l.at
