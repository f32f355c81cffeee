-- What is stored is a chain that ends where the climb is. The steps left fall.
use Rattle.std.proofs.Common.{◌-◌}
use Rattle.aff_read.specs.passes.Held.{holds}
use Rattle.aff_read.proofs.ChainLaws.{Chaining}
use Rattle.aff_read.proofs.paths.climb.Given as goal

abbrev pub invariant-loop-fit : goal.invariant-loop-fit
invariant-loop-fit l = holds l.belonging.opened Chaining l.fits l.node l.steps l.count l.at

abbrev pub decreases-loop-fit : goal.decreases-loop-fit
decreases-loop-fit l = l.belonging.opened.reader.nodes - l.count
