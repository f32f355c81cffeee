-- What is counted and the path of the node that the climb is at make up the path.
use Rattle.std.proofs.Common.{length}
use Rattle.aff_reader.specs.Opened.{of}
use Rattle.aff_read.specs.Paths.{spelled_path_at}
use Rattle.aff_read.specs.passes.Held.{holds}
use Rattle.aff_read.proofs.StepLaws.{Measured}
use Rattle.aff_read.proofs.paths.path_length.Given as goal

abbrev pub invariant-loop-own : goal.invariant-loop-own
invariant-loop-own l = holds l.belonging.opened (Measured l.spelling) l.node l.limit l.left l.at

abbrev pub decreases-loop-own : goal.decreases-loop-own
decreases-loop-own l = length (of l.belonging.opened (spelled_path_at l.spelling) l.at)
