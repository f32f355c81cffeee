-- The steps left fall.
use Rattle.aff_read.proofs.paths.+write_front.Given as goal

abbrev pub decreases-write_front : goal.decreases-write_front
decreases-write_front l = l.left
