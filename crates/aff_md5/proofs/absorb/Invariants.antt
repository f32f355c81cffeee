-- After n iterations v is the state after n blocks of the joined list.
use Rattle.std.proofs.Common.{◌≡◌, ◌++◌}
use Rattle.aff_md5.specs.Md5.{blocks}
use Rattle.aff_md5.specs.passes.WholeBlocks.{whole}
use Rattle.aff_md5.proofs.absorb.Given as goal

abbrev pub invariant-loop-n : goal.invariant-loop-n
invariant-loop-n l = l.v ≡ blocks l.fn.h (whole l.front ++ l.back) l.n
