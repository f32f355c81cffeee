use Rattle.std.proofs.Common.{arith}
use Rattle.std.proofs.Math.ListN.{length-set}
use Rattle.aff_format.proofs.NumberLaws.{put_next}
use Rattle.aff_format.proofs.number.put_be.Goals as goal

pub loop-k-preserved : goal.loop-k-preserved
loop-k-preserved c = grind (arith, put_next, length-set)
