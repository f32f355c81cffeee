use Rattle.std.proofs.Common.{rules}
use Rattle.aff_format.proofs.CopyLaws.{copied_next}
use Rattle.aff_format.proofs.bytes.put.Goals as goal

pub loop-i-preserved : goal.loop-i-preserved
loop-i-preserved c = search (rules, copied_next)
