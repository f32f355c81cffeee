-- Begin, and what is left to the calls after it.
use Rattle.std.proofs.Common.{rules}
use Rattle.aff_drill.proofs.CallLaws.{run_cut}
use Rattle.aff_drill.proofs.write.Goals as goal

pub returns : goal.returns
returns c = search (rules, run_cut)
