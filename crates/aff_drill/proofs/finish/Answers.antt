-- Put and close with what is left are the run cut there.
use Rattle.std.proofs.Common.{rules}
use Rattle.aff_drill.proofs.CallLaws.{finished_cut}
use Rattle.aff_drill.proofs.finish.Goals as goal

pub returns : goal.returns
returns c = search (rules, finished_cut)
