-- The makes store nothing.
use Rattle.std.proofs.Common.{rules}
use Rattle.aff_drill.proofs.CallLaws.{filled_cut}
use Rattle.aff_drill.proofs.fill.Goals as goal

pub returns : goal.returns
returns c = search (rules, filled_cut)
