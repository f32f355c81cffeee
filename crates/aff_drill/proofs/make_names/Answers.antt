-- Two makes are two steps.
use Rattle.std.proofs.Common.{rules}
use Rattle.aff_drill.proofs.CallLaws.{both_left}
use Rattle.aff_drill.proofs.make_names.Goals as goal

pub returns : goal.returns
returns c = search (rules, both_left)
