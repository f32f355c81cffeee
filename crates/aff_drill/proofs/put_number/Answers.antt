-- The put is a step.
use Rattle.std.proofs.Common.{rules}
use Rattle.aff_drill.proofs.CallLaws.{put_left}
use Rattle.aff_drill.proofs.put_number.Goals as goal

pub returns : goal.returns
returns c = search (rules, put_left)
