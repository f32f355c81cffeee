use Rattle.std.proofs.Common.{rules}
use Rattle.aff_spelling.proofs.ShownLaws.{put_none, put_next}
use Rattle.aff_spelling.proofs.spelling.put_shown.Goals as goal

pub loop-x-init : goal.loop-x-init
loop-x-init c = search (rules, put_none)

pub loop-x-preserved : goal.loop-x-preserved
loop-x-preserved c = search (rules, put_next)
