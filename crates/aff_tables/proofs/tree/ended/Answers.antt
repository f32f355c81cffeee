-- A byte follows.
use Rattle.std.proofs.Common.{◌<◌, length, arith}
use lib.Seq.{drop-cons}
use Rattle.aff_tables.proofs.tree.ended.Goals as goal

pub returns-else-at-section : goal.returns-else-at-section
returns-else-at-section c =
    let s = c.args.section.now in
    let l : c.args.at < length s = omega arith in
    rw (drop-cons s c.args.at 0 l)
