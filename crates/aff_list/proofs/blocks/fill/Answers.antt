use Rattle.std.proofs.Common.{refl, ◌≤◌, length, arith}
use Rattle.aff_reader.proofs.BelongsLaws.{record_belongs}
use Rattle.aff_list.specs.Lister.{row_limit}
use Rattle.aff_list.proofs.FillLaws.{filled_full, filling_next}
use Rattle.aff_list.proofs.blocks.fill.Goals as goal

pub invariant_of-belonging : goal.invariant_of-belonging
invariant_of-belonging c = record { belongs = record_belongs c.requires.ready.belongs }

pub returns-then-end-used : goal.returns-then-end-used
returns-then-end-used c =
    let long : row_limit ≤ length c.args.block.now = omega arith in
    let p = c.put_row-end.ensures in
    filled_full c.requires.ready c.requires.place c.loop-next.invariant (omega arith) refl p.value p.block_after long c.if-end-used.true

pub loop-next-preserved : goal.loop-next-preserved
loop-next-preserved c =
    let p = c.put_row-end.ensures in
    filling_next c.requires.ready c.requires.place c.loop-next.invariant (omega arith) refl p.value p.block_after c.if-end-used.false
