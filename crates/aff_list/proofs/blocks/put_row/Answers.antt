use Rattle.std.proofs.Common.{[], ◌∷◌, length-append, ap, arith}
use Rattle.aff_format.specs.Verdict.{answer_of}
use Rattle.aff_reader.specs.Opened.{of}
use Rattle.aff_list.specs.Line.{line_at}
use Rattle.aff_list.specs.Lister.{row}
use Rattle.aff_list.proofs.RowLaws.{LineFirst, after_full, row_refused, row_written}
use Rattle.aff_list.proofs.blocks.put_row.Goals as goal

pub returns-then-size-used : goal.returns-then-size-used
unfolding row
returns-then-size-used c =
    let a = c.args in
    let line = of a.belonging.now.opened line_at a.node in
    let w = after_full a.used (row _ _ _ _ _) a.block.now (omega (arith, length-append line (10 ∷ []))) in
    record { value = w.0; block_after = w.1 }

pub returns-in-Err : goal.returns-in-Err
unfolding row
returns-in-Err c =
    let a = c.args in
    let l = c.line_of.ensures in
    let first : LineFirst (of a.belonging.now.opened line_at a.node) a.block.now a.used (answer_of c.line_of.result) c.line_of.new.out =
    record { size = omega arith; answer = l.answer; output = l.output } in
    let w = row_refused first _ (ap answer_of c.in-Err.is) in
    record { value = w.0; block_after = w.1 }

pub returns-in-Ok : goal.returns-in-Ok
unfolding row
returns-in-Ok c =
    let a = c.args in
    let l = c.line_of.ensures in
    let first : LineFirst (of a.belonging.now.opened line_at a.node) a.block.now a.used (answer_of c.line_of.result) c.line_of.new.out =
    record { size = omega arith; answer = l.answer; output = l.output } in
    let w = row_written first (ap answer_of c.in-Ok.is) in
    record { value = w.0; block_after = w.1 }
