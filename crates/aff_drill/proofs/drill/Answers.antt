-- The buffer is that of the worked run cut after so many stores, and opening it gives the answer.
use Rattle.std.proofs.Common.{Ok, Err, ◌∙◌, arith}
use Rattle.aff_open.proofs.TablesLaws.{handed_on}
use Rattle.aff_drill.proofs.DrillLaws.{drill_reported}
use Rattle.aff_drill.proofs.drill.Goals as goal

pub returns-in_err-reopen : goal.returns-in_err-reopen
returns-in_err-reopen c =
    let w = drill_reported c.args.buffer.now _ _ (omega arith) c.args.allowance (Err _) c.number_form-form.ensures c.write.ensures c.in_err-reopen.ensures in
    let on = handed_on _ _ c.from_residual.ensures.1 in
    record { buffer = w.0; answer = on ∙ w.1.0; zeros = λ z. on ∙ w.1.1 z }

pub returns : goal.returns
returns c =
    let w = drill_reported c.args.buffer.now _ _ (omega arith) c.args.allowance (Ok _) c.number_form-form.ensures c.write.ensures c.in_ok-reopen.ensures in
    record { buffer = w.0; answer = w.1.0; zeros = w.1.1 }
