use Rattle.std.proofs.Common.{ap, arith}
use Rattle.aff_format.proofs.WrittenLaws.{written_same}
use Rattle.aff_format.specs.declared.refusal.RefusalCode.{RefusalCode}
use Rattle.aff_list.specs.Lister.{refusal_line}
use Rattle.aff_list.proofs.DigitLaws.{line_written}
use Rattle.aff_list.proofs.refusal_line.put_refusal.Goals as goal

pub returns : goal.returns
returns c =
    written_same (ap (λ (x : RefusalCode). refusal_line x.number x.place) c.code-code.ensures)
    (line_written c.code-code.result.number c.code-code.result.place (omega arith) (omega arith) c.format.ensures.text c.format-2.ensures.text c.requires
    c.put_run-word.ensures c.put_field-end.ensures c.put_field.ensures)
