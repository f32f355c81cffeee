use Rattle.std.proofs.Common.{◌-◌, length, refl, arith}
use Rattle.aff_format.specs.Answer.{accepted}
use Rattle.aff_reader.specs.Opened.{of}
use Rattle.aff_read.specs.Paths.{spelled_path_at}
use Rattle.aff_spelling.specs.declared.spelling.Spelling.TheVariants.{Escaped}
use Rattle.aff_list.proofs.LineLaws.{PathFirst, after_written}
use Rattle.aff_list.proofs.line.with_path.Goals as goal

pub returns-clause-output : goal.returns-clause-output
returns-clause-output c =
    let a = c.args in
    let path = of a.belonging.now.opened (spelled_path_at Escaped) a.node in
    let first : PathFirst path a.text.now a.out.now (length a.out.now - length a.text.now) (accepted _) c.path_of.new.out =
    record { left = omega arith; answer = c.in_ok-length.ensures.answer; output = c.in_ok-length.ensures.output } in
    (after_written first refl c.put_run.ensures).1
