use Rattle.std.proofs.Common.{◌+◌, ◌≤◌, [], ◌∷◌, ◌++◌, length, sym, ◌∙◌, arith}
use Rattle.aff_format.proofs.WrittenLaws.{written_same, written_more}
use Rattle.aff_list.specs.Line.{kind_word, decimal}
use Rattle.aff_list.proofs.DigitLaws.{count_is}
use Rattle.aff_list.proofs.LineLaws.{word_length, word_before}
use Rattle.aff_list.proofs.line.put_tail.Goals as goal

pub returns : goal.returns
returns c =
    let fits : 0 + length (32 ∷ (kind_word c.args.kind ++ (32 ∷ []))) ≤ length c.args.out.now = omega (arith, word_length c.args.kind) in
    written_same (word_before c.args.kind (decimal 10 c.args.count))
    (rw (count_is c.args.count c.ranges.count.fits, sym (c.as_bytes.ensures.value ∙ c.format.ensures.text)) (written_more c.put_word-end.ensures fits c.put_run.ensures))
