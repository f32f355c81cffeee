use Rattle.std.proofs.Common.{ℕ, List, [], ◌∷◌, ◌++◌, length, ap, arith}
use Rattle.aff_format.proofs.WrittenLaws.{written_same, written_more}
use Rattle.aff_list.proofs.refusal_line.put_field.Goals as goal

pub returns : goal.returns
returns c =
    let bytes = c.as_bytes.ensures.value in
    written_same (ap (λ (l : List ℕ). l ++ (c.args.byte ∷ [])) bytes) (written_more c.put_run-end.ensures (omega (arith, ap length bytes)) c.put_run.ensures)
