use Rattle.std.proofs.Common.{◌≡◌, ◌++◌, ◌∙◌, length, take, ap, arith}
use Rattle.aff_md5.proofs.Writing.{le_bytes_four, put_front}
use Rattle.aff_md5.proofs.put_word.Goals as goal

pub returns : goal.returns
returns c =
    let n : length c.to_le_bytes.result ≡ 4 = ap length c.to_le_bytes.ensures in
    put_front c.args.at 4 _ _ _ (omega (arith, c.requires)) n c.put.ensures
    ∙ ap (λ l. take c.args.at c.args.b.now ++ l) (c.to_le_bytes.ensures ∙ le_bytes_four c.args.x)
