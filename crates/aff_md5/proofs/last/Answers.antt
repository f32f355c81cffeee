use Rattle.std.proofs.Common.{◌∙◌}
use Rattle.aff_md5.proofs.Padding.{padded_over_zeros}
use Rattle.aff_md5.proofs.Writing.{le_bytes_eight}
use Rattle.aff_md5.proofs.last.Goals as goal

pub returns : goal.returns
returns c =
    padded_over_zeros c.args.s.now _ c.args.bits _ _ _ c.requires c.padded_size-end.ensures (c.to_le_bytes.ensures ∙ le_bytes_eight c.args.bits)
    c.put.ensures c.put-2.ensures
