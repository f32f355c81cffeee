-- The blocks that `absorb` is given are those of the padded message.
use Rattle.std.proofs.Common.{refl, arith}
use Rattle.aff_md5.proofs.Padding.{digested}
use Rattle.aff_md5.proofs.md5.Goals as goal

pub returns : goal.returns
returns c = digested c.args.message.now _ _ _ _ _ _ _ (omega arith) refl refl c.padded_size-end.ensures c.last-tail.ensures c.absorb.ensures c.output.ensures
