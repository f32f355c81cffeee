use Rattle.std.proofs.Common.{arith}
use Rattle.aff_list.proofs.FirstLaws.{first_long}
use Rattle.aff_list.proofs.blocks.first_block.Goals as goal

pub returns-then-image-gt65536-clause-block : goal.returns-then-image-gt65536-clause-block
returns-then-image-gt65536-clause-block c = first_long c.args.image.now c.args.choice (omega (arith, c.if-image-gt65536.true)) c.put_run.ensures
