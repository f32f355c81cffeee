-- Each iteration marks the node, and goes on to its parent.
use Rattle.std.proofs.Common.{refl}
use Rattle.aff_tables.proofs.MarkLaws.{on_step, fewer_free}
use Rattle.aff_tables.proofs.climb.trail.Goals as goal

pub loop-x-smaller : goal.loop-x-smaller
loop-x-smaller c = fewer_free c.loop-x.invariant c.if-m-ne0.false

pub loop-x-preserved : goal.loop-x-preserved
loop-x-preserved c = on_step c.loop-x.invariant _ c.loop-x-test.true c.if-m-ne0.false refl
