use Rattle.std.proofs.Common.{rules}
use Rattle.console.proofs.Writing.{written_on}
use Rattle.console.proofs.text.Goals as goal

pub loop-done-preserved : goal.loop-done-preserved
loop-done-preserved g c = record {
  inside = search rules;
  bytes = written_on _ _ _ _ _ _ c.loop-done.invariant.bytes c.in_ok-n.ensures.bytes;
}
