use Rattle.std.proofs.Common.{rules}
use Rattle.console.proofs.Reading.{read_on}
use Rattle.console.proofs.read_full.Goals as goal

pub loop-done-preserved : goal.loop-done-preserved
loop-done-preserved g c = record {
  inside = search rules;
  bytes = read_on _ _ _ _ _ _ _ _ c.loop-done.invariant.inside c.in_ok-n.ensures.bound.0 c.loop-done.invariant.bytes c.in_ok-n.ensures.bytes.0;
}
