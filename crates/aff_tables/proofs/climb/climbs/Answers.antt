-- Before the first climb no node is marked; an endless one is the lowest.
use Rattle.std.proofs.Common.{refl, arith}
use Rattle.aff_tables.proofs.MarkLaws.{none_passed, next_endless}
use Rattle.aff_tables.proofs.climb.climbs.Goals as goal

pub loop-k-init : goal.loop-k-init
loop-k-init c = none_passed _ _ 2049 (omega arith)

pub returns-then-not-trail : goal.returns-then-not-trail
returns-then-not-trail c = next_endless c.loop-k.invariant (omega arith) c.if-not-trail.ensures refl
