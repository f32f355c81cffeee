-- After i iterations v is `steps m h i`.
use Rattle.std.proofs.Common.{◌≡◌}
use Rattle.aff_md5.specs.Md5.{steps}
use Rattle.aff_md5.proofs.compress.Given as goal

abbrev pub invariant-loop-i : goal.invariant-loop-i
invariant-loop-i l = l.v ≡ steps l.m l.h l.i
