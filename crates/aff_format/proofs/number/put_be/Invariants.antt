-- The bytes still to be written, over the area as it is, are all the bytes over the area as it was.
use Rattle.std.proofs.Common.{◌≡◌}
use Rattle.aff_format.specs.Bytes.{spliced}
use Rattle.aff_format.specs.Number.{be_bytes}
use Rattle.aff_format.proofs.number.put_be.Given as goal

abbrev pub invariant-loop-k : goal.invariant-loop-k
invariant-loop-k l = spliced l.at (be_bytes l.k l.rest) l.out ≡ spliced l.at (be_bytes l.width l.n) l.initial.out
