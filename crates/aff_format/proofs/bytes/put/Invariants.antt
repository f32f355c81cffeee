-- The first i bytes are copied.
use Rattle.aff_format.proofs.CopyLaws.{Copied}
use Rattle.aff_format.proofs.bytes.put.Given as goal

abbrev pub invariant-loop-i : goal.invariant-loop-i
invariant-loop-i l = Copied l.at l.run l.initial.out l.out l.i
