-- The bytes before x are written, `PutShown`.
use Rattle.aff_spelling.proofs.ShownLaws.{PutShown}
use Rattle.aff_spelling.proofs.spelling.put_shown.Given as goal

abbrev pub invariant-loop-x : goal.invariant-loop-x
invariant-loop-x l = PutShown l.at l.run l.initial.out l.out l.end l.x-index
