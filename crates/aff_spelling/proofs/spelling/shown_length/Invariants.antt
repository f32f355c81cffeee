-- The bytes before x are counted, `Counted`.
use Rattle.aff_spelling.proofs.ShownLaws.{Counted}
use Rattle.aff_spelling.proofs.spelling.shown_length.Given as goal

abbrev pub invariant-loop-x : goal.invariant-loop-x
invariant-loop-x l = Counted l.run l.limit l.left l.x-index
