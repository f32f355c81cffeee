-- The strings before `rest` are marked; the measure is what is left of the text.
use Rattle.std.proofs.Common.{length}
use Rattle.aff_areas.proofs.NameLaws.{Marking}
use Rattle.aff_areas.proofs.names.mark_strings.Given as goal

abbrev pub invariant-loop-rest : goal.invariant-loop-rest
invariant-loop-rest l = Marking l.text l.name l.initial.marks l.rest l.marks l.i

abbrev pub decreases-loop-rest : goal.decreases-loop-rest
decreases-loop-rest l = length l.rest
