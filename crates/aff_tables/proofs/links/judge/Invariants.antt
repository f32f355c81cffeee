-- The invariant: the first strings are judged.
use Rattle.aff_tables.specs.passes.Results.{Judged}
use Rattle.aff_tables.proofs.links.judge.Given as goal

abbrev pub invariant-loop-i : goal.invariant-loop-i
invariant-loop-i l = Judged l.edition l.strings.image.now l.strings.end l.strings.places.now l.i l.sound
