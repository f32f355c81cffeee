-- Each field is the number at its place.
use Rattle.std.proofs.Common.{sym}
use Rattle.std.proofs.Math.Seq.{drop-drop}
use Rattle.aff_format.specs.Entry.{fields_of}
use Rattle.aff_format.proofs.entry.fields.Goals as goal

pub returns-then-is_void : goal.returns-then-is_void
unfolding fields_of
returns-then-is_void c = simp (drop-drop, sym c.if-is_void.ensures) cc

pub returns : goal.returns
unfolding fields_of
returns c = simp (drop-drop, sym c.if-is_void.ensures) cc
