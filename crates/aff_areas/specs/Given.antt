-- What a call of make, put or close is given, as clauses name it.
use Rattle.std.specs.Prelude.{List, ℕ}
use Rattle.aff_areas.specs.declared.given.Given.{Given}
use Rattle.aff_areas.specs.declared.writer.Writer.{Writer}

-- A definition at the buffer's length, the record and both areas.
abbrev pub of : {A : Type 0} → Given → (ℕ → Writer → List ℕ → List ℕ → A) → A
of g f = f g.size g.writer g.text.now g.tree.now
