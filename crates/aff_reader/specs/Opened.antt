-- What a reading call is passed, as clauses name it.
use Rattle.std.specs.Prelude.{List, ℕ}
use Rattle.aff_format.specs.Recorded.{recorded_entry}
use Rattle.aff_format.specs.declared.entry.Entry.{Entry}
use Rattle.aff_reader.specs.declared.opened.Opened.{Opened}
use Rattle.aff_reader.specs.declared.reader.Reader.{Reader}

-- A definition at image, record and both areas.
abbrev pub of : {A : Type 0} → Opened → (List ℕ → Reader → List ℕ → List ℕ → A) → A
of o f = f o.image.now o.reader o.strings.now o.entries.now

-- The entry of a node, by the image and the places of entries.
abbrev pub opened_entry : Opened → ℕ → Entry
opened_entry o node = recorded_entry o.image.now o.entries.now node
