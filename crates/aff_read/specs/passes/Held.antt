-- Facts of a record with what is passed with it, as the passes' contracts name them.
use Rattle.std.specs.Prelude.{List, ℕ, ◌-◌, get_or}
use Rattle.aff_format.specs.Bytes.{part}
use Rattle.aff_nodes.specs.Recall.{symbols_end}
use Rattle.aff_reader.specs.declared.opened.Opened.{Opened}
use Rattle.aff_reader.specs.declared.reader.Reader.{Reader}

-- A fact about image, record and both areas.
abbrev pub holds : {A : Type 1} → Opened → (List ℕ → Reader → List ℕ → List ℕ → A) → A
holds o f = f o.image.now o.reader o.strings.now o.entries.now

-- The bytes of the symbol section from string i on.
abbrev pub symbols_from : List ℕ → Reader → List ℕ → List ℕ → ℕ → List ℕ
symbols_from image reader strings entries i = let from = get_or strings i 0 in part from (symbols_end reader - from) image
