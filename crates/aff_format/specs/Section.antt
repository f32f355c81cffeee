-- The three sections, in the order in which they are checked: document 01, 'Numbers handed back', 6.
use Rattle.std.specs.Prelude.{ℕ}
use Rattle.aff_format.specs.declared.section.Section.{Section}
use Rattle.aff_format.specs.declared.section.Section.TheVariants.{Symbol, Tree, Data}

abbrev pub section_number : Section → ℕ
section_number Symbol = 1
section_number Tree = 2
section_number Data = 3
