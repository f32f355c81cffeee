-- The numbers of opening's checks, in their order: document 01, 'Order', as one list, with 25 to 27 of request C-11 and without 8, which is withdrawn
-- (request C-14). Assumes nothing.
use mathlib.Core.Path.{◌≡◌, ap, ◌∙◌}
use mathlib.Core.List.{List, [], ◌∷◌, ◌++◌}
use Prim.Native.Nat.{ℕ}
use Rattle.aff_format.specs.declared.section.Section.TheVariants.{Symbol, Data}
use Rattle.aff_format.specs.declared.edition.Edition.{Edition}
use Rattle.aff_format.proofs.AnswerLaws.{numbers_reported, numbers_both}
use Rattle.aff_tables.proofs.NodeLaws.{node_numbers}
use Rattle.aff_tables.proofs.SymbolLaws.{symbol_numbers}
use Rattle.aff_open.specs.Opening.{symbols_checked, tree_checked, table_checks, contents_in, nodes_checked, up_to_tables, open_checks}
use Rattle.aff_open.specs.Sections.{edition_in, section_offset, section_size, section_records, section_bytes}

-- Up to the tables, and all.
abbrev pub tables_numbers : List ℕ
tables_numbers = 1 ∷ 2 ∷ 3 ∷ 2 ∷ 4 ∷ 5 ∷ 6 ∷ 6 ∷ 6 ∷ 7 ∷ 7 ∷ 7 ∷ 25 ∷ 26 ∷ 27 ∷ 9 ∷ 9 ∷ []

abbrev pub open_numbers : List ℕ
open_numbers = tables_numbers ++ (10 ∷ 11 ∷ 12 ∷ 13 ∷ [])

table_numbers : (e : Edition) (image : List ℕ) → numbers_reported (table_checks e image) ≡ 25 ∷ 26 ∷ 27 ∷ 9 ∷ 9 ∷ []
table_numbers e image =
    numbers_both (symbols_checked e image) (tree_checked e image)
    ∙ ap (λ (ns : List ℕ). ns ++ (9 ∷ 9 ∷ [])) (symbol_numbers e (section_records e Symbol image) (section_bytes e Symbol image))

module _ (image form : List ℕ) (strings entries : ℕ) where
  pub tables_numbers_lem : numbers_reported (up_to_tables image form strings entries) ≡ tables_numbers
  unfolding up_to_tables
  tables_numbers_lem = rw (table_numbers (edition_in image) image)

  pub open_numbers_lem : numbers_reported (open_checks image form strings entries) ≡ open_numbers
  unfolding open_checks
  open_numbers_lem =
      numbers_both (up_to_tables image form strings entries) (nodes_checked (edition_in image) image)
      ∙ rw (
        tables_numbers_lem,
        node_numbers (edition_in image) (section_offset (edition_in image) Data image) (section_size (edition_in image) Data image) (contents_in (edition_in image) image),
      )
