-- The layouts in numbers: document 01, 'Layout of a file', and source document 003, table 2, for editions 1 and 2; source document 000, tables 2, 4 and 5, for
-- edition 3 (request C-15). Edition.antt computes them from what each edition has of its own; here they are as the papers have them. Proved by `layouts` in
-- proofs/EditionLaws.antt.
use Rattle.std.specs.Prelude.{◌≡◌, Bool, true, false, [], ◌∷◌, ℕ, ◌+◌}
use Rattle.aff_format.specs.Edition.{edition_number, signature_text, has_counts, section_header_at, header_sum_at, header_size, least_header, most_header}
use Rattle.aff_format.specs.declared.section.Section.TheVariants.{Symbol, Tree, Data}
use Rattle.aff_format.specs.declared.edition.Edition.{Edition}
use Rattle.aff_format.specs.declared.edition.Edition.TheVariants.{One, Two, Three}

-- An edition has its section headers, its header sum and the end of its header at these places, and record counts or none.
pub record LayoutIs (e : Edition) (symbols tree stored sum size : ℕ) (counts : Bool) : Type 0 where
  pub symbols_at : section_header_at e Symbol ≡ symbols
  pub tree_at : section_header_at e Tree ≡ tree
  pub data_at : section_header_at e Data ≡ stored
  pub sum_at : header_sum_at e ≡ sum
  pub size_is : header_size e ≡ size
  pub counts_are : has_counts e ≡ counts

pub record Layouts : Type 0 where
  pub one : LayoutIs One 32 64 96 128 144 false
  pub two : LayoutIs Two 32 72 112 152 168 true
  pub three : LayoutIs Three 72 112 32 152 168 true
  -- The text is `LHPC AFF version N.0`, N the number of the edition as a digit.
  pub text : (e : Edition) → signature_text e
      ≡ 76 ∷ 72 ∷ 80 ∷ 67 ∷ 32 ∷ 65 ∷ 70 ∷ 70 ∷ 32 ∷ 118 ∷ 101 ∷ 114 ∷ 115 ∷ 105 ∷ 111 ∷ 110 ∷ 32 ∷ (48 + edition_number e) ∷ 46 ∷ 48 ∷ []
  -- The shortest header is edition 1's, the longest that of editions 2 and 3.
  pub least : least_header ≡ header_size One
  pub most : most_header ≡ header_size Three
