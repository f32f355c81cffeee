-- What the passes inside opening keep, and what they report in document 01's numbers.
use Rattle.std.specs.Prelude.{◌≡◌, false, List, ℕ, ◌+◌, ◌≤◌, ◌<◌, length, Result}
use Rattle.aff_format.specs.Bytes.{laid_over}
use Rattle.aff_format.specs.Edition.{header_size}
use Rattle.aff_format.specs.Recorded.{recorded_string, recorded_entry}
use Rattle.aff_format.specs.declared.refusal.Refusal.{Refusal}
use Rattle.aff_format.specs.declared.section.Section.{Section}
use Rattle.aff_format.specs.declared.section.Section.TheVariants.{Symbol}
use Rattle.aff_format.specs.declared.edition.Edition.{Edition}
use Rattle.aff_tables.specs.passes.Distinct.{Places}
use Rattle.aff_tables.specs.passes.Results.{AllDistinct, symbols_of}
use Rattle.aff_open.specs.Opening.{string_in, entry_in, string_places, node_places}
use Rattle.aff_open.specs.Sections.{strings_in, nodes_in, section_offset, section_size, section_records, section_bytes, ends_past}

-- The first fault of an image's symbol table, or how many strings it has.
abbrev pub symbols_in : Edition → List ℕ → Result ℕ Refusal
symbols_in e image = symbols_of e (section_records e Symbol image) (section_bytes e Symbol image)

-- The header is whole, no section ends past the image, and the image is not too long.
pub record IsReadable (e : Edition) (image : List ℕ) : Type 0 where
  pub whole : header_size e ≤ length image
  pub inside : (s : Section) → ends_past e s image ≡ false
  pub short : length image < 2147483648

-- What tables without a fault have laid into the two areas.
pub record Filled (e : Edition) (image strings₀ strings entries₀ entries : List ℕ) : Type 0 where
  pub strings_laid : strings ≡ laid_over strings₀ (string_places e image)
  pub entries_laid : entries ≡ laid_over entries₀ (node_places e image)

-- The area of strings holds where the n strings of an image begin; no two are equal.
pub record StringsLaid (e : Edition) (image strings : List ℕ) (n : ℕ) : Type 0 where
  pub counted : n ≡ length (strings_in e image)
  pub placed : Places image (section_offset e Symbol image + section_size e Symbol image) strings n
  pub are : (i : ℕ) → i < n → recorded_string image (section_offset e Symbol image + section_size e Symbol image) strings i ≡ string_in e image i
  pub distinct : AllDistinct n (string_in e image)

-- The area of entries holds where the n entries of an image begin.
pub record EntriesLaid (e : Edition) (image entries : List ℕ) (n : ℕ) : Type 0 where
  pub counted : n ≡ length (nodes_in e image)
  pub few : n ≤ 2048
  pub are : (k : ℕ) → 0 < k → k ≤ n → recorded_entry image entries k ≡ entry_in e image k
