-- The places that C programs get (request C-18): `place` of `aff_lookup`, numbers[0] of `aff_make`, and record[0] and record[12] of `aff_open_image`.
use Rattle.std.specs.Prelude.{◌≡◌, true, List, ◌↔◌, ℕ, ◌≤◌, ◌<◌, length, get_or}
use Rattle.aff_format.specs.Edition.{edition_by}
use Rattle.aff_format.specs.Breaks.{Breaks}
use Rattle.aff_format.specs.Path.{WellFormed}
use Rattle.aff_format.specs.Rule.{AllHold}
use Rattle.aff_format.specs.Subkey.{IsSubkey}
use Rattle.aff_open.specs.Faults.{rules_before10}
use Rattle.aff_open.specs.Rules.{FirstBadLink}
use Rattle.aff_open.specs.Sections.{edition_in, strings_in, nodes_in}
use Rattle.aff_reader.specs.Belongs.{ReaderBelongs}
use Rattle.aff_reader.specs.declared.reader.Reader.{Reader}
use Rattle.aff_read.specs.Paths.{lookup_answer}
use Rattle.aff_areas.specs.Belongs.{WriterBelongs}
use Rattle.aff_areas.specs.Writer.{writer_edition}
use Rattle.aff_c.specs.Writing.{given, make_returned, numbers_made}
use Rattle.aff_c.specs.Opening.{number_returned, record_left}
use Rattle.aff_c.specs.Reading.{number_by, place_by}

pub record PlacesInC : Type 0 where
  -- By a record that belongs, `aff_lookup` returns 14 and writes place p exactly when p is where the path breaks. With any other number it writes 0.
  pub lookup : (image : List ℕ) (r : Reader) (strings entries path : List ℕ) → ReaderBelongs image r strings entries → (p : ℕ)
      → ((number_by (lookup_answer image r strings entries path) ≡ 14) × (place_by (lookup_answer image r strings entries path) ≡ p))
      ↔ Breaks (WellFormed (edition_by r.edition)) path p
  pub lookup_other : (image : List ℕ) (r : Reader) (strings entries path : List ℕ) → (number_by (lookup_answer image r strings entries path) ≡ 14 → ⊥)
      → place_by (lookup_answer image r strings entries path) ≡ 0
  -- By a record of an open writer that belongs, below a node that exists, `aff_make` returns 14 and leaves p in numbers[0] exactly when p is where the name
  -- breaks.
  pub make : (buffer numbers kept text tree : List ℕ) (parent : ℕ) (name : List ℕ) → 0 < length numbers
      → WriterBelongs (length buffer) (given buffer numbers kept text tree) text tree → (given buffer numbers kept text tree).live ≡ true
      → parent ≤ (given buffer numbers kept text tree).nodes → (p : ℕ)
      → ((number_by (make_returned buffer numbers kept text tree parent name) ≡ 14) × (get_or (numbers_made buffer numbers kept text tree parent name) 0 0 ≡ p))
      ↔ Breaks (IsSubkey (writer_edition (given buffer numbers kept text tree))) name p
  -- Where `aff_open_image` returns 10, into a record of 13 numbers or more, record[0] is the lowest bad node and record[12] the second number that `FirstBadLink`
  -- says. Where it returns any other number, 0 included, record[12] is 0.
  pub opening : (image form strings entries output : List ℕ) → 13 ≤ length output → number_returned image form strings entries output ≡ 10
      → AllHold (rules_before10 image form (length strings) (length entries))
      × FirstBadLink (edition_in image) (strings_in (edition_in image) image) (nodes_in (edition_in image) image)
      (get_or (record_left image form strings entries output) 0 0) (get_or (record_left image form strings entries output) 12 0)
  pub opening_other : (image form strings entries output : List ℕ) → 13 ≤ length output → (number_returned image form strings entries output ≡ 10 → ⊥)
      → get_or (record_left image form strings entries output) 12 0 ≡ 0
