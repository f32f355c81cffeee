-- The records that C programs keep between two calls (request C-15): what one call writes, the next one reads.
use Rattle.std.specs.Prelude.{◌≡◌, List, ℕ, ◌≤◌, ◌<◌, length, get_or, take, replicate}
use Rattle.aff_format.specs.Answer.{accepted}
use Rattle.aff_open.specs.Opening.{open_answer}
use Rattle.aff_reader.specs.Belongs.{ReaderBelongs}
use Rattle.aff_reader.specs.declared.reader.Reader.{Reader}
use Rattle.aff_areas.specs.Belongs.{WriterBelongs}
use Rattle.aff_areas.specs.Writer.{no_writer}
use Rattle.aff_areas.specs.declared.writer.Writer.{Writer}
use Rattle.aff_c.specs.Opening.{record_left}
use Rattle.aff_c.specs.Reading.{reader_in}
use Rattle.aff_c.specs.Writing.{writer_in, numbers_by}

pub record RecordsInC : Type 0 where
  -- The record that a writing call leaves is the one that the next call reads.
  pub writer_kept : (n : ℕ) (w : Writer) → w.edition ≤ 4294967295 → writer_in (numbers_by n w) w.form ≡ w
  -- The record of an accepted opening is the one that the reading calls read: its first 12 numbers.
  pub reader_kept : (image form strings entries output : List ℕ) {r : Reader} → 13 ≤ length output
      → open_answer image form (length strings) (length entries) ≡ accepted r → reader_in (take 12 (record_left image form strings entries output)) ≡ r
  -- include/aff.h: the edition is numbers[2] of a writer, and record[2] of an accepted opening.
  pub edition_at : (n : ℕ) (w : Writer) → get_or (numbers_by n w) 2 0 ≡ w.edition
  pub opened_edition_at : (image form strings entries output : List ℕ) {r : Reader} → 13 ≤ length output
      → open_answer image form (length strings) (length entries) ≡ accepted r → get_or (record_left image form strings entries output) 2 0 ≡ r.edition
  -- The record that a begin refused by 1, 3 or 21 leaves is all zero: numbers and kept.
  pub none_zero : (numbers_by 0 no_writer ≡ replicate 8 0) × (no_writer.form ≡ replicate 12 0)
  -- The end of data is numbers[6] of a writer (request C-22).
  pub end_at : (n : ℕ) (w : Writer) → get_or (numbers_by n w) 6 0 ≡ w.end
  -- An edition above 32 bits is none: 24 for the writer, and 24 for the reader.
  pub edition_wide : (size : ℕ) (l form text tree : List ℕ) → 4294967295 < get_or l 2 0 → WriterBelongs size (writer_in l form) text tree → ⊥
  pub opened_edition_wide : (image l strings entries : List ℕ) → 4294967295 < get_or l 2 0 → ReaderBelongs image (reader_in l) strings entries → ⊥
