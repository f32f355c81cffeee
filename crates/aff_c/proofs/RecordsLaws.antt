-- What one call writes, the next one reads: by the places of the numbers, and since the number of an edition has few bits. Assumes nothing.
use mathlib.Core.Path.{◌≡◌, refl, ap, ◌∙◌}
use mathlib.Core.Bool.{Bool, true, false, cond}
use mathlib.Core.List.{List}
use Prim.Native.Nat.{ℕ, ◌≤◌, ◌<◌}
use native.Mathlib.Omega.{arith}
use mir.Val.{bool_byte}
use lib.Dec.{eqb}
use lib.ListN.{length, get_or, take, replicate}
use borrow.Author.Tests.{le-leb, lt-ltb, le-ltb}
use Rattle.aff_format.specs.Answer.{accepted}
use Rattle.aff_format.proofs.AnswerLaws.{passed_value}
use Rattle.aff_format.proofs.EditionLaws.{edition_numbers, number_of_edition}
use Rattle.aff_open.specs.Opening.{open_answer, open_checks, reader_for}
use Rattle.aff_open.specs.Sections.{edition_in}
use Rattle.aff_reader.specs.Belongs.{ReaderBelongs}
use Rattle.aff_reader.specs.declared.reader.Reader.{Reader}
use Rattle.aff_areas.specs.Belongs.{WriterBelongs}
use Rattle.aff_areas.specs.Writer.{no_writer}
use Rattle.aff_areas.specs.declared.writer.Writer.{Writer}
use Rattle.aff_c.specs.Opening.{numbers_of, record_left}
use Rattle.aff_c.specs.Reading.{edition_number_in, reader_in}
use Rattle.aff_c.specs.Writing.{writer_in, numbers_by}
use Rattle.aff_c.specs.Records.{RecordsInC}

-- The number that the edition of a record is read from: itself up to 32 bits, else 0.
narrow : (n : ℕ) → n ≤ 4294967295 → edition_number_in n ≡ n
unfolding edition_number_in
narrow n h = rw (le-ltb 4294967295 n h)

wide : (n : ℕ) → 4294967295 < n → edition_number_in n ≡ 0
unfolding edition_number_in
wide n h = rw (lt-ltb 4294967295 n h)

-- A flag is 1 or 0, as `u64::from` makes it.
pub flag_is : (b : Bool) → bool_byte b ≡ cond b 1 0
flag_is true = refl
flag_is false = refl

-- The flag as a number and back.
flag_kept : (b : Bool) → eqb (cond b 1 0) 1 ≡ b
flag_kept true = refl
flag_kept false = refl

kept : (n : ℕ) (w : Writer) → w.edition ≤ 4294967295 → writer_in (numbers_by n w) w.form ≡ w
unfolding writer_in numbers_by
kept n w h = rw (narrow w.edition h, flag_kept w.live)

placed : (n : ℕ) (w : Writer) → get_or (numbers_by n w) 2 0 ≡ w.edition
unfolding numbers_by
placed n w = refl

all_zero : (numbers_by 0 no_writer ≡ replicate 8 0) × (no_writer.form ≡ replicate 12 0)
unfolding numbers_by
all_zero = (refl, refl)

end_placed : (n : ℕ) (w : Writer) → get_or (numbers_by n w) 6 0 ≡ w.end
unfolding numbers_by
end_placed n w = refl

module _ (image form strings entries output : List ℕ) {r : Reader} (long : 13 ≤ length output)
    (h : open_answer image form (length strings) (length entries) ≡ accepted r) where
  -- The edition of an opened image is one that exists: its number is at most 3.
  few : r.edition ≤ 3
  few =
      let is = passed_value (open_checks image form (length strings) (length entries)) (reader_for (edition_in image) image) h in
      ((edition_numbers r.edition).0 (edition_in image, ap (λ (x : Reader). x.edition) is)).1

  opened_kept : reader_in (take 12 (record_left image form strings entries output)) ≡ r
  unfolding reader_in record_left numbers_of
  opened_kept = rw (le-leb 13 (length output) long, h, narrow r.edition (omega (arith, few)))

  opened_placed : get_or (record_left image form strings entries output) 2 0 ≡ r.edition
  unfolding record_left numbers_of
  opened_placed = rw (le-leb 13 (length output) long, h)

-- No edition has the number 0.
no_wide_writer : (size : ℕ) (l form text tree : List ℕ) → 4294967295 < get_or l 2 0 → WriterBelongs size (writer_in l form) text tree → ⊥
unfolding writer_in
no_wide_writer size l form text tree h b =
    let (e, is, w) = b.edition_written in
    let low = ((edition_numbers 0).0 (e, is ∙ wide (get_or l 2 0) h)).0 in
    omega (arith, low)

no_wide_reader : (image l strings entries : List ℕ) → 4294967295 < get_or l 2 0 → ReaderBelongs image (reader_in l) strings entries → ⊥
unfolding reader_in
no_wide_reader image l strings entries h b =
    let is = number_of_edition (edition_number_in (get_or l 2 0)) b.edition_recorded in
    let low = ((edition_numbers 0).0 (b.edition, is ∙ wide (get_or l 2 0) h)).0 in
    omega (arith, low)

pub records_in_c : RecordsInC
records_in_c =
    record {
      writer_kept = kept;
      reader_kept = opened_kept;
      edition_at = placed;
      none_zero = all_zero;
      end_at = end_placed;
      opened_edition_at = opened_placed;
      edition_wide = no_wide_writer;
      opened_edition_wide = no_wide_reader;
    }
