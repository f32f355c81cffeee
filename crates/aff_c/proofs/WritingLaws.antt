-- What the exported writing functions leave, from what the calls promise of the record with these numbers and this form. Assumes nothing.
use mathlib.Core.Path.{◌≡◌}
use mathlib.Core.List.{List}
use Prim.Native.Nat.{ℕ}
use lib.ListN.{length}
use Rattle.aff_format.specs.Verdict.{answer_of}
use Rattle.aff_format.specs.declared.refusal.Refusal.{Refusal}
use Rattle.std.specs.Prelude.{Result}
use Rattle.aff_areas.specs.Stores.{buffer_after}
use Rattle.aff_areas.specs.declared.writer.Writer.{Writer}
use Rattle.aff_write.specs.Begin.{begin_stores, begin_answer, begin_writer, begin_area}
use Rattle.aff_c.specs.Reading.{number_by}
use Rattle.aff_c.specs.Writing.{numbers_by, reported_number, begin_returned, begin_record}

-- What begin leaves for C.
pub record BegunInC (edition : ℕ) (buffer form text tree : List ℕ) (allowance : ℕ) (r : ℕ) (l kept o x y : List ℕ) : Type 0 where
  pub number : r ≡ number_by (begin_returned edition buffer form text tree allowance)
  pub numbers : l ≡ numbers_by (reported_number (begin_returned edition buffer form text tree allowance)) (begin_record edition buffer form text tree allowance)
  pub form_is : kept ≡ (begin_record edition buffer form text tree allowance).form
  pub buffer_is : o ≡ buffer_after (begin_returned edition buffer form text tree allowance) begin_stores buffer
  pub text_is : x ≡ begin_area (begin_returned edition buffer form text tree allowance) text
  pub tree_is : y ≡ begin_area (begin_returned edition buffer form text tree allowance) tree

module _ (edition : ℕ) (buffer form text tree : List ℕ) (allowance : ℕ) (answer : Result ℕ Refusal) (writer : Writer) (r : ℕ) (l : List ℕ)
    (number : r ≡ number_by (answer_of answer)) (numbers : l ≡ numbers_by (reported_number (answer_of answer)) writer) where
  pub begin_left : (o x y : List ℕ) → answer_of answer ≡ begin_answer edition buffer form text tree allowance
      → writer ≡ begin_writer (answer_of answer) edition (length buffer) form
      → o ≡ buffer_after (answer_of answer) begin_stores buffer
      → x ≡ begin_area (answer_of answer) text → y ≡ begin_area (answer_of answer) tree
      → BegunInC edition buffer form text tree allowance r l writer.form o x y
  begin_left o x y a w b t s =
      record {
        number = rw (number, a);
        numbers = rw (numbers, w, a);
        form_is = rw (w, a);
        buffer_is = rw (b, a);
        text_is = rw (t, a);
        tree_is = rw (s, a);
      }
