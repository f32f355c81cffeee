-- Number 8 is withdrawn (request C-14): no exported function returns it, whatever it is given. A function returns 0, the number of a refusal, or 255.
-- Reading and writing calls: for every record, so for each that `reader_in` or `writer_in` takes from the caller's numbers.
use Rattle.std.specs.Prelude.{◌≡◌, List, ℕ}
use Rattle.aff_format.specs.Answer.{Answer}
use Rattle.aff_reader.specs.declared.reader.Reader.{Reader}
use Rattle.aff_areas.specs.declared.writer.Writer.{Writer}
use Rattle.aff.specs.Demand1.{EachReading, EachWriting}
use Rattle.aff_c.specs.Opening.{number_returned}
use Rattle.aff_c.specs.Reading.{number_by, decoded_answer}
use Rattle.aff_c.specs.Writing.{begin_returned}

-- The number returned for an answer is not 8.
abbrev pub OtherReturned : (A : Type 0) → Answer A → Type 0
OtherReturned A answer = number_by answer ≡ 8 → ⊥

pub record WithdrawnInC : Type 0 where
  pub opening : (image form strings entries output : List ℕ) → number_returned image form strings entries output ≡ 8 → ⊥
  pub reading : (image : List ℕ) (r : Reader) (strings entries : List ℕ) → EachReading OtherReturned image r strings entries
  pub decode : (code : ℕ) (bytes : List ℕ) (index : ℕ) → OtherReturned _ (decoded_answer code bytes index)
  pub begin : (edition : ℕ) (buffer form text tree : List ℕ) (allowance : ℕ) → OtherReturned _ (begin_returned edition buffer form text tree allowance)
  pub writing : (buffer : List ℕ) (w : Writer) (text tree : List ℕ) → EachWriting OtherReturned buffer w text tree
