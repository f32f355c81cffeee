-- No exported function returns 8: the library refuses no call by it (`Withdrawn` of the crate `aff`), and 0 and 255 are other numbers. Assumes nothing.
use mathlib.Core.Path.{◌≡◌, refl}
use mathlib.Core.Bool.{Bool, true, false, cond}
use mathlib.Core.List.{List}
use Prim.Native.Nat.{ℕ}
use native.Mathlib.Omega.{arith}
use lib.Dec.{leb}
use lib.ListN.{length}
use Rattle.aff_format.specs.Answer.{Answer, accepted, refused}
use Rattle.aff_format.specs.Kind.{kind_of}
use Rattle.std.specs.Prelude.{Option, Some, None}
use Rattle.aff_open.specs.Opening.{open_answer}
use Rattle.aff_format.specs.declared.kind.Kind.{Kind}
use Rattle.aff_reader.specs.declared.reader.Reader.{Reader}
use Rattle.aff_areas.specs.declared.writer.Writer.{Writer}
use Rattle.aff.specs.Demand1.{NotBy, EachReading, EachWriting}
use Rattle.aff.proofs.WithdrawnLaws.{withdrawn}
use Rattle.aff_c.specs.Opening.{code_of_answer, number_returned}
use Rattle.aff_c.specs.Reading.{decoded_by, decoded_answer}
use Rattle.aff_c.specs.Withdrawn.{OtherReturned, WithdrawnInC}

-- An answer that is no refusal by 8 is returned as another number.
other_number : {A : Type 0} (a : Answer A) → NotBy 8 a → OtherReturned A a
other_number (accepted v) n e = omega arith
other_number (refused t) n e = n t refl e

opening_number : (image form strings entries output : List ℕ) → number_returned image form strings entries output ≡ 8 → ⊥
unfolding number_returned
opening_number image form strings entries output = go (leb 13 (length output)) (open_answer image form (length strings) (length entries)) (withdrawn.opening image form (length strings) (length entries))
  where
    go : (b : Bool) (a : Answer Reader) → NotBy 8 a → cond b (code_of_answer a).number 255 ≡ 8 → ⊥
    go false a n e = omega arith
    go true (accepted r) n e = omega arith
    go true (refused t) n e = n t refl e

reading_numbers : (image : List ℕ) (r : Reader) (strings entries : List ℕ) → EachReading OtherReturned image r strings entries
reading_numbers image r strings entries =
    let w = withdrawn.reading image r strings entries in
    record {
      name = λ node. other_number _ (w.name node);
      kind = λ node. other_number _ (w.kind node);
      count = λ node. other_number _ (w.count node);
      view = λ node. other_number _ (w.view node);
      element = λ node index. other_number _ (w.element node index);
      path = λ node size. other_number _ (w.path node size);
      lookup = λ path. other_number _ (w.lookup path);
      listing = λ choice size. other_number _ (w.listing choice size);
    }

decode_number : (code : ℕ) (bytes : List ℕ) (index : ℕ) → OtherReturned _ (decoded_answer code bytes index)
unfolding decoded_answer
decode_number code bytes index = go (kind_of code)
  where
    go : (found : Option Kind) → OtherReturned _ (decoded_by found bytes index)
    go None e = omega arith
    go (Some kind) e = other_number _ (withdrawn.decode kind bytes index) e

writing_numbers : (buffer : List ℕ) (w : Writer) (text tree : List ℕ) → EachWriting OtherReturned buffer w text tree
writing_numbers buffer w text tree =
    let d = withdrawn.writing buffer w text tree in
    record {
      make = λ parent name. other_number _ (d.make parent name);
      put = λ node type bytes allowance. other_number _ (d.put node type bytes allowance);
      close = λ allowance. other_number _ (d.close allowance);
    }

pub withdrawn_in_c : WithdrawnInC
withdrawn_in_c =
    record {
      opening = opening_number;
      reading = reading_numbers;
      decode = decode_number;
      begin = λ edition buffer form text tree allowance. other_number _ (withdrawn.begin edition buffer form text tree allowance);
      writing = writing_numbers;
    }
