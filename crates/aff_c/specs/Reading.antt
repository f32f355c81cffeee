-- What the exported reading functions return, and what they leave in the memory that the caller's references point to. Assumes nothing.
use Rattle.std.specs.Prelude.{Bool, true, false, cond, List, ℕ, ltb, pos, Float, get_or, Option, Some, None}
use Rattle.std.specs.Float.{binary64}
use Rattle.std.specs.Float.Ieee.{of_int}
use Rattle.aff_format.specs.Answer.{Answer, accepted, refused, refusal}
use Rattle.aff_format.specs.Element.{decoded}
use Rattle.aff_format.specs.Kind.{kind_of}
use Rattle.aff_format.specs.declared.element.Element.{Element}
use Rattle.aff_format.specs.declared.element.Element.TheVariants.{Byte, Int, Real, Pair}
use Rattle.aff_format.specs.declared.kind.Kind.{Kind}
use Rattle.aff_reader.specs.declared.reader.Reader.{Reader}
use Rattle.aff_listing.specs.declared.choice.Choice.{Choice}
use Rattle.aff_listing.specs.declared.choice.Choice.TheVariants.{AllNodes, NotVoid}

-- The edition of 64 bits: 0, which does not exist, where it has more than 32.
unfoldable pub edition_number_in : ℕ → ℕ
edition_number_in n = cond (ltb 4294967295 n) 0 n

-- The record of the first 12 numbers that `aff_open_image` writes; number 0, a place, is not part of it.
unfoldable pub reader_in : List ℕ → Reader
reader_in l =
    record {
      length = get_or l 1 0;
      edition = edition_number_in (get_or l 2 0);
      symbols = record { offset = get_or l 3 0; size = get_or l 4 0 };
      tree = record { offset = get_or l 5 0; size = get_or l 6 0 };
      «data» = record { offset = get_or l 7 0; size = get_or l 8 0 };
      strings = get_or l 9 0;
      nodes = get_or l 10 0;
      records = get_or l 11 0;
    }

-- The number handed back: 0 for acceptance, else the refusal's.
abbrev pub number_by : {A : Type 0} → Answer A → ℕ
number_by (accepted a) = 0
number_by (refused t) = t.number

-- The place that a refusal reports; 0 for acceptance.
abbrev pub place_by : {A : Type 0} → Answer A → ℕ
place_by (accepted a) = 0
place_by (refused t) = t.place

-- The choice of a listing by a flag: true for all nodes, false for those that are not Void.
abbrev pub choice_by : Bool → Choice
choice_by true = AllNodes
choice_by false = NotVoid

-- What an output holds after a call: a part of the value, or after a refusal what it held.
abbrev pub left_by : {A B : Type 0} → (A → B) → B → Answer A → B
left_by f old (accepted a) = f a
left_by f old (refused t) = old

-- An element as two doubles. Each Char and each Int is a double exactly; only a Complex has an imaginary part.
abbrev pub real_part : Element → Float
real_part (Byte n) = of_int binary64 (pos n)
real_part (Int z) = of_int binary64 z
real_part (Real x) = x
real_part (Pair x y) = x

abbrev pub imaginary_part : Element → Float
imaginary_part (Byte n) = of_int binary64 (pos 0)
imaginary_part (Int z) = of_int binary64 (pos 0)
imaginary_part (Real x) = of_int binary64 (pos 0)
imaginary_part (Pair x y) = y

-- An element of a held view whose kind is given by its code: 255 where no kind has it.
abbrev pub decoded_by : Option Kind → List ℕ → ℕ → Answer Element
decoded_by (Some kind) bytes index = decoded kind bytes index
decoded_by None bytes index = refused (refusal 255)

unfoldable pub decoded_answer : ℕ → List ℕ → ℕ → Answer Element
decoded_answer code bytes index = decoded_by (kind_of code) bytes index
