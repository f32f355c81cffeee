-- Number 8 is withdrawn (requests C-13 and C-14): no call is refused by it, whatever it is given. It meant a symbol table without its last zero. Each line
-- is about the numbers of answers, for every image, record, area, argument and allowance, altered or not.
use Rattle.std.specs.Prelude.{◌≡◌, List, [], ◌∷◌, ℕ}
use Rattle.aff_format.specs.Answer.{Answer}
use Rattle.aff_format.specs.Element.{decoded}
use Rattle.aff_format.specs.Refusal.{number_of}
use Rattle.aff_format.specs.declared.kind.Kind.{Kind}
use Rattle.aff_format.specs.declared.refusal.Refusal.{Refusal}
use Rattle.aff_open.specs.Opening.{tables_answer, open_answer}
use Rattle.aff_reader.specs.declared.reader.Reader.{Reader}
use Rattle.aff_areas.specs.declared.writer.Writer.{Writer}
use Rattle.aff_write.specs.Begin.{begin_answer}
use Rattle.aff_run.specs.Run.{Run, run_begin, run_answers}
use Rattle.aff.specs.Demand1.{NotBy, EachReading, EachWriting}

abbrev pub Not8 : (A : Type 0) → Answer A → Type 0
Not8 A answer = NotBy 8 answer

-- None of some answers is a refusal by this number.
abbrev pub NoneBy : ℕ → List (Answer ℕ) → Type 0
NoneBy number [] = Unit {0}
NoneBy number (a ∷ answers) = NotBy number a × NoneBy number answers

pub record Withdrawn : Type 0 where
  -- Opening, and opening up to the tables. `strings` and `entries` are the lengths of the areas.
  pub opening : (image form : List ℕ) (strings entries : ℕ) → NotBy 8 (open_answer image form strings entries)
  pub tables : (image form : List ℕ) (strings entries : ℕ) → NotBy 8 (tables_answer image form strings entries)
  -- Each reading call, and the decoding of an element of a view that is held.
  pub reading : (image : List ℕ) (r : Reader) (strings entries : List ℕ) → EachReading Not8 image r strings entries
  pub decode : (kind : Kind) (bytes : List ℕ) (index : ℕ) → NotBy 8 (decoded kind bytes index)
  -- Begin, and each other writing call.
  pub begin : (edition : ℕ) (buffer form text tree : List ℕ) (allowance : ℕ) → NotBy 8 (begin_answer edition buffer form text tree allowance)
  pub writing : (buffer : List ℕ) (w : Writer) (text tree : List ℕ) → EachWriting Not8 buffer w text tree
  -- A run: a begin and then any calls.
  pub run : (run : Run) → NotBy 8 (run_begin run).answer × NoneBy 8 (run_answers run)
  -- No value of `Refusal` has the number, so no call that is added to the library can report it by one.
  pub row : (r : Refusal) → number_of r ≡ 8 → ⊥
