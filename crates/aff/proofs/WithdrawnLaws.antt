-- No call is refused by 8: each check of a call reports another number. Those of opening by the list of their numbers (`open_numbers_lem`), those of the other calls
-- by computation; of a run by induction on its calls. Assumes nothing.
use mathlib.Core.Path.{refl}
use mathlib.Core.List.{List, [], ◌∷◌}
use Prim.Native.Nat.{ℕ}
use lib.Dec.{leb}
use lib.ListN.{length}
use borrow.Author.Tests.{eqb-false}
use Rattle.aff_format.specs.Answer.{check, refusal}
use Rattle.aff_format.specs.Element.{count_in, element_at, decoded}
use Rattle.aff_format.specs.Refusal.{number_of}
use Rattle.aff_format.specs.declared.kind.Kind.{Kind}
use Rattle.aff_format.proofs.RefusalLaws.{rows_other}
use Rattle.aff_reader.specs.Belongs.{reader_belongs}
use Rattle.aff_open.specs.Opening.{up_to_tables, open_checks, open_answer, tables_answer, reader_for, sizes_in}
use Rattle.aff_open.specs.Sections.{edition_in}
use Rattle.aff_reader.specs.declared.reader.Reader.{Reader}
use Rattle.aff_open.proofs.NumbersLaws.{tables_numbers_lem, open_numbers_lem}
use Rattle.aff_areas.specs.Belongs.{writer_belongs}
use Rattle.aff_areas.specs.declared.writer.Writer.{Writer}
use Rattle.aff_write.specs.Begin.{begin_checks, begin_answer}
use Rattle.aff_run.specs.Run.{Call, make, put, close, State, answer_to, step, after_call, begin_step, answers_of, Run, run_begin, run_start}
use Rattle.aff.specs.Demand1.{NotBy, EachReading, EachWriting}
use Rattle.aff.specs.Withdrawn.{Not8, NoneBy, Withdrawn}
use Rattle.aff.proofs.Demand1Laws.{others_not, judged_not_8, each_reading, each_writing}

module _ (image form : List ℕ) (strings entries : ℕ) where
  opening_not : NotBy 8 (open_answer image form strings entries)
  opening_not = others_not 8 (open_checks image form strings entries) (reader_for (edition_in image) image) (rw (open_numbers_lem image form strings entries))

  tables_not : NotBy 8 (tables_answer image form strings entries)
  tables_not = others_not 8 (up_to_tables image form strings entries) (sizes_in (edition_in image) image) (rw (tables_numbers_lem image form strings entries))

decode_not : (kind : Kind) (bytes : List ℕ) (index : ℕ) → NotBy 8 (decoded kind bytes index)
unfolding decoded
decode_not kind bytes index = others_not 8 (check (leb (count_in kind bytes) index) (refusal 16) ∷ []) (element_at kind bytes index) refl

reading_not : (image : List ℕ) (r : Reader) (strings entries : List ℕ) → EachReading Not8 image r strings entries
reading_not image r strings entries =
    each_reading Not8 image r strings entries (λ A more a l. judged_not_8 more a l (reader_belongs image r strings entries))

begin_not : (edition : ℕ) (buffer form text tree : List ℕ) (allowance : ℕ) → NotBy 8 (begin_answer edition buffer form text tree allowance)
unfolding begin_answer
begin_not edition buffer form text tree allowance = others_not 8 (begin_checks edition buffer form text tree allowance) 1 refl

writing_not : (buffer : List ℕ) (w : Writer) (text tree : List ℕ) → EachWriting Not8 buffer w text tree
writing_not buffer w text tree =
    each_writing Not8 buffer w text tree (λ A more a l. judged_not_8 more a l (writer_belongs (length buffer) w text tree))

-- One call of a run, and all of them.
answer_not : (s : State) (c : Call) → NotBy 8 (answer_to s c)
answer_not s (make parent name) = (writing_not s.buffer s.writer s.text s.tree).make parent name
answer_not s (put node type bytes allowance) = (writing_not s.buffer s.writer s.text s.tree).put node type bytes allowance
answer_not s (close allowance) = (writing_not s.buffer s.writer s.text s.tree).close allowance

answers_not : (s : State) (cs : List Call) → NoneBy 8 (answers_of s cs)
unfolding step
answers_not s [] = tt
answers_not s (c ∷ cs) = (answer_not s c, answers_not (after_call s c) cs)

run_not : (run : Run) → NotBy 8 (run_begin run).answer
unfolding begin_step
run_not run = begin_not run.edition run.buffer run.form run.text run.tree run.allowance

pub withdrawn : Withdrawn
withdrawn =
    record {
      opening = opening_not;
      tables = tables_not;
      reading = reading_not;
      decode = decode_not;
      begin = begin_not;
      writing = writing_not;
      run = λ run. (run_not run, answers_not (run_start run) run.calls);
      row = λ r. eqb-false (number_of r) 8 (rows_other r);
    }
