-- What the exported writing functions hand back and leave in the caller's record and areas. Assumes nothing.
use Rattle.std.specs.Prelude.{cond, List, [], ◌∷◌, ℕ, eqb, length, get_or, set}
use Rattle.aff_format.specs.Answer.{Answer, accepted, refused}
use Rattle.aff_format.specs.declared.refusal.RefusalCode.{RefusalCode}
use Rattle.aff_areas.specs.Stores.{buffer_after}
use Rattle.aff_areas.specs.Writer.{stopped, area_after}
use Rattle.aff_areas.specs.declared.writer.Writer.{Writer}
use Rattle.aff_c.specs.Reading.{edition_number_in}
use Rattle.aff_write.specs.Begin.{begin_answer, begin_writer}
use Rattle.aff_write.specs.Close.{close_stores, close_answer}
use Rattle.aff_make.specs.Make.{made_writer, made_text, made_tree, make_answer}
use Rattle.aff_write.specs.Put.{put_stores, put_writer, put_tree, put_answer}

-- The record of 8 numbers and 12 bytes of form; the first number, what the last call reported, is no part of it. An edition above 32 bits is none.
unfoldable pub writer_in : List ℕ → List ℕ → Writer
writer_in l form =
    record {
      length = get_or l 1 0;
      edition = edition_number_in (get_or l 2 0);
      form = form;
      strings = get_or l 3 0;
      text = get_or l 4 0;
      nodes = get_or l 5 0;
      end = get_or l 6 0;
      live = eqb (get_or l 7 0) 1;
    }

-- What a call reported and a record as 8 numbers.
unfoldable pub numbers_by : ℕ → Writer → List ℕ
numbers_by reported w = reported ∷ w.length ∷ w.edition ∷ w.strings ∷ w.text ∷ w.nodes ∷ w.end ∷ cond w.live 1 0 ∷ []

-- What an answer reports: its value, or the refusal's place.
abbrev pub reported_number : Answer ℕ → ℕ
reported_number (accepted n) = n
reported_number (refused t) = t.place

module _ (numbers : List ℕ) where
  -- The numbers after a refusal: after 23 the place and a stopped record; after any other the caller's numbers, with the place in numbers[0].
  abbrev pub numbers_refused : RefusalCode → Writer → List ℕ
  numbers_refused t halted = cond (eqb t.number 23) (numbers_by t.place halted) (set numbers 0 t.place)

  -- The numbers after an answer: the value and the next record where it is accepted.
  abbrev pub numbers_left : Answer ℕ → Writer → Writer → List ℕ
  numbers_left (accepted n) next halted = numbers_by n next
  numbers_left (refused t) next halted = numbers_refused t halted

module _ (edition : ℕ) (buffer form text tree : List ℕ) (allowance : ℕ) where
  abbrev pub begin_returned : Answer ℕ
  begin_returned = begin_answer edition buffer form text tree allowance

  abbrev pub begin_record : Writer
  begin_record = begin_writer begin_returned edition (length buffer) form

module _ (buffer numbers kept text tree : List ℕ) where
  abbrev pub given : Writer
  given = writer_in numbers kept

  -- The numbers after a call that leaves `next` where it is accepted; after 23 the record is the caller's, but stopped.
  abbrev pub numbers_after : Answer ℕ → Writer → List ℕ
  numbers_after answer next = numbers_left numbers answer next (stopped given)

  module _ (parent : ℕ) (name : List ℕ) where
    abbrev pub make_returned : Answer ℕ
    make_returned = make_answer (length buffer) given text tree parent name

    unfoldable pub numbers_made : List ℕ
    numbers_made = numbers_after make_returned (made_writer given text name)

    unfoldable pub text_made : List ℕ
    text_made = area_after make_returned (made_text given text name) text

    unfoldable pub tree_made : List ℕ
    tree_made = area_after make_returned (made_tree given text tree parent name) tree

  module _ (node kind : ℕ) (bytes : List ℕ) (allowance : ℕ) where
    abbrev pub put_returned : Answer ℕ
    put_returned = put_answer (length buffer) given text tree node kind bytes allowance

    unfoldable pub numbers_put : List ℕ
    numbers_put = numbers_after put_returned (put_writer given bytes)

    unfoldable pub buffer_put : List ℕ
    buffer_put = buffer_after put_returned (put_stores given bytes) buffer

    unfoldable pub tree_put : List ℕ
    tree_put = area_after put_returned (put_tree given tree node kind bytes) tree

  module _ (allowance : ℕ) where
    abbrev pub close_returned : Answer ℕ
    close_returned = close_answer buffer given text tree allowance

    unfoldable pub numbers_closed : List ℕ
    numbers_closed = numbers_after close_returned (stopped given)

    unfoldable pub buffer_closed : List ℕ
    buffer_closed = buffer_after close_returned (close_stores buffer given text tree) buffer
