-- What each call leaves in the caller's memory, by its answer: document 01, 'Numbers handed back': 'A refused opening from 2 to 13 leaves both work areas
-- all zero. 23 leaves the stores made and changes no work area. Other refusals change nothing.' (25 to 27 of request C-11 also leave both work areas all zero.) The
-- statements are about the definitions that the contracts cite for what record, areas, buffer and output hold at the return, whatever the caller
-- passed; for the writer, about the steps of a run (crates/aff_run/specs/Run.antt), which are composed of them.
use Rattle.std.specs.Prelude.{◌≡◌, List, [], ◌++◌, ℕ, length, take, replicate, set}
use Rattle.aff_format.specs.Align.{padding}
use Rattle.aff_format.specs.Answer.{Answer, accepted, refused}
use Rattle.aff_format.specs.declared.refusal.RefusalCode.{RefusalCode}
use Rattle.aff_open.specs.Opening.{open_answer, reader_after, string_places, node_places, strings_after, entries_after}
use Rattle.aff_reader.specs.Reader.{no_reader}
use Rattle.aff_open.specs.Sections.{edition_in}
use Rattle.aff_format.specs.Bytes.{laid_over, spliced}
use Rattle.aff_reader.specs.declared.reader.Reader.{Reader}
use Rattle.aff_nodes.specs.Answers.{part_of, name_answer, view_answer}
use Rattle.aff_read.specs.Paths.{front_written, path_answer, Output}
use Rattle.aff_nodes.specs.Recall.{path_at}
use Rattle.aff_areas.specs.Stores.{apply_stores, stores_reported}
use Rattle.aff_areas.specs.Writer.{no_writer, fresh_writer, stopped}
use Rattle.aff_run.specs.Run.{Call, put, State, needed, completed, step, after_call, is_accepted, call_end, Run, run_begin, run_start}
use Rattle.aff_listing.specs.ListingOrder.{listing_order, listing_answer}
use Rattle.aff_listing.specs.declared.choice.Choice.{Choice}

-- ---- Opening.

module _ (image form strings entries : List ℕ) where
  abbrev answer : Answer Reader
  answer = open_answer image form (length strings) (length entries)

  -- The two work areas at the return.
  abbrev strings_left : List ℕ
  strings_left = strings_after image form strings entries

  abbrev entries_left : List ℕ
  entries_left = entries_after image form strings entries

  pub record OpeningLeaves : Type 0 where
    -- Refused by 1, it leaves both work areas as they were; refused by another number, all zero.
    pub by_1 : (t : RefusalCode) → answer ≡ refused t → t.number ≡ 1 → (strings_left ≡ strings) × (entries_left ≡ entries)
    pub by_others : (t : RefusalCode) → answer ≡ refused t → (t.number ≡ 1 → ⊥)
        → (strings_left ≡ replicate (length strings) 0) × (entries_left ≡ replicate (length entries) 0)
    -- Accepted, the place of each string and of each entry, and zeros after them.
    pub by_acceptance : (r : Reader) → answer ≡ accepted r
        → (strings_left ≡ laid_over (replicate (length strings) 0) (string_places (edition_in image) image))
        × (entries_left ≡ laid_over (replicate (length entries) 0) (node_places (edition_in image) image))
    -- The record of a refused opening is all zero.
    pub zero_record : (t : RefusalCode) → answer ≡ refused t → reader_after answer ≡ no_reader

-- ---- Path and listing order: a refusal leaves the output; an accepted call returns how many bytes or numbers it wrote. These are the text, and the
-- rest of the output is unchanged.

module _ (image : List ℕ) (r : Reader) (strings entries : List ℕ) where
  -- A definition, of this record and this memory.
  abbrev here : {A : Type 0} → (List ℕ → Reader → List ℕ → List ℕ → A) → A
  here f = f image r strings entries

  -- What a call that is to write `text` leaves in an output of any length; `answer` gives its answer by that length.
  abbrev Wrote : (ℕ → Answer ℕ) → List ℕ → Type 0
  Wrote answer text = (out : List ℕ) → Output (answer (length out)) text out (front_written (answer (length out)) text out)

  -- The other reading calls take no memory that they could change.
  pub record ReadingLeaves : Type 0 where
    pub path : (node : ℕ) → Wrote (here path_answer node) (here path_at node)
    pub listing : (choice : Choice) → Wrote (here listing_answer choice) (here listing_order choice)
    -- A refused name or view is an empty part of the image.
    pub no_name : (node : ℕ) (t : RefusalCode) → here name_answer node ≡ refused t → part_of image (here name_answer node) ≡ []
    pub no_view : (node : ℕ) (t : RefusalCode) → here view_answer node ≡ refused t → part_of image (here view_answer node) ≡ []

-- ---- Begin.

pub record BeginLeaves (run : Run) : Type 0 where
  -- Accepted: a new record, both areas cleared, 0 at place 0 of the buffer.
  pub by_acceptance : (n : ℕ) → (run_begin run).answer ≡ accepted n
      → run_start run
      ≡ record {
        writer = fresh_writer run.edition (length run.buffer) run.form;
        text = replicate (length run.text) 0;
        tree = replicate (length run.tree) 0;
        buffer = set run.buffer 0 0;
      }
  -- Refused by 23: that record, but stopped; areas and buffer as they were, since no store was made.
  pub by_23 : (t : RefusalCode) → (run_begin run).answer ≡ refused t → t.number ≡ 23
      → run_start run ≡ record { writer = stopped (fresh_writer run.edition (length run.buffer) run.form); text = run.text; tree = run.tree; buffer = run.buffer }
  -- Refused by 1, 3 or 21: the all-zero record; areas and buffer as they were.
  pub by_others : (t : RefusalCode) → (run_begin run).answer ≡ refused t → (t.number ≡ 23 → ⊥)
      → run_start run ≡ record { writer = no_writer; text = run.text; tree = run.tree; buffer = run.buffer }

-- ---- Make, put and close.

pub record WritingLeaves (s : State) (c : Call) : Type 0 where
  -- Accepted: `completed`. Of record and areas this is the definition of `step`, made of what the contracts of make, put and close cite; of the buffer it
  -- says that all stores needed were made.
  pub by_acceptance : (n : ℕ) → (step s c).answer ≡ accepted n → after_call s c ≡ completed s c
  -- Refused by 23: the record, but stopped; both areas as they were; in the buffer the first stores needed, as many as the refusal reports. (A make never
  -- reports 23.)
  pub by_23 : (t : RefusalCode) → (step s c).answer ≡ refused t → t.number ≡ 23
      → after_call s c ≡ record { writer = stopped s.writer; text = s.text; tree = s.tree; buffer = apply_stores s.buffer (take t.place (needed s c)) }
  -- Refused by another number: record, areas and buffer as they were.
  pub by_others : (t : RefusalCode) → (step s c).answer ≡ refused t → (t.number ≡ 23 → ⊥) → after_call s c ≡ s
  -- The end of data in the record: an accepted put moves it to the next multiple of 8 and past its bytes; nothing else moves it (request C-22).
  pub end_moved : (step s c).writer.end ≡ call_end s.writer.end c (is_accepted (step s c).answer)
  -- A put, whatever it answers: from the end of data on the buffer has zeros up to the next multiple of 8 and then the bytes, of these as many as the answer reports as
  -- stores, the first ones; all else of it is as it was (request C-22).
  pub put_buffer : (node type : ℕ) (bytes : List ℕ) (allowance : ℕ) → c ≡ put node type bytes allowance
      → (after_call s c).buffer ≡ spliced s.writer.end (take (stores_reported (step s c).answer) (replicate (padding s.writer.end) 0 ++ bytes)) s.buffer
