-- A run of the writer: a begin and then any list of calls, each given what the call before it left. The steps are made of the very
-- definitions that the contracts of begin, make, put and close cite.
use Rattle.std.specs.Prelude.{Bool, true, false, ◌&&◌, ◌||◌, List, [], ◌∷◌, ◌++◌, ℕ, ◌+◌, ◌-◌, length, take, set, replicate}
use Rattle.aff_format.specs.Align.{padding, aligned}
use Rattle.aff_format.specs.Answer.{Answer, accepted, refused}
use Rattle.aff_format.specs.Edition.{header_size, edition_by}
use Rattle.aff_format.specs.Kind.{kind_of}
use Rattle.aff_format.specs.Tree.{Tree}
use Rattle.aff_areas.specs.Stores.{Store, apply_stores, stores_reported}
use Rattle.aff_areas.specs.Writer.{stopped, writer_after, area_after}
use Rattle.aff_areas.specs.declared.writer.Writer.{Writer}
use Rattle.aff_write.specs.Begin.{begin_stores, begin_answer, begin_writer, begin_area}
use Rattle.aff_write.specs.Close.{close_stores, close_answer}
use Rattle.aff_make.specs.Make.{make_answer, made_writer, made_text, made_tree}
use Rattle.aff_write.specs.Put.{data_kind, put_stores, put_answer, put_writer, put_tree}
use Rattle.aff_run.specs.TreeSizes.{with_child, with_data}

-- A call with its arguments. Any number, name, bytes and allowance may be given.
pub data Call : Type 0 where
  make : (parent : ℕ) (name : List ℕ) → Call
  put : (node type : ℕ) (bytes : List ℕ) (allowance : ℕ) → Call
  close : (allowance : ℕ) → Call

-- What the next call is given: the record and the caller's memory.
pub record State : Type 0 where
  pub writer : Writer
  pub text : List ℕ
  pub tree : List ℕ
  pub buffer : List ℕ

-- ---- One call.

-- What a call answers, what it stores, in order, and what it leaves.
pub record Step : Type 0 where
  pub answer : Answer ℕ
  pub stores : List Store
  pub writer : Writer
  pub text : List ℕ
  pub tree : List ℕ

-- What is given to the next call.
abbrev pub next : Step → List ℕ → State
next t buffer = record { writer = t.writer; text = t.text; tree = t.tree; buffer = apply_stores buffer t.stores }

unfoldable pub begin_step : ℕ → List ℕ → List ℕ → List ℕ → List ℕ → ℕ → Step
begin_step edition buffer form text tree allowance =
    let a = begin_answer edition buffer form text tree allowance in
    record {
      answer = a;
      stores = take (stores_reported a) begin_stores;
      writer = begin_writer a edition (length buffer) form;
      text = begin_area a text;
      tree = begin_area a tree;
    }

-- The answer of a call.
abbrev pub answer_to : State → Call → Answer ℕ
answer_to s (make parent name) = make_answer (length s.buffer) s.writer s.text s.tree parent name
answer_to s (put node type bytes allowance) = put_answer (length s.buffer) s.writer s.text s.tree node type bytes allowance
answer_to s (close allowance) = close_answer s.buffer s.writer s.text s.tree allowance

-- The byte stores that it needs, in order.
abbrev pub needed : State → Call → List Store
needed s (make parent name) = []
needed s (put node type bytes allowance) = put_stores s.writer bytes
needed s (close allowance) = close_stores s.buffer s.writer s.text s.tree

-- What it leaves where it is accepted: all the stores needed are in the buffer; close leaves the record stopped.
abbrev pub completed : State → Call → State
completed s (make parent name) =
    record {
      writer = made_writer s.writer s.text name;
      text = made_text s.writer s.text name;
      tree = made_tree s.writer s.text s.tree parent name;
      buffer = s.buffer;
    }
completed s (put node type bytes allowance) =
    record {
      writer = put_writer s.writer bytes;
      text = s.text;
      tree = put_tree s.writer s.tree node type bytes;
      buffer = apply_stores s.buffer (put_stores s.writer bytes);
    }
completed s (close allowance) =
    record {
      writer = stopped s.writer;
      text = s.text;
      tree = s.tree;
      buffer = apply_stores s.buffer (close_stores s.buffer s.writer s.text s.tree);
    }

-- Its step, by the answer: of the stores needed the first, as many as the answer reports.
abbrev pub step_by : State → Call → Answer ℕ → Step
step_by s c a =
    record {
      answer = a;
      stores = take (stores_reported a) (needed s c);
      writer = writer_after a (completed s c).writer s.writer;
      text = area_after a (completed s c).text s.text;
      tree = area_after a (completed s c).tree s.tree;
    }

unfoldable pub step : State → Call → Step
step s c = step_by s c (answer_to s c)

abbrev pub after_call : State → Call → State
after_call s c = next (step s c) s.buffer

-- ---- Some calls.

-- What they answer, and all that they store, in order.
abbrev pub answers_of : State → List Call → List (Answer ℕ)
answers_of s [] = []
answers_of s (c ∷ cs) = (step s c).answer ∷ answers_of (after_call s c) cs

abbrev pub stores_of : State → List Call → List Store
stores_of s [] = []
stores_of s (c ∷ cs) = (step s c).stores ++ stores_of (after_call s c) cs

-- What they leave.
abbrev pub state_after : State → List Call → State
state_after s [] = s
state_after s (c ∷ cs) = state_after (after_call s c) cs

-- ---- What they describe: the calls' arguments and which were accepted, and nothing else.

abbrev pub is_accepted : Answer ℕ → Bool
is_accepted (accepted n) = true
is_accepted (refused t) = false

-- Close and refused calls leave the tree as it is.
abbrev pub apply_call : Tree → Call → Bool → Tree
apply_call tree call false = tree
apply_call tree (make parent name) true = with_child tree parent name
apply_call tree (put node type bytes allowance) true = with_data tree node (data_kind (kind_of type)) bytes
apply_call tree (close allowance) true = tree

abbrev pub tree_after : Tree → List Call → List (Answer ℕ) → Tree
tree_after tree [] answers = tree
tree_after tree (c ∷ cs) [] = tree
tree_after tree (c ∷ cs) (a ∷ answers) = tree_after (apply_call tree c (is_accepted a)) cs answers

-- ---- Where the data are: by the calls' arguments and which were accepted, too, in the order of the puts (request C-22).

-- The end of data: an accepted put begins at the next multiple of 8, and the data then end after its bytes. All else leaves it.
abbrev pub call_end : ℕ → Call → Bool → ℕ
call_end end call false = end
call_end end (make parent name) true = end
call_end end (put node type bytes allowance) true = aligned end + length bytes
call_end end (close allowance) true = end

-- Of each node where its data begin, 0 while it has none; the first number is node 1's. The data end at `end` before the call.
abbrev pub call_offsets : ℕ → List ℕ → Call → Bool → List ℕ
call_offsets end offsets call false = offsets
call_offsets end offsets (make parent name) true = offsets ++ (0 ∷ [])
call_offsets end offsets (put node type bytes allowance) true = set offsets (node - 1) (aligned end)
call_offsets end offsets (close allowance) true = offsets

-- The bytes of the data section: zeros up to the multiple of 8, and then those of the put.
abbrev pub call_stored : ℕ → List ℕ → Call → Bool → List ℕ
call_stored end stored call false = stored
call_stored end stored (make parent name) true = stored
call_stored end stored (put node type bytes allowance) true = stored ++ (replicate (padding end) 0 ++ bytes)
call_stored end stored (close allowance) true = stored

-- All three together.
pub record DataLayout : Type 0 where
  pub end : ℕ
  pub offsets : List ℕ
  pub stored : List ℕ

-- No data yet: they end where they begin, after the header.
abbrev pub no_data : ℕ → DataLayout
no_data header = record { end = header; offsets = []; stored = [] }

abbrev pub call_layout : DataLayout → Call → Bool → DataLayout
call_layout l c ok = record { end = call_end l.end c ok; offsets = call_offsets l.end l.offsets c ok; stored = call_stored l.end l.stored c ok }

abbrev pub layout_after : DataLayout → List Call → List (Answer ℕ) → DataLayout
layout_after l [] answers = l
layout_after l (c ∷ cs) [] = l
layout_after l (c ∷ cs) (a ∷ answers) = layout_after (call_layout l c (is_accepted a)) cs answers

-- ---- Whether they close it.

abbrev pub is_close : Call → Bool
is_close (make parent name) = false
is_close (put node type bytes allowance) = false
is_close (close allowance) = true

-- Some close was accepted.
abbrev pub closed_by : List Call → List (Answer ℕ) → Bool
closed_by [] answers = false
closed_by (c ∷ cs) [] = false
closed_by (c ∷ cs) (a ∷ answers) = (is_accepted a && is_close c) || closed_by cs answers

-- ---- A whole run.

-- A run of the writer: what begin is given, and the calls after it.
pub record Run : Type 0 where
  pub edition : ℕ
  pub buffer : List ℕ
  pub form : List ℕ
  pub text : List ℕ
  pub tree : List ℕ
  pub allowance : ℕ
  pub calls : List Call

-- The same run with another allowance of begin, or with other calls.
abbrev pub with_allowance : Run → ℕ → Run
with_allowance run allowance =
    record { edition = run.edition; buffer = run.buffer; form = run.form; text = run.text; tree = run.tree; allowance = allowance; calls = run.calls }

abbrev pub with_calls : Run → List Call → Run
with_calls run calls =
    record { edition = run.edition; buffer = run.buffer; form = run.form; text = run.text; tree = run.tree; allowance = run.allowance; calls = calls }

module _ (run : Run) where
  -- Begin's step, and what it leaves.
  abbrev pub run_begin : Step
  run_begin = begin_step run.edition run.buffer run.form run.text run.tree run.allowance

  abbrev pub run_start : State
  run_start = next run_begin run.buffer

  -- What the calls answer; all stores, those of begin first; what the last call leaves.
  abbrev pub run_answers : List (Answer ℕ)
  run_answers = answers_of run_start run.calls

  abbrev pub run_stores : List Store
  run_stores = run_begin.stores ++ stores_of run_start run.calls

  abbrev pub run_state : State
  run_state = state_after run_start run.calls

  -- The tree that the accepted calls describe.
  abbrev pub run_tree : Tree
  run_tree = tree_after [] run.calls run_answers

  -- Where the data that they put are.
  abbrev pub run_layout : DataLayout
  run_layout = layout_after (no_data (header_size (edition_by run.edition))) run.calls run_answers

  -- Whether some close was accepted.
  abbrev pub run_closed : Bool
  run_closed = closed_by run.calls run_answers
