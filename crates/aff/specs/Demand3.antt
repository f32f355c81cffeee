-- Demand 3. For every buffer, form, text area and tree area, of any length and any content, every allowance, every list of calls with any arguments,
-- and every number k of byte stores made before a kill: where none is made the buffer is as it was; where all are made and a close was accepted, the
-- buffer opens and shows exactly the tree that the calls describe; otherwise opening answers 3. One claim, over the very definitions that the
-- contracts of begin, make, put and close, of opening and of the reading calls cite.
-- The customer's words, and the names that say them here:
--   a list of writer calls                a `Run`: what begin is given, and `run.calls`, the calls after it
--   byte stores                           `run_stores run`, all of them, in the order in which they are made
--   k stores made before a kill           the first k of them; the buffer is then `buffer_at run k`
--   a close accepted                      `run_closed run`
--   the tree described                    `run_tree run`: the calls' arguments and which were accepted, and nothing else
--   it opens and shows exactly the tree   `Shows`
--   opening answers 3                     `open_answer` is the refusal 3
use Rattle.std.specs.Prelude.{◌≡◌, true, List, [], ◌∷◌, ◌++◌, ℕ, ◌-◌, ◌≤◌, ◌<◌, length, take, drop}
use Rattle.aff_format.specs.Answer.{accepted, refused, refusal, refusal_at}
use Rattle.aff_format.specs.Edition.{edition_by}
use Rattle.aff_format.specs.Limits.{string_limit, node_limit}
use Rattle.aff_format.specs.Tree.{Tree}
use Rattle.aff_open.specs.Opening.{open_answer}
use Rattle.aff_reader.specs.declared.reader.Reader.{Reader}
use Rattle.aff_file.specs.File.{FileContents, file_of, contents_tree, Lawful}
use Rattle.aff_areas.specs.Stores.{apply_stores}
use Rattle.aff_run.specs.Cut.{cut}
use Rattle.aff_run.specs.TreeSizes.{non_void_count}
use Rattle.aff_run.specs.Run.{Call, Run, with_calls, run_begin, run_answers, run_stores, run_state, run_tree, run_closed}
use Rattle.aff_read.specs.Shows.{Shows}

-- The buffer after the first k of all the stores of a run: document 01, 'Writing keys': each place holds the last byte stored to it, else its
-- byte before begin.
abbrev pub buffer_at : Run → ℕ → List ℕ
buffer_at run k = apply_stores run.buffer (take k (run_stores run))

-- What a kill after k of all the stores leaves.
pub record Killed (run : Run) (k : ℕ) : Type 0 where
  -- None made: the buffer is as it was. All made: it is the buffer that the calls left.
  pub none_made : k ≡ 0 → buffer_at run k ≡ run.buffer
  pub all_left : k ≡ length (run_stores run) → buffer_at run k ≡ (run_state run).buffer
  -- All made and a close accepted: with the form that begin was given it opens and shows exactly the tree described.
  pub all_made : k ≡ length (run_stores run) → run_closed run ≡ true → Shows (buffer_at run k) run.form (run_tree run)
  -- Otherwise opening answers 3, whatever form of 12 bytes it is given.
  pub otherwise : 0 < k → ((k ≡ length (run_stores run)) × (run_closed run ≡ true) → ⊥) → (expected : List ℕ) → length expected ≡ 12
      → open_answer (buffer_at run k) expected string_limit node_limit ≡ refused (refusal 3)

abbrev pub Demand3 : Type 0
Demand3 = (run : Run) (k : ℕ) → k ≤ length (run_stores run) → Killed run k

-- A run cut after k stores is the same run with its allowances giving out there. It is a run, so that demands 1 and 3 hold of it too.
pub record Cut (run : Run) (k : ℕ) : Type 0 where
  -- It makes the first k stores of the uncut run, and leaves the buffer after them.
  pub stores : run_stores (cut run k) ≡ take k (run_stores run)
  pub buffer_left : (run_state (cut run k)).buffer ≡ buffer_at run k
  -- It answers the same before that point: begin, and the calls whose stores are all made.
  pub begins : length (run_begin run).stores ≤ k → run_begin (cut run k) ≡ run_begin run
  pub answers : (before after : List Call) → run.calls ≡ before ++ after → length (run_stores (with_calls run before)) ≤ k
      → take (length before) (run_answers (cut run k)) ≡ take (length before) (run_answers run)
  -- At that point it answers 23 and reports the stores that were left.
  pub begin_out : k < length (run_begin run).stores → (run_begin (cut run k)).answer ≡ refused (refusal_at 23 k)
  pub answer_out : (before after : List Call) (c : Call) → run.calls ≡ before ++ (c ∷ after) → length (run_stores (with_calls run before)) ≤ k
      → k < length (run_stores (with_calls run (before ++ (c ∷ []))))
      → take 1 (drop (length before) (run_answers (cut run k))) ≡ refused (refusal_at 23 (k - length (run_stores (with_calls run before)))) ∷ []

abbrev pub Demand3Cut : Type 0
Demand3Cut = (run : Run) (k : ℕ) → Cut run k

-- The data header's record count of a closed file, as opening reports it, is the number of nodes that are not Void: document 01, 'Layout of a file'. This
-- holds for every run with an accepted close.
abbrev pub DataCounted : Type 0
DataCounted = (run : Run) → run_closed run ≡ true
    → (r : Reader) → open_answer (run_state run).buffer run.form string_limit node_limit ≡ accepted r → r.records ≡ non_void_count (run_tree run)

-- A buffer is the finished file of some contents, then the bytes after it; the contents are lawful, and their tree is this one (crates/aff_file/specs).
pub record FileWritten (edition : ℕ) (buffer form : List ℕ) (tree : Tree) : Type 0 where
  pub contents : FileContents
  pub rest : List ℕ
  pub lawful : Lawful (edition_by edition) contents form (length rest)
  pub file : buffer ≡ file_of (edition_by edition) contents form ++ rest
  pub described : contents_tree (edition_by edition) contents ≡ tree

-- Every run with an accepted close leaves such a buffer, of the edition and the form that begin was given, with the tree described (request C-15).
abbrev pub FileMade : Type 0
FileMade = (run : Run) → run_closed run ≡ true → FileWritten run.edition (run_state run).buffer run.form (run_tree run)
