-- Demand 1. Every call ends, does nothing undefined and answers by document 01's table, whatever it is given. That each function ends, stays inside
-- the caller's memory and meets its contract for every input is what the prover proves of it; each contract is an equation with a definition of
-- specs/. This file says of those definitions: each call is accepted exactly when its rules hold, in document 01's order, and else refused by the
-- first that fails, for every record, memory and argument, altered or not (the rules are in Rules.antt, opening's in
-- crates/aff_open/specs/Faults.antt; `By` is in crates/aff_format/specs/Rule.antt); what it then leaves in record, areas, buffer and output (Leaves.antt); when the numbers 24 and 22 come at all; and that
-- in a run a writer's answers are decided by the tree that the calls describe. So a writer that refuses every call cannot pass.
use Rattle.std.specs.Prelude.{◌≡◌, Bool, true, false, ◌||◌, List, [], ◌∷◌, ◌⊎◌, ◌↔◌, ℕ, ◌≤◌, ◌<◌, length}
use Rattle.aff_format.specs.Answer.{Answer, accepted, refused, refusal}
use Rattle.aff_format.specs.Edition.{header_size, edition_number, edition_by, NamesWritten}
use Rattle.aff_format.specs.Element.{element_at, decoded}
use Rattle.aff_format.specs.Tree.{Tree}
use Rattle.aff_format.specs.declared.edition.Edition.{Edition}
use Rattle.aff_format.specs.declared.kind.Kind.{Kind}
use Rattle.aff_format.specs.declared.refusal.RefusalCode.{RefusalCode}
use Rattle.aff_reader.specs.Belongs.{ReaderBelongs}
use Rattle.aff_open.specs.Faults.{rules}
use Rattle.aff_open.specs.Opening.{open_answer, reader_for, reader_after, strings_after, entries_after}
use Rattle.aff_open.specs.Sections.{edition_in}
use Rattle.aff_reader.specs.declared.reader.Reader.{Reader}
use Rattle.aff_nodes.specs.Answers.{name_answer, kind_answer, count_answer, view_answer, element_answer}
use Rattle.aff_read.specs.Paths.{path_answer, lookup_answer}
use Rattle.aff_areas.specs.Belongs.{WriterBelongs}
use Rattle.aff_areas.specs.Stores.{stores_reported}
use Rattle.aff_areas.specs.declared.writer.Writer.{Writer}
use Rattle.aff_write.specs.Begin.{begin_answer}
use Rattle.aff_write.specs.Close.{close_answer}
use Rattle.aff_make.specs.Make.{make_answer}
use Rattle.aff_write.specs.Put.{put_answer}
use Rattle.aff_run.specs.AnswersFromTree.{AnswersFromTree, AllWrongRecord, stops}
use Rattle.aff_run.specs.AreasHold.{AreasHold}
use Rattle.aff_run.specs.Run.{Call, make, put, close, State, step, Run, run_begin, run_answers, run_stores, run_state, run_tree, run_layout}
use Rattle.aff.specs.Leaves.{OpeningLeaves, ReadingLeaves, BeginLeaves, WritingLeaves}
use Rattle.aff_format.specs.Rule.{By, Is}
use Rattle.aff.specs.Rules.{decode_rules, ReadingByRules, begin_rules, WritingByRules}
use Rattle.aff_listing.specs.ListingOrder.{listing_answer}
use Rattle.aff_listing.specs.declared.choice.Choice.{Choice}

-- An answer is no refusal by this number.
abbrev pub NotBy : {A : Type 0} → ℕ → Answer A → Type 0
NotBy number answer = (t : RefusalCode) → answer ≡ refused t → t.number ≡ number → ⊥

-- An answer is 24, or is not.
abbrev pub Is24 : (A : Type 0) → Answer A → Type 0
Is24 A answer = answer ≡ refused (refusal 24)

abbrev pub Not24 : (A : Type 0) → Answer A → Type 0
Not24 A answer = NotBy 24 answer

-- It is 24 exactly when this does not hold.
abbrev pub Is24Unless : Type 0 → (A : Type 0) → Answer A → Type 0
Is24Unless P A answer = Is24 A answer ↔ (P → ⊥)

-- Of each reading call with this record over these, whatever else it is given, the answer is of one sort.
pub record EachReading (Sort : (A : Type 0) → Answer A → Type 0) (image : List ℕ) (r : Reader) (strings entries : List ℕ) : Type 0 where
  pub name : (node : ℕ) → Sort _ (name_answer image r strings entries node)
  pub kind : (node : ℕ) → Sort _ (kind_answer image r strings entries node)
  pub count : (node : ℕ) → Sort _ (count_answer image r strings entries node)
  pub view : (node : ℕ) → Sort _ (view_answer image r strings entries node)
  pub element : (node index : ℕ) → Sort _ (element_answer image r strings entries node index)
  pub path : (node size : ℕ) → Sort _ (path_answer image r strings entries node size)
  pub lookup : (path : List ℕ) → Sort _ (lookup_answer image r strings entries path)
  pub listing : (choice : Choice) (size : ℕ) → Sort _ (listing_answer image r strings entries choice size)

-- The same of each writing call.
pub record EachWriting (Sort : (A : Type 0) → Answer A → Type 0) (buffer : List ℕ) (w : Writer) (text tree : List ℕ) : Type 0 where
  pub make : (parent : ℕ) (name : List ℕ) → Sort _ (make_answer (length buffer) w text tree parent name)
  pub put : (node type : ℕ) (bytes : List ℕ) (allowance : ℕ) → Sort _ (put_answer (length buffer) w text tree node type bytes allowance)
  pub close : (allowance : ℕ) → Sort _ (close_answer buffer w text tree allowance)

-- No answer of a run is 24, and an answer is 22 exactly if the writer was closed or stopped before: by an accepted close or a 23.
abbrev pub Numbered : Bool → List Call → List (Answer ℕ) → Type 0
Numbered stopped [] answers = Unit {0}
Numbered stopped (c ∷ cs) [] = ⊥
Numbered stopped (c ∷ cs) (a ∷ answers) =
    NotBy 24 a × ((a ≡ refused (refusal 22)) ↔ (stopped ≡ true)) × Numbered (stopped || stops c a) cs answers

-- How many stores the answer of a call reports; a make reports a node's number, and stores nothing.
abbrev pub call_stores : Call → Answer ℕ → ℕ
call_stores (make parent name) answer = 0
call_stores (put node type bytes allowance) answer = stores_reported answer
call_stores (close allowance) answer = stores_reported answer

pub record Demand1 : Type 0 where
  -- The table. Opening, each reading call, the decoding of an element of a view that is held, begin, which reports its one store, and each other writing
  -- call answer by their rules, whatever record and memory they are given.
  pub opening : (image form : List ℕ) (strings entries : ℕ)
      → By (rules image form strings entries) (Is (reader_for (edition_in image) image)) (open_answer image form strings entries)
  pub reading : (image : List ℕ) (r : Reader) (strings entries : List ℕ) → ReadingByRules image r strings entries
  pub decode : (kind : Kind) (bytes : List ℕ) (index : ℕ)
      → By (decode_rules kind bytes index) (Is (element_at kind bytes index)) (decoded kind bytes index)
  pub begin : (edition : ℕ) (buffer form text tree : List ℕ) (allowance : ℕ)
      → By (begin_rules edition buffer form text tree allowance) (Is 1) (begin_answer edition buffer form text tree allowance)
  pub writing : (buffer : List ℕ) (w : Writer) (text tree : List ℕ) → WritingByRules buffer w text tree
  -- Which numbers name an edition, and which one that is written (request C-15).
  pub editions_read : (n : ℕ) → ((e : Edition) × (edition_number e ≡ n)) ↔ ((1 ≤ n) × (n ≤ 3))
  pub editions_written : (n : ℕ) → NamesWritten n ↔ ((n ≡ 2) ⊎ (n ≡ 3))
  -- What each call leaves in the caller's memory, by its answer.
  pub opening_leaves : (image form strings entries : List ℕ) → OpeningLeaves image form strings entries
  pub reading_leaves : (image : List ℕ) (r : Reader) (strings entries : List ℕ) → ReadingLeaves image r strings entries
  pub begin_leaves : (run : Run) → BeginLeaves run
  pub writing_leaves : (s : State) (c : Call) → WritingLeaves s c
  -- By these rules, 24 is reported exactly when the record does not belong to the memory passed.
  pub reading_24 : (image : List ℕ) (r : Reader) (strings entries : List ℕ) → EachReading (Is24Unless (ReaderBelongs image r strings entries)) image r strings entries
  pub writing_24 : (buffer : List ℕ) (w : Writer) (text tree : List ℕ) → EachWriting (Is24Unless (WriterBelongs (length buffer) w text tree)) buffer w text tree
  -- So each writing call with a record of another edition than 2 and 3 answers 24 (request C-15).
  pub unwritten_24 : (buffer : List ℕ) (w : Writer) (text tree : List ℕ) → ((w.edition ≡ 2) ⊎ (w.edition ≡ 3) → ⊥) → EachWriting Is24 buffer w text tree
  -- And so does one whose end of data is inside the header of its edition, or past the buffer (request C-22).
  pub end_24 : (buffer : List ℕ) (w : Writer) (text tree : List ℕ) → (w.end < header_size (edition_by w.edition)) ⊎ (length buffer < w.end) → EachWriting Is24 buffer w text tree
  -- Reading. After an accepted opening no reading call on its record, the image and the areas as it left them answers 24.
  pub opened_reads : (image form strings entries : List ℕ) {r : Reader} → open_answer image form (length strings) (length entries) ≡ accepted r
      → EachReading Not24 image r (strings_after image form strings entries) (entries_after image form strings entries)
  -- The record that a refused opening returns, all zero, gets 24 from each reading call, over any image and areas.
  pub refused_reads : (image form : List ℕ) (strings entries : ℕ) {t : RefusalCode} → open_answer image form strings entries ≡ refused t
      → (other ss es : List ℕ) → EachReading Is24 other (reader_after (open_answer image form strings entries)) ss es
  -- The record that a begin refused otherwise than by 23 returns, all zero, gets 24 from each writing call, over any buffer and areas.
  pub refused_writes : (run : Run) {t : RefusalCode} → (run_begin run).answer ≡ refused t → (t.number ≡ 23 → ⊥)
      → (other text tree : List ℕ) → EachWriting Is24 other (run_begin run).writer text tree
  -- A run: a begin and then any calls with any arguments. After an accepted begin `AnswersFromTree` gives each answer: 22 exactly after an accepted close
  -- or a 23, and else what the edition, the tree described so far and the end of data decide, with the tree's sizes, the buffer's length and the allowance and nothing else: 15 no such
  -- number, 14, 17 it has that child, 18, 19, 20, 21 by its sizes, 23 by the stores needed, or accepted.
  pub run : (run : Run) {n : ℕ} → (run_begin run).answer ≡ accepted n
      → AnswersFromTree (edition_by run.edition) (length run.buffer) false (header_size (edition_by run.edition)) [] run.calls (run_answers run)
  -- After a begin refused by 23 the writer is stopped: every answer is 22.
  pub spent_run : (run : Run) {t : RefusalCode} → (run_begin run).answer ≡ refused t → t.number ≡ 23
      → AnswersFromTree (edition_by run.edition) (length run.buffer) true (header_size (edition_by run.edition)) [] run.calls (run_answers run)
  -- After a begin refused otherwise every answer is 24, and nothing is stored.
  pub refused_run : (run : Run) {t : RefusalCode} → (run_begin run).answer ≡ refused t → (t.number ≡ 23 → ⊥)
      → AllWrongRecord (run_answers run) × (run_stores run ≡ [])
  -- What `AnswersFromTree` says of 24 and 22.
  pub run_numbers : (e : Edition) (size : ℕ) (stopped : Bool) (end : ℕ) (tree : Tree) (calls : List Call) (answers : List (Answer ℕ))
      → AnswersFromTree e size stopped end tree calls answers → Numbered stopped calls answers
  -- No answer reports more stores than its call needs, and none are reported but where a call is accepted or answers 23. (By definition the stores of
  -- `begin_step` and `step` are the first of those needed, as many as the answer reports. That an accepted call reports all of them and a 23 the allowance is
  -- in `begin`, `writing` and `AnswersFromTree`; that the buffer then holds these and no others is in `begin_leaves` and `writing_leaves`.)
  pub begin_reports : (run : Run) → length (run_begin run).stores ≡ stores_reported (run_begin run).answer
  pub reports : (s : State) (c : Call) → length (step s c).stores ≡ call_stores c (step s c).answer
  -- The areas of a run: the text area holds the strings so far, each with its zero, the tree area each node's entry; zeros after them. Where the data end, and where
  -- those of each node begin, is what the calls describe.
  pub areas : (run : Run) {n : ℕ} → (run_begin run).answer ≡ accepted n → AreasHold run.edition (run_tree run) (run_layout run) (run_state run)
