-- Demand 1 from the laws of rules (`reading_by`, `begin_by`, `writing_by`), of what calls leave (`opening_leaves` and its like), of 24 (`opened_belongs`, `none_belongs`) and of runs (`run_from_tree`,
-- `run_spent`, `run_refused`). Every reading and writing call judges 24 first, so it answers 24 where the record does not belong, and where it does, no
-- check after reports 24. Assumes nothing.
use mathlib.Core.Path.{◌≡◌, refl, sym, ap, ◌∙◌}
use mathlib.Core.Bool.{Bool, true, false, cond, not, ◌||◌, true≢false}
use mathlib.Core.List.{List, [], ◌∷◌}
use mathlib.Core.Logic.{◌⊎◌, ◌↔◌, ⊎_elim}
use Prim.Native.Nat.{ℕ, ◌<◌}
use native.Mathlib.Omega.{arith}
use lib.Dec.{ltb, leb}
use lib.ListN.{length}
use borrow.Author.Tests.{eq-eqb, ne_eqb, eqb-false}
use Rattle.aff_format.specs.Edition.{header_size, edition_by}
use Rattle.aff_format.specs.Answer.{Answer, refused, Check, check, refusal, first_wrong}
use Rattle.aff_format.specs.Tree.{Tree}
use Rattle.aff_format.specs.declared.edition.Edition.{Edition}
use Rattle.aff_format.specs.declared.refusal.RefusalCode.{RefusalCode}
use Rattle.aff_format.proofs.AnswerLaws.{Others, others_reported}
use Rattle.aff_format.proofs.EditionLaws.{edition_numbers, written_numbers}
use Rattle.aff_reader.specs.Belongs.{reader_belongs, ReaderBelongs}
use Rattle.aff_open.specs.Opening.{strings_after, entries_after}
use Rattle.aff_reader.specs.Reader.{no_reader}
use Rattle.aff_reader.specs.declared.reader.Reader.{Reader}
use Rattle.aff_reader.proofs.BelongsLaws.{belongs_record as reader-clauses, record_belongs as reader-belongs, none_belongs}
use Rattle.aff_open.proofs.OpenedLaws.{opened_belongs}
use Rattle.aff_nodes.specs.Answers.{name_answer, kind_answer, count_answer, view_answer, element_answer}
use Rattle.aff_read.specs.Paths.{lookup_checks, path_answer, lookup_answer}
use Rattle.aff_nodes.specs.Recall.{count_at, path_at}
use Rattle.aff_areas.specs.Belongs.{writer_belongs as belongsHere, WriterBelongs}
use Rattle.aff_areas.specs.Writer.{no_writer}
use Rattle.aff_areas.specs.declared.writer.Writer.{Writer}
use Rattle.aff_areas.proofs.BelongsLaws.{belongs_record as writer-clauses, record_belongs as writer-belongs, none_belongs as none-belongs-here, end_inside}
use Rattle.aff_write.specs.Close.{store_checks, close_answer}
use Rattle.aff_make.specs.Make.{child_checks, make_answer}
use Rattle.aff_write.specs.Put.{data_checks, put_answer}
use Rattle.aff_run.specs.AnswersFromTree.{call_checks, call_value, call_answer, AnswersFromTree, stops}
use Rattle.aff_run.specs.Run.{Call, make, put, close, State, step, is_accepted, apply_call, call_end}
use Rattle.aff_run.proofs.CutLaws.{make_stores, put_reports, close_reports, begin_reports}
use Rattle.aff_run.proofs.AnswersFromTreeLaws.{run_from_tree, run_spent, run_refused}
use Rattle.aff_run.proofs.AreasHoldLaws.{run_areas}
use Rattle.aff.specs.Demand1.{NotBy, Is24, Not24, Is24Unless, EachReading, EachWriting, Numbered, call_stores, Demand1}
use Rattle.aff.proofs.LeavesLaws.{opening_leaves, reading_leaves, begin_leaves, writing_leaves}
use Rattle.aff.proofs.RulesLaws.{opening_by, decode_by, reading_by, begin_by, writing_by}
use Rattle.aff_listing.specs.ListingOrder.{listed_count, listing_answer}

-- ---- Checks that report other numbers.

pub others_not : {A : Type 0} (n : ℕ) (checks : List Check) (a : A) → Others n checks → NotBy n (first_wrong checks a)
others_not n checks a o t h e = eqb-false t.number n (others_reported n checks o a h) e

-- A call that judges 24 first answers it exactly where the record does not belong.
abbrev pub judged : {A : Type 0} → List Check → A → Bool → Answer A
judged more a b = first_wrong (check (not b) (refusal 24) ∷ more) a

-- The checks after it report neither 24 nor 8, which is withdrawn.
abbrev pub Neither : List Check → Type 0
Neither more = Others 24 more × Others 8 more

module _ {A : Type 0} (more : List Check) (a : A) (l : Neither more) where
  belongs_not_24 : {b : Bool} → b ≡ true → NotBy 24 (judged more a b)
  belongs_not_24 h = rw h (others_not 24 more a l.0)

  belongs_is_24 : {b : Bool} → b ≡ false → Is24 A (judged more a b)
  belongs_is_24 h = rw h

  belongs_unless : {P : Type 0} (b : Bool) → (b ≡ true → P) → (P → b ≡ true) → Is24Unless P A (judged more a b)
  belongs_unless true to from = (λ h. absurd (others_not 24 more a l.0 (refusal 24) h refl), λ n. absurd (n (to refl)))
  belongs_unless false to from = (λ _ p. true≢false (sym (from p)), λ _. refl)

  pub judged_not_8 : (b : Bool) → NotBy 8 (judged more a b)
  judged_not_8 b = others_not 8 (check (not b) (refusal 24) ∷ more) a l.1

-- ---- Reading.

module _ (Sort : (A : Type 0) → Answer A → Type 0) (image : List ℕ) (r : Reader) (strings entries : List ℕ) where
  -- The check of a node's number, then one more.
  abbrev number : ℕ → List Check → List Check
  number node more = check (ltb r.nodes node) (refusal 15) ∷ more

  abbrev short : ℕ → ℕ → List Check
  short limit size = check (ltb limit size) (refusal 21) ∷ []

  -- What holds of each call that judges 24 first holds of each reading call.
  pub each_reading : ((A : Type 0) (more : List Check) (a : A) → Neither more → Sort A (judged more a (reader_belongs image r strings entries)))
      → EachReading Sort image r strings entries
  unfolding name_answer kind_answer count_answer view_answer element_answer path_answer lookup_answer listing_answer
  each_reading f =
      record {
        name = λ node. f _ (number node []) _ (refl, refl);
        kind = λ node. f _ (number node []) _ (refl, refl);
        count = λ node. f _ (number node []) _ (refl, refl);
        view = λ node. f _ (number node []) _ (refl, refl);
        element = λ node index. f _ (number node (check (leb (count_at image entries node) index) (refusal 16) ∷ [])) _ (refl, refl);
        path = λ node buffer. f _ (number node (short buffer (length (path_at image r strings entries node)))) _ (refl, refl);
        lookup = λ path.
            f _ (lookup_checks image r strings entries path) _
            (refl, refl);
        listing = λ choice buffer. f _ (short buffer (listed_count image r strings entries choice)) _ (refl, refl);
      }

module _ (image : List ℕ) (r : Reader) (strings entries : List ℕ) where
  reads : reader_belongs image r strings entries ≡ true → EachReading Not24 image r strings entries
  reads b = each_reading Not24 image r strings entries (λ A more a l. belongs_not_24 more a l b)

  wrong_reads : reader_belongs image r strings entries ≡ false → EachReading Is24 image r strings entries
  wrong_reads b = each_reading Is24 image r strings entries (λ A more a l. belongs_is_24 more a l b)

  reads_24 : EachReading (Is24Unless (ReaderBelongs image r strings entries)) image r strings entries
  reads_24 =
      each_reading (Is24Unless (ReaderBelongs image r strings entries)) image r strings entries
      (λ A more a l. belongs_unless more a l (reader_belongs image r strings entries) reader-clauses reader-belongs)

-- ---- Writing.

module _ (Sort : (A : Type 0) → Answer A → Type 0) (buffer : List ℕ) (w : Writer) (text tree : List ℕ) where
  -- The check of 22, then more.
  abbrev awake : List Check → List Check
  awake more = check (not w.live) (refusal 22) ∷ more

  -- The same of each writing call.
  pub each_writing : ((A : Type 0) (more : List Check) (a : A) → Neither more → Sort A (judged more a (belongsHere (length buffer) w text tree)))
      → EachWriting Sort buffer w text tree
  unfolding make_answer put_answer close_answer
  each_writing f =
      record {
        make = λ parent name. f _ (awake (child_checks w text tree parent name)) _ (refl, refl);
        put = λ node type bytes allowance. f _ (awake (data_checks w tree node type bytes allowance)) _ (refl, refl);
        close = λ allowance. f _ (awake (store_checks buffer w text tree allowance)) _ (refl, refl);
      }

module _ (buffer : List ℕ) (w : Writer) (text tree : List ℕ) where
  wrong_writes : belongsHere (length buffer) w text tree ≡ false → EachWriting Is24 buffer w text tree
  wrong_writes b = each_writing Is24 buffer w text tree (λ A more a l. belongs_is_24 more a l b)

  writes_24 : EachWriting (Is24Unless (WriterBelongs (length buffer) w text tree)) buffer w text tree
  writes_24 =
      each_writing (Is24Unless (WriterBelongs (length buffer) w text tree)) buffer w text tree
      (λ A more a l. belongs_unless more a l (belongsHere (length buffer) w text tree) writer-clauses writer-belongs)

  unwritten_writes : ((w.edition ≡ 2) ⊎ (w.edition ≡ 3) → ⊥) → EachWriting Is24 buffer w text tree
  unwritten_writes other = go (belongsHere (length buffer) w text tree) refl
    where
      go : (b : Bool) → belongsHere (length buffer) w text tree ≡ b → EachWriting Is24 buffer w text tree
      go true h = absurd (other ((written_numbers w.edition).0 (writer-clauses h).edition_written))
      go false h = wrong_writes h

  end_writes : (w.end < header_size (edition_by w.edition)) ⊎ (length buffer < w.end) → EachWriting Is24 buffer w text tree
  end_writes other = go (belongsHere (length buffer) w text tree) refl
    where
      go : (b : Bool) → belongsHere (length buffer) w text tree ≡ b → EachWriting Is24 buffer w text tree
      go true h =
          let b = writer-clauses h in
          absurd
          (⊎_elim (λ (l : w.end < header_size (edition_by w.edition)). omega (arith, b.end_after_header))
          (λ (l : length buffer < w.end). omega (arith, end_inside w tree, b.size_fits, b.length_recorded)) other)
      go false h = wrong_writes h

-- ---- What a run's answers say of 24 and 22.

-- The checks of a call of a run report neither.
call_others : (ed : Edition) (size end : ℕ) (tree : Tree) (c : Call) → Others 22 (call_checks ed size end tree c) × Others 24 (call_checks ed size end tree c)
call_others ed size end tree (make parent name) = (refl, refl)
call_others ed size end tree (put node type bytes allowance) = (refl, refl)
call_others ed size end tree (close allowance) = (refl, refl)

call_never : (ed : Edition) (size end : ℕ) (tree : Tree) (c : Call) → NotBy 22 (call_answer ed size end tree c) × NotBy 24 (call_answer ed size end tree c)
call_never ed size end tree c =
    let (o, p) = call_others ed size end tree c in
    (others_not 22 (call_checks ed size end tree c) (call_value ed size end tree c) o, others_not 24 (call_checks ed size end tree c) (call_value ed size end tree c) p)

-- One answer.
answer_numbers : (stopped : Bool) (ed : Edition) (size end : ℕ) (tree : Tree) (c : Call) (a : Answer ℕ) → a ≡ cond stopped (refused (refusal 22)) (call_answer ed size end tree c)
    → NotBy 24 a × ((a ≡ refused (refusal 22)) ↔ (stopped ≡ true))
answer_numbers true ed size end tree c a h = (
  λ t g e. let q : refusal 22 ≡ t = cc in absurd (let z : 22 ≡ 24 = ap (λ (x : RefusalCode). x.number) q ∙ e in omega arith),
  (λ _. refl, λ _. h),
)
answer_numbers false ed size end tree c a h = (
  λ t g e. (call_never ed size end tree c).1 t (sym h ∙ g) e,
  (λ g. absurd ((call_never ed size end tree c).0 (refusal 22) (sym h ∙ g) refl), λ g. absurd (true≢false (sym g))),
)

answers_numbered : (cs : List Call) (answers : List (Answer ℕ)) (ed : Edition) (size : ℕ) (stopped : Bool) (end : ℕ) (tree : Tree)
    → AnswersFromTree ed size stopped end tree cs answers
    → Numbered stopped cs answers
answers_numbered [] answers ed size stopped end tree x = tt
answers_numbered (c ∷ cs) [] ed size stopped end tree x = x
answers_numbered (c ∷ cs) (a ∷ answers) ed size stopped end tree x =
    let (not, only) = answer_numbers stopped ed size end tree c a x.0 in
    (not, only, answers_numbered cs answers ed size (stopped || stops c a) (call_end end c (is_accepted a)) (apply_call tree c (is_accepted a)) x.1)

-- ---- Stores reported.

reports_made : (s : State) (c : Call) → length (step s c).stores ≡ call_stores c (step s c).answer
reports_made s (make parent name) = ap length (make_stores s parent name)
reports_made s (put node type bytes allowance) = put_reports s node type bytes allowance
reports_made s (close allowance) = close_reports s allowance

-- ---- The demand.

pub demand1 : Demand1
demand1 =
    record {
      opening = opening_by;
      reading = reading_by;
      decode = decode_by;
      begin = begin_by;
      writing = writing_by;
      editions_read = edition_numbers;
      editions_written = written_numbers;
      opening_leaves = opening_leaves;
      reading_leaves = reading_leaves;
      begin_leaves = begin_leaves;
      writing_leaves = writing_leaves;
      reading_24 = reads_24;
      writing_24 = writes_24;
      unwritten_24 = unwritten_writes;
      end_24 = end_writes;
      opened_reads = λ image form strings entries h.
          reads image _ (strings_after image form strings entries) (entries_after image form strings entries) (opened_belongs image form strings entries h);
      refused_reads = λ image form strings entries h other ss es. rw h (wrong_reads other no_reader ss es (none_belongs other ss es));
      refused_writes = λ run h e other text tree.
          rw (ap (λ (s : State). s.writer) ((begin_leaves run).by_others _ h e)) (wrong_writes other no_writer text tree (none-belongs-here (length other) text tree));
      run = run_from_tree;
      spent_run = λ run h e. run_spent run _ h (eq-eqb _ 23 e);
      refused_run = λ run h e. run_refused run _ h (ne_eqb _ 23 e);
      run_numbers = λ ed size stopped end tree calls answers. answers_numbered calls answers ed size stopped end tree;
      begin_reports = begin_reports;
      reports = reports_made;
      areas = run_areas;
    }
