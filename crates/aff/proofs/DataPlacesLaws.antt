-- Where the data of a run are: the file that a close makes is the one described; its entries have aligned offsets, those described, and a view begins where the entry of
-- its node says. The bounds are those of the calls. Assumes nothing.
use mathlib.Core.Path.{◌≡◌, refl, sym, ap, ◌∙◌, subst}
use mathlib.Core.Bool.{Bool, true, false, not, true≢false}
use mathlib.Core.List.{List, [], ◌∷◌, ◌++◌, map}
use Prim.Native.Nat.{ℕ, zero, suc, ◌+◌, ◌-◌, ◌%◌, ◌≤◌}
use native.Mathlib.Omega.{arith}
use lib.Dec.{eqb, ltb}
use lib.ListN.{length, get_or, drop, length-map}
use lib.Seq.{drop-append_seam}
use borrow.Author.Tests.{eq-eqb, le-ltb}
use Rattle.aff_format.specs.Answer.{Answer, accepted, refused, check, refusal, refusal_at}
use Rattle.aff_format.specs.Bytes.{part}
use Rattle.aff_format.specs.Edition.{header_size, edition_by, names_written}
use Rattle.aff_format.specs.Limits.{string_limit, node_limit}
use Rattle.aff_format.specs.Tree.{Tree}
use Rattle.aff_format.specs.declared.edition.Edition.{Edition}
use Rattle.aff_format.specs.declared.refusal.RefusalCode.{RefusalCode}
use Rattle.aff_format.proofs.AlignLaws.{aligned_multiple, aligned_above, aligned_lowest}
use Rattle.aff_format.proofs.AnswerLaws.{check_reported}
use Rattle.aff_format.proofs.EditionLaws.{header_least}
use Rattle.aff_open.specs.Opening.{open_answer, strings_after, entries_after}
use Rattle.aff_open.specs.Rules.{EachNode}
use Rattle.aff_reader.specs.declared.reader.Reader.{Reader}
use Rattle.aff_reader.specs.declared.reader.Span.{Span}
use Rattle.aff_nodes.specs.Answers.{view_answer}
use Rattle.aff_tables.specs.Tables.{node_entry}
use Rattle.aff_file.specs.File.{FileContents, file_of, Lawful}
use Rattle.aff_file.proofs.FileShowsLaws.{file_stored, file_view, file_view_root}
use Rattle.aff_write.specs.Begin.{begin_lengths_wrong, begin_answer}
use Rattle.aff_run.specs.AnswersFromTree.{close_needs, AllWrongRecord}
use Rattle.aff_run.specs.BufferSize.{most_added_by, NoneBy}
use Rattle.aff_run.specs.DescribedFile.{described_contents}
use Rattle.aff_run.specs.TreeSizes.{size_of}
use Rattle.aff_run.specs.Run.{State, stores_of, DataLayout, no_data, begin_step, Run, run_begin, run_start, run_answers, run_stores, run_state, run_tree, run_layout, run_closed}
use Rattle.aff_run.proofs.AnswersFromTreeLaws.{run_from_tree, run_spent, run_refused}
use Rattle.aff_run.proofs.BeginInvariantLaws.{no_size, begin_stores_lem, begin_invariant}
use Rattle.aff_run.proofs.BeginRefusedLaws.{none_closed}
use Rattle.aff_run.proofs.BufferSizeLaws.{end_least, end_most, most_swapped, answers_fit}
use Rattle.aff_run.proofs.ClosedLaws.{contents, rest, closed, closed_is, lawful, length_closed}
use Rattle.aff_run.proofs.DescribedFileLaws.{contents_described}
use Rattle.aff_run.proofs.InsideLaws.{Below, below_append, below_drop, run_inside}
use Rattle.aff_run.proofs.InvariantLaws.{Invariant, offset_of, offset_at, stored_in, count_same}
use Rattle.aff_run.proofs.StepLaws.{run_buffer}
use Rattle.aff.specs.Demand1.{NotBy}
use Rattle.aff.specs.DataPlaces.{ViewPlaced, ViewsAligned, described_file, FilesDescribed, BufferSuffices, DataPlaces}
use Rattle.aff.proofs.Demand3Laws.{all_holds}

-- ---- The file of a run.

-- A buffer is the file of a tree and a layout, and then the bytes after it; each offset in it is a multiple of 8.
record Placed (edition : ℕ) (buffer form : List ℕ) (tree : Tree) (layout : DataLayout) : Type 0 where
  held : FileContents
  after : List ℕ
  held_lawful : Lawful (edition_by edition) held form (length after)
  file : buffer ≡ file_of (edition_by edition) held form ++ after
  size : length (file_of (edition_by edition) held form) ≡ size_of layout.end tree
  described : held ≡ described_contents tree layout
  places : map offset_of held.entries ≡ layout.offsets
  multiples : EachNode held.entries (λ k. (node_entry held.entries k).offset % 8 ≡ 0)

closed_placed : (s : State) (tree : Tree) (layout : DataLayout) (g : Invariant s tree layout) → Placed s.writer.edition (closed s tree g) s.writer.form tree layout
unfolding contents
closed_placed s tree layout g =
    record {
      held = contents s tree g;
      after = rest s tree g;
      held_lawful = lawful s tree g;
      file = closed_is s tree g;
      size = length_closed s tree g ∙ ap (λ (end : ℕ). size_of end tree) g.end_is;
      described = contents_described s tree g;
      places = g.offsets_are;
      multiples = λ k lo hi. (stored_in s tree g k lo (omega (arith, count_same s tree g))).offset_aligned;
    }

placed_by : (a : Answer ℕ) (run : Run) → (run_begin run).answer ≡ a → run_closed run ≡ true
    → Placed run.edition (run_state run).buffer run.form (run_tree run) (run_layout run)
placed_by (accepted n) run h c = rw (run_buffer run) (all_holds run h Placed closed_placed c)
placed_by (refused t) run h c = absurd (true≢false (sym c ∙ none_closed run t h))

placed : (run : Run) → run_closed run ≡ true → Placed run.edition (run_state run).buffer run.form (run_tree run) (run_layout run)
placed run c = placed_by (run_begin run).answer run refl c

-- ---- Views.

-- Every accepted view of a buffer, as the statement has it.
abbrev ViewsOf : Run → List ℕ → Type 0
ViewsOf run buffer = (r : Reader) → open_answer buffer run.form string_limit node_limit ≡ accepted r
    → (strings entries : List ℕ) → length strings ≡ string_limit → length entries ≡ node_limit → (n : ℕ) (view : Span)
    → view_answer buffer r (strings_after buffer run.form strings entries) (entries_after buffer run.form strings entries) n ≡ accepted view → ViewPlaced run n view

module _ (run : Run) (p : Placed run.edition (run_state run).buffer run.form (run_tree run) (run_layout run)) where
  file_views : ViewsOf run (file_of (edition_by run.edition) p.held run.form ++ p.after)
  file_views r h strings entries a b zero view v =
      let z = file_view_root (edition_by run.edition) p.held run.form p.after p.held_lawful h strings entries a b v in
      record { multiple = rw z; root = λ _. z; described = λ lo. absurd (omega arith); place = λ lo. absurd (omega arith) }
  file_views r h strings entries a b (suc k) view v =
      let (hi, is) = file_view (edition_by run.edition) p.held run.form p.after p.held_lawful h strings entries a b (suc k) v (omega arith) in
      record {
        multiple = rw is (p.multiples (suc k) (omega arith) hi);
        root = λ q. absurd (omega arith);
        described = λ lo. omega (arith, hi, ap length p.places, length-map p.held.entries offset_of);
        place = λ lo. is ∙ offset_at p.held.entries (suc k) lo ∙ ap (λ (l : List ℕ). get_or l (suc k - 1) 0) p.places;
      }

views_aligned : ViewsAligned
views_aligned run c = let p = placed run c in subst (ViewsOf run) (sym p.file) (file_views run p)

-- ---- The file.

by_stores : (e : Edition) (end : ℕ) (tree : Tree) {n : ℕ} → n ≡ size_of end tree → n + header_size e ≡ end + close_needs e tree
unfolding size_of close_needs
by_stores e end tree h = omega arith

-- The bytes after the file are those before begin.
after_by : (a : Answer ℕ) (run : Run) → (run_begin run).answer ≡ a → run_closed run ≡ true
    → drop (size_of (run_layout run).end (run_tree run)) (run_state run).buffer ≡ drop (size_of (run_layout run).end (run_tree run)) run.buffer
unfolding size_of
after_by (accepted n) run h c =
    let size = size_of (run_layout run).end (run_tree run) in
    let none = no_data (header_size (edition_by run.edition)) in
    let later = stores_of (run_start run) run.calls in
    let first : Below size (run_begin run).stores =
    subst (Below size) (sym (begin_stores_lem run h)) (omega (arith, end_least none run.calls (run_answers run), header_least (edition_by run.edition)), tt) in
    ap (drop size) (run_buffer run)
    ∙ below_drop size run.buffer (run_stores run)
    (below_append size (run_begin run).stores later first (run_inside run.calls (run_start run) [] none (begin_invariant run h) c))
after_by (refused t) run h c = absurd (true≢false (sym c ∙ none_closed run t h))

after_kept : (run : Run) → run_closed run ≡ true
    → drop (size_of (run_layout run).end (run_tree run)) (run_state run).buffer ≡ drop (size_of (run_layout run).end (run_tree run)) run.buffer
after_kept run c = after_by (run_begin run).answer run refl c

files_described : FilesDescribed
files_described run c =
    let p = placed run c in
    let e = edition_by run.edition in
    let is : file_of e p.held run.form ≡ described_file run = ap (λ (x : FileContents). file_of e x run.form) p.described in
    let size = sym (ap length is) ∙ p.size in
    let buffer : (run_state run).buffer ≡ described_file run ++ p.after = p.file ∙ ap (λ (l : List ℕ). l ++ p.after) is in
    let rest : p.after ≡ drop (length (described_file run)) run.buffer =
    sym (drop-append_seam (described_file run) p.after)
    ∙ ap (drop (length (described_file run))) (sym buffer)
    ∙ ap (λ (n : ℕ). drop n (run_state run).buffer) size
    ∙ after_kept run c
    ∙ ap (λ (n : ℕ). drop n run.buffer) (sym size) in
    let stored : part (header_size e) (length (run_layout run).stored) (run_state run).buffer ≡ (run_layout run).stored =
    rw (p.file, ← ap (λ (x : FileContents). x.stored) p.described) (file_stored e p.held run.form p.after p.held_lawful) in
    record { stored = stored; buffer = buffer ∙ ap (λ (l : List ℕ). described_file run ++ l) rest; size = size; by_close = by_stores e (run_layout run).end (run_tree run) size }

-- ---- The buffer.

wrong_never : (answers : List (Answer ℕ)) → AllWrongRecord answers → NoneBy 21 answers
wrong_never [] h = tt
wrong_never (a ∷ answers) h = (other a h.0, wrong_never answers h.1)
  where
    other : (a : Answer ℕ) → a ≡ refused (refusal 24) → NotBy 21 a
    other a e t g n = let q : refusal 24 ≡ t = cc in let z : ◌≡◌ {A = ℕ} 24 21 = ap (λ (x : RefusalCode). x.number) q ∙ n in omega arith

module _ (run : Run) (f : header_size (edition_by run.edition) + most_added_by run.calls ≤ length run.buffer) where
  begin_never : NotBy 21 (run_begin run).answer
  unfolding begin_step begin_answer
  begin_never t h n =
      let q = check_reported 21
      (check (begin_lengths_wrong run.buffer run.form run.text run.tree) (refusal 1) ∷ check (not (names_written run.edition)) (refusal 3) ∷ [])
      refl (ltb (length run.buffer) (header_size (edition_by run.edition))) (refusal 21) (check (ltb run.allowance 1) (refusal_at 23 run.allowance) ∷ []) refl 1 h (eq-eqb t.number 21 n) in
      true≢false (sym q.1 ∙ le-ltb (length run.buffer) (header_size (edition_by run.edition)) (omega arith))

  size_now : size_of (header_size (edition_by run.edition)) [] + most_added_by run.calls ≤ length run.buffer
  size_now = omega (arith, no_size (header_size (edition_by run.edition)))

  never_by : (a : Answer ℕ) → (run_begin run).answer ≡ a → NoneBy 21 (run_answers run)
  never_by (accepted n) h =
      answers_fit run.calls (run_start run) (edition_by run.edition) (length run.buffer) false (header_size (edition_by run.edition)) [] size_now (run_from_tree run h)
  never_by (refused t) h = go (eqb t.number 23) refl
    where
      go : (b : Bool) → eqb t.number 23 ≡ b → NoneBy 21 (run_answers run)
      go true e =
          answers_fit run.calls (run_start run) (edition_by run.edition) (length run.buffer) true (header_size (edition_by run.edition)) [] size_now (run_spent run t h e)
      go false e = wrong_never (run_answers run) (run_refused run t h e).0

pub buffer_suffices : BufferSuffices
buffer_suffices run f = (begin_never run f, never_by run f (run_begin run).answer refl)

pub data_places : DataPlaces
data_places =
    record {
      next_multiple = λ n. record { multiple = aligned_multiple n; above = aligned_above n; lowest = aligned_lowest n };
      views_aligned = views_aligned;
      files_described = files_described;
      end_bounds = λ run.
          let none = no_data (header_size (edition_by run.edition)) in
          record { least = end_least none run.calls (run_answers run); most = end_most none run.calls (run_answers run) };
      buffer_suffices = buffer_suffices;
      in_any_order = most_swapped;
    }
