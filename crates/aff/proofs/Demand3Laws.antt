-- Demand 3 from the laws of runs: the tree by `closed_shows` and `run_holds`, the kill by `run_shape`, since a buffer with a zero at place 0 is refused by 3. A begin
-- that is refused stores nothing. Assumes nothing.
use mathlib.Core.Path.{◌≡◌, refl, sym, ap, ◌∙◌, subst}
use mathlib.Core.Bool.{true, false, true≢false}
use mathlib.Core.List.{List, [], ◌∷◌, ◌++◌}
use Prim.Native.Nat.{ℕ, zero, suc, ◌≤◌, ◌<◌}
use native.Mathlib.Omega.{arith}
use lib.ListN.{length, get_or, set, take}
use lib.Seq.{take-length, get_or-set_same}
use borrow.Author.Tests.{le-ltb}
use Rattle.aff_format.specs.Answer.{Answer, accepted, refused, refusal}
use Rattle.aff_format.specs.Edition.{signature_text, header_size, least_header, is_known, edition_by}
use Rattle.aff_format.specs.declared.edition.Edition.{Edition}
use Rattle.std.specs.Prelude.{Option, Some, None}
use Rattle.aff_format.proofs.EditionLaws.{first_byte, header_least}
use Rattle.aff_open.proofs.SectionLaws.{text_known}
use Rattle.aff_format.specs.Limits.{image_limit, string_limit, node_limit}
use Rattle.aff_format.specs.Tree.{Tree}
use Rattle.aff_open.specs.Opening.{up_to_tables, open_checks, open_answer}
use Rattle.aff_open.specs.Sections.{text_edition}
use Rattle.aff_reader.specs.declared.reader.Reader.{Reader}
use Rattle.aff_open.proofs.FaultLaws.{lengths_asks}
use Rattle.aff_areas.specs.Stores.{Store, apply_stores}
use Rattle.aff_areas.specs.Writer.{writer_edition}
use Rattle.aff_areas.proofs.StoreLaws.{apply_append, apply_length}
use Rattle.aff_run.specs.TreeSizes.{non_void_count, size_of}
use Rattle.aff_run.specs.Run.{State, stores_of, DataLayout, no_data, Run, run_begin, run_start, run_stores, run_state, run_tree, run_layout, run_closed}
use Rattle.aff_read.specs.Shows.{Shows}
use Rattle.aff_run.proofs.BeginInvariantLaws.{begin_invariant, begin_edition, begin_form, begin_stores_lem}
use Rattle.aff_run.proofs.BeginRefusedLaws.{none_run, none_closed}
use Rattle.aff_run.proofs.ClosedLaws.{contents, rest, lawful, tree_held, closed, closed_is, closed_shows, closed_counts}
use Rattle.aff_run.proofs.CutLaws.{cut_run_stores, cut_run_buffer, cut_begin, cut_run_answers_before, cut_begin_out, cut_run_answer_out}
use Rattle.aff_run.proofs.InvariantLaws.{Invariant}
use Rattle.aff_run.proofs.PlaceLaws.{FromPlace, after_first, shaped_take, run_shape}
use Rattle.aff_run.proofs.RunLaws.{run_holds}
use Rattle.aff_run.proofs.StepLaws.{run_buffer}
use Rattle.aff.specs.Demand3.{buffer_at, Killed, Demand3, Demand3Cut, DataCounted, FileWritten, FileMade}

-- ---- A buffer with a zero at place 0.

-- It begins with the text of no edition: each text begins with a byte that is not zero.
no_text : (image : List ℕ) (e : Edition) → 1 ≤ length image → get_or image 0 0 ≡ 0 → take 20 image ≡ signature_text e → ⊥
no_text [] e l z h = omega arith
no_text (x ∷ image) e l z h =
    let (rest, is) = first_byte e in
    let q : get_or (take 20 (x ∷ image)) 0 0 ≡ 76 = ap (λ (t : List ℕ). get_or t 0 0) (h ∙ is) in
    omega (arith, q, z)

unknown_text : (image : List ℕ) → 1 ≤ length image → get_or image 0 0 ≡ 0 → is_known (text_edition image) ≡ false
unknown_text image l z = go (text_edition image) refl
  where
    go : (f : Option Edition) → text_edition image ≡ f → is_known f ≡ false
    go (Some e) h = absurd (no_text image e l z (text_known e image h))
    go None h = refl

pub zero_refused : (image form : List ℕ) → length form ≡ 12 → least_header ≤ length image → length image ≤ image_limit → get_or image 0 0 ≡ 0
    → open_answer image form string_limit node_limit ≡ refused (refusal 3)
unfolding open_checks up_to_tables
zero_refused image form f lo hi z =
    rw ((lengths_asks image form string_limit node_limit).1 (f, refl, refl, hi), le-ltb (length image) least_header lo, unknown_text image (omega arith) z)

-- ---- A begin that is refused.

-- All the stores of a run.
all_stored : (run : Run) (k : ℕ) → k ≡ length (run_stores run) → buffer_at run k ≡ apply_stores run.buffer (run_stores run)
all_stored run k q = ap (apply_stores run.buffer) (ap (λ (i : ℕ). take i (run_stores run)) q ∙ take-length (run_stores run))

all_buffer : (run : Run) (k : ℕ) → k ≡ length (run_stores run) → buffer_at run k ≡ (run_state run).buffer
all_buffer run k q = all_stored run k q ∙ sym (run_buffer run)

-- A run that stores nothing and is not closed.
nothing_killed : (run : Run) (k : ℕ) → run_stores run ≡ [] → run_closed run ≡ false → k ≤ length (run_stores run) → Killed run k
unfolding apply_stores
nothing_killed run k e z le =
    let n : length (run_stores run) ≡ 0 = ap length e in
    record {
      none_made = λ q. rw q;
      all_left = all_buffer run k;
      all_made = λ q c. absurd (true≢false (sym c ∙ z));
      otherwise = λ l o lengths f. absurd (omega arith);
    }

-- ---- A begin that is accepted.

-- Opening reports the number of nodes that are not Void.
abbrev Counted : List ℕ → List ℕ → Tree → Type 0
Counted image form tree = (r : Reader) → open_answer image form string_limit node_limit ≡ accepted r → r.records ≡ non_void_count tree

module _ (run : Run) {n : ℕ} (h : (run_begin run).answer ≡ accepted n) where
  abbrev later : List Store
  later = stores_of (run_start run) run.calls

  kept : Invariant (run_start run) [] (no_data (header_size (edition_by run.edition)))
  kept = begin_invariant run h

  sizes : (least_header ≤ length run.buffer) × (length run.buffer ≤ image_limit) × (length run.form ≡ 12)
  unfolding size_of
  sizes =
      let l = apply_length run.buffer (run_begin run).stores in
      let f : length run.form ≡ 12 = ap length (sym (begin_form run h)) ∙ kept.form_length in
      (omega (arith, kept.fits, kept.after_header, kept.buffer_length, header_least (writer_edition (run_start run).writer)), omega (arith, kept.buffer_length, kept.buffer_allowed), f)

  -- What holds of each closed buffer holds of the buffer after all stores.
  pub all_holds : (P : ℕ → List ℕ → List ℕ → Tree → DataLayout → Type 0)
      → ((s : State) (tree : Tree) (layout : DataLayout) (g : Invariant s tree layout) → P s.writer.edition (closed s tree g) s.writer.form tree layout)
      → run_closed run ≡ true → P run.edition (apply_stores run.buffer (run_stores run)) run.form (run_tree run) (run_layout run)
  all_holds P closes c =
      let all = apply_stores run.buffer (run_stores run) in
      let begun = (run_start run).writer in
      let holds : ℕ → List ℕ → List ℕ → Type 0 = λ e r f. P e r f (run_tree run) (run_layout run) in
      subst (λ (e : ℕ). holds e all run.form) (begin_edition run h)
      (subst (λ (f : List ℕ). holds begun.edition all f) (begin_form run h)
      (subst (λ (r : List ℕ). holds begun.edition r begun.form) (sym (apply_append run.buffer (run_begin run).stores later))
      (run_holds P closes run.calls (run_start run) [] (no_data (header_size (edition_by run.edition))) kept c)))

  all_is : run_stores run ≡ record { at = 0; byte = 0 } ∷ later
  all_is = ap (λ (b : List Store). b ++ later) (begin_stores_lem run h)

  -- After the first store the byte at place 0 is zero.
  zero_first : (k : ℕ) → FromPlace (take k later) → get_or (buffer_at run (suc k)) 0 0 ≡ 0
  unfolding apply_stores
  zero_first k p =
      let l = sizes.0 in
      ap (λ (ss : List Store). get_or (apply_stores run.buffer (take (suc k) ss)) 0 0) all_is
      ∙ after_first (set run.buffer 0 0) (take k later) p
      ∙ get_or-set_same run.buffer 0 0 0 (omega arith)

  refused_3 : (k : ℕ) → k ≤ length (run_stores run) → 0 < k → ((k ≡ length (run_stores run)) × (run_closed run ≡ true) → ⊥)
      → (lengths : List ℕ) → length lengths ≡ 12 → open_answer (buffer_at run k) lengths string_limit node_limit ≡ refused (refusal 3)
  refused_3 zero le lo other lengths f = absurd (omega arith)
  refused_3 (suc k) le lo other lengths f =
      let n : length (run_stores run) ≡ suc (length later) = ap length all_is in
      let p : FromPlace (take k later) =
      shaped_take later (run_closed run) k (run_shape run.calls (run_start run) (omega (arith, kept.after_header, header_least (writer_edition (run_start run).writer)))) (λ q. other (omega (arith, q.0), q.1)) (omega arith) in
      let l = apply_length run.buffer (take (suc k) (run_stores run)) in
      zero_refused (buffer_at run (suc k)) lengths f (omega (arith, sizes.0)) (omega (arith, sizes.1)) (zero_first k p)

  killed : (k : ℕ) → k ≤ length (run_stores run) → Killed run k
  unfolding apply_stores
  killed k le =
      record {
        none_made = λ q. rw q;
        all_left = all_buffer run k;
        all_made = λ q c. rw (all_stored run k q) (all_holds (λ _ buffer form tree _. Shows buffer form tree) (λ s tree layout g. closed_shows s tree g) c);
        otherwise = refused_3 k le;
      }

demand3_by : (a : Answer ℕ) (run : Run) (k : ℕ) → (run_begin run).answer ≡ a → k ≤ length (run_stores run) → Killed run k
demand3_by (accepted n) run k h le = killed run h k le
demand3_by (refused t) run k h le = nothing_killed run k (none_run run t h) (none_closed run t h) le

pub demand3 : Demand3
demand3 run k le = demand3_by (run_begin run).answer run k refl le

pub demand3_cut : Demand3Cut
demand3_cut run k =
    record {
      stores = cut_run_stores run k;
      buffer_left = cut_run_buffer run k;
      begins = cut_begin run k;
      answers = cut_run_answers_before run k;
      begin_out = cut_begin_out run k;
      answer_out = cut_run_answer_out run k;
    }

counted_by : (a : Answer ℕ) (run : Run) → (run_begin run).answer ≡ a → run_closed run ≡ true → Counted (run_state run).buffer run.form (run_tree run)
counted_by (accepted n) run h c = rw (run_buffer run) (all_holds run h (λ _ buffer form tree _. Counted buffer form tree) (λ s tree layout g. closed_counts s tree g) c)
counted_by (refused t) run h c = absurd (true≢false (sym c ∙ none_closed run t h))

pub data_counted : DataCounted
data_counted run c = counted_by (run_begin run).answer run refl c

-- ---- The finished file.

file_written : (s : State) (tree : Tree) (layout : DataLayout) (g : Invariant s tree layout) → FileWritten s.writer.edition (closed s tree g) s.writer.form tree
file_written s tree layout g =
    record {
      contents = contents s tree g;
      rest = rest s tree g;
      lawful = lawful s tree g;
      file = closed_is s tree g;
      described = tree_held s tree g;
    }

made_by : (a : Answer ℕ) (run : Run) → (run_begin run).answer ≡ a → run_closed run ≡ true → FileWritten run.edition (run_state run).buffer run.form (run_tree run)
made_by (accepted n) run h c = rw (run_buffer run) (all_holds run h (λ edition buffer form tree _. FileWritten edition buffer form tree) file_written c)
made_by (refused t) run h c = absurd (true≢false (sym c ∙ none_closed run t h))

pub file_made : FileMade
file_made run c = made_by (run_begin run).answer run refl c
