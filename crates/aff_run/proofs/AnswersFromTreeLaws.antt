-- Each call of a run is answered as the tree described so far decides: the writer's checks over its areas agree with the checks over the tree,
-- check by check, each where those before it pass. For a run by induction on the calls, by the answer. Assumes nothing.
use mathlib.Core.Path.{◌≡◌, refl, sym, ap, ap₂, ◌∙◌, subst}
use mathlib.Core.Bool.{Bool, true, false, cond, not, ◌&&◌, ◌||◌}
use mathlib.Core.List.{List, [], ◌∷◌, ◌++◌}
use Prim.Native.Nat.{ℕ, zero, suc, ◌+◌, ◌≤◌, ◌<◌}
use native.Mathlib.Omega.{arith}
use lib.Dec.{eqb, ltb}
use lib.ListN.{length, take, drop, length-append, length-drop}
use lib.Seq.{length-take-le}
use borrow.Author.Tests.{eqb-false, ltb-false, not-false}
use Rattle.aff_format.specs.Align.{padding}
use Rattle.aff_format.specs.Edition.{header_size, edition_by, names_written, NamesWritten}
use Rattle.aff_format.specs.declared.edition.Edition.{Edition}
use Rattle.aff_format.proofs.EditionLaws.{names_written_lem}
use Rattle.aff_format.specs.Answer.{Answer, accepted, refused, Check, check, refusal, unless, first_wrong}
use Rattle.aff_format.specs.Bytes.{same_bytes}
use Rattle.aff_format.specs.Kind.{kind_of, is_void}
use Rattle.aff_format.specs.Limits.{image_limit, string_limit, node_limit, text_area, tree_area}
use Rattle.aff_format.specs.Lowest.{lowest_from, is_at}
use Rattle.aff_format.specs.Tree.{Tree, tree_node}
use Rattle.aff_format.specs.declared.entry.Entry.{Entry}
use Rattle.aff_format.specs.declared.kind.Kind.{Kind}
use Rattle.aff_format.specs.declared.refusal.RefusalCode.{RefusalCode}
use Rattle.aff_format.proofs.LowestLaws.{lowest_same}
use Rattle.aff_format.proofs.TestLaws.{or_false}
use Rattle.aff_areas.specs.Areas.{used_text, entries_out, finished_size}
use Rattle.aff_areas.specs.Belongs.{writer_belongs, writer_sizes_belong, text_belongs, writer_nodes_belong}
use Rattle.aff_areas.specs.Stores.{apply_stores, stores_from}
use Rattle.aff_areas.specs.Writer.{writer_edition, fresh_writer, stopped}
use Rattle.aff_areas.specs.declared.writer.Writer.{Writer}
use Rattle.aff_areas.proofs.BelongsLaws.{record_belongs, none_belongs}
use Rattle.aff_areas.proofs.StoreLaws.{length_stores_from, apply_length}
use Rattle.aff_write.specs.Begin.{begin_stores}
use Rattle.aff_write.specs.Close.{symbols_place, tree_place, close_header, close_stores, store_checks}
use Rattle.aff_write.proofs.PutLaws.{length_put_stores}
use Rattle.aff_make.specs.Make.{added_text, too_many, is_child, child_exists, child_checks}
use Rattle.aff_write.specs.Put.{takes_none, wrong_data, data_kind, put_place, put_stores, data_checks}
use Rattle.aff_run.specs.TreeSizes.{with_child, with_data, size_of}
use Rattle.aff_run.specs.AnswersFromTree.{has_child, too_large, close_needs, call_checks, call_value, call_answer, stops, AnswersFromTree, AllWrongRecord}
use Rattle.aff_run.specs.Run.{Call, make, put, close, State, Step, step, after_call, answers_of, begin_step, is_accepted, apply_call, DataLayout, no_data, call_end, Run, run_begin, run_start, run_answers, run_stores}
use Rattle.aff_run.proofs.BeginRefusedLaws.{begin_spent, asleep, none_run}
use Rattle.aff_run.proofs.InvariantLaws.{Invariant, used_text_lem, names_in_lem, entry_in_lem, stored_in, name_in, entries_in_lem, sizes_in_bytes, size_in, invariant_belongs}
use Rattle.aff_run.proofs.NamesLaws.{names_snoc}
use Rattle.aff_run.proofs.MakeInvariantLaws.{child, size_child, length_snoc, strings_now, text_now}
use Rattle.aff_run.proofs.PutInvariantLaws.{data_right, size_after}
use Rattle.aff_run.proofs.ClosedLaws.{length_header}
use Rattle.aff_run.proofs.StepLaws.{belongs_in, own_checks, own_value, answer_judged, judged_awake, asleep_step, asleep_next}
use Rattle.aff_run.proofs.RunLaws.{step_edition, step_end, Sleeps, sleeps_asleep, Outcome, goes_on_lem, ends, outcome}
use Rattle.aff_run.proofs.BeginInvariantLaws.{begin_edition, begin_end, lengths_right, empty_invariant, begin_invariant}

-- ---- Checks that agree.

-- Check by check, each where those before it pass.
abbrev Agree : List Check → List Check → Type 0
Agree [] [] = Unit {0}
Agree [] (d ∷ ds) = ⊥
Agree (c ∷ cs) [] = ⊥
Agree (check a q ∷ cs) (check b r ∷ ds) = (a ≡ b) × (q ≡ r) × (b ≡ false → Agree cs ds)

agreed : (cs ds : List Check) (v : ℕ) → Agree cs ds → first_wrong cs v ≡ first_wrong ds v
agreed [] [] v h = refl
agreed [] (d ∷ ds) v h = absurd h
agreed (c ∷ cs) [] v h = absurd h
agreed (check a q ∷ cs) (check b r ∷ ds) v h = go b h.0 h.1 (λ e. agreed cs ds v (h.2 e))
  where
    go : (b : Bool) → a ≡ b → q ≡ r → (b ≡ false → first_wrong cs v ≡ first_wrong ds v) → unless a q (first_wrong cs v) ≡ unless b r (first_wrong ds v)
    go true e t next = rw (e, t)
    go false e t next = rw e (next refl)

three_over : {a a' b b' c c' : ℕ} → a ≡ a' → b ≡ b' → c ≡ c'
    → (ltb node_limit a || (ltb string_limit b || ltb text_area c)) ≡ (ltb node_limit a' || (ltb string_limit b' || ltb text_area c'))
three_over p q r = rw (p, q, r)

-- The stores of a close, by what they store.
stores_length : (p q : ℕ) (x e h : List ℕ) → 1 ≤ length h
    → length ((stores_from p x ++ stores_from q e) ++ (stores_from 1 (drop 1 h) ++ stores_from 0 (take 1 h))) ≡ length x + length e + length h
stores_length p q x e h l =
    simp (length-append, length_stores_from) (omega (arith, length-drop 1 h, length-take-le 1 h l))

-- ---- In a state with the invariant.

module _ (s : State) (tree : Tree) {layout : DataLayout} (g : Invariant s tree layout) where
  it_belongs : belongs_in s ≡ true
  it_belongs = record_belongs (invariant_belongs s tree g)

  -- ---- Make.

  child_at : (parent : ℕ) (name : List ℕ) (j : ℕ) → 0 < j → j ≤ length tree
      → is_child s.writer s.text s.tree parent name j ≡ (eqb (tree_node tree j).parent parent && same_bytes (tree_node tree j).name name)
  child_at parent name j lo hi =
      ap₂ (λ (p : ℕ) (x : List ℕ). eqb p parent && same_bytes x name)
      (ap (λ (e : Entry). e.parent) (entry_in_lem s tree g j hi) ∙ (stored_in s tree g j lo hi).parent_is)
      (name_in s tree g j lo hi)

  child_same : (parent : ℕ) (name : List ℕ) → child_exists s.writer s.text s.tree parent name ≡ has_child tree parent name
  unfolding child_exists has_child
  child_same parent name =
      ap (λ (n : ℕ). is_at (lowest_from (is_child s.writer s.text s.tree parent name) n 1)) g.nodes_count
      ∙ ap is_at
      (lowest_same (is_child s.writer s.text s.tree parent name) (λ (k : ℕ). eqb (tree_node tree k).parent parent && same_bytes (tree_node tree k).name name)
      (length tree) 1 (λ j lo hi. child_at parent name j (omega arith) (omega arith)))

  many_same : (parent : ℕ) (name : List ℕ) → too_many s.writer s.text name ≡ too_large (with_child tree parent name)
  unfolding too_many too_large
  many_same parent name =
      rw (names_snoc tree (child parent name), length_snoc tree (child parent name)) (three_over (ap (λ (n : ℕ). n + 1) g.nodes_count) (strings_now s tree g name) (text_now s tree g name))

  child_size : (parent : ℕ) (name : List ℕ)
      → ltb s.writer.length (finished_size s.writer s.tree + 13 + added_text s.writer s.text name) ≡ ltb (length s.buffer) (size_of s.writer.end (with_child tree parent name))
  child_size parent name =
      let e : finished_size s.writer s.tree + 13 + added_text s.writer s.text name ≡ size_of s.writer.end (with_child tree parent name) =
      rw (size_in s tree g, names_in_lem s tree g) (sym (size_child s.writer.end tree parent name)) in
      ap₂ ltb (sym g.buffer_length) e

  make_agrees : (parent : ℕ) (name : List ℕ) → Agree (child_checks s.writer s.text s.tree parent name) (call_checks (writer_edition s.writer) (length s.buffer) s.writer.end tree (make parent name))
  make_agrees parent name = (
    ap (λ (n : ℕ). ltb n parent) g.nodes_count,
    refl,
    λ a. (refl, refl, λ b. (child_same parent name, refl, λ c. (many_same parent name, refl, λ d. (child_size parent name, refl, λ e. tt)))),
  )

  -- ---- Put.

  put_needs : (bytes : List ℕ) → length (put_stores s.writer bytes) ≡ padding s.writer.end + length bytes
  put_needs = length_put_stores s.writer

  takes_same : (node : ℕ) → node ≤ length tree → takes_none s.tree node ≡ (eqb node 0 || not (is_void (tree_node tree node).kind))
  unfolding takes_none
  takes_same zero hi = refl
  takes_same (suc k) hi =
      ap (λ (v : Kind). eqb (suc k) 0 || not (is_void v)) (ap (λ (e : Entry). e.kind) (entry_in_lem s tree g (suc k) hi) ∙ (stored_in s tree g (suc k) (omega arith) hi).kind_is)

  data_size_lem : (node type : ℕ) (bytes : List ℕ) → ltb (length tree) node ≡ false → (eqb node 0 || not (is_void (tree_node tree node).kind)) ≡ false
      → wrong_data (kind_of type) (length bytes) ≡ false
      → ltb s.writer.length (finished_size s.writer s.tree + 12 + padding s.writer.end + length bytes) ≡ ltb (length s.buffer) (size_of (put_place s.writer + length bytes) (with_data tree node (data_kind (kind_of type)) bytes))
  data_size_lem node type bytes there takes right =
      let a = or_false (eqb node 0) (not (is_void (tree_node tree node).kind)) takes in
      let f = eqb-false node 0 a.0 in
      let e : finished_size s.writer s.tree + 12 + padding s.writer.end + length bytes ≡ size_of (put_place s.writer + length bytes) (with_data tree node (data_kind (kind_of type)) bytes) =
      ap (λ (n : ℕ). n + 12 + padding s.writer.end + length bytes) (size_in s tree g)
      ∙ sym
      (size_after tree node (data_kind (kind_of type)) bytes (omega (arith, f)) (ltb-false (length tree) node there) (not-false (is_void (tree_node tree node).kind) a.1)
      (data_right (kind_of type) (length bytes) right).0 s.writer.end) in
      ap₂ ltb (sym g.buffer_length) e

  put_agrees : (node type : ℕ) (bytes : List ℕ) (allowance : ℕ)
      → Agree (data_checks s.writer s.tree node type bytes allowance) (call_checks (writer_edition s.writer) (length s.buffer) s.writer.end tree (put node type bytes allowance))
  put_agrees node type bytes allowance = (
    ap (λ (n : ℕ). ltb n node) g.nodes_count,
    refl,
    λ a. (
      takes_same node (ltb-false (length tree) node a),
      refl,
      λ b. (
        refl,
        refl,
        λ c. (
          data_size_lem node type bytes a b c,
          refl,
          λ d. (ap (ltb allowance) (put_needs bytes), refl, λ e. tt),
        ),
      ),
    ),
  )

  -- ---- Close.

  close_needs_lem : length (close_stores s.buffer s.writer s.text s.tree) ≡ close_needs (writer_edition s.writer) tree
  unfolding close_stores close_needs
  close_needs_lem =
      let h = length_header s tree g in
      stores_length (symbols_place s.writer) (tree_place s.writer) (used_text s.writer s.text) (entries_out s.tree s.writer.nodes)
      (close_header s.buffer s.writer s.text s.tree) (omega arith)
      ∙ omega (arith, ap length (used_text_lem s tree g), ap length (entries_in_lem s tree g), sizes_in_bytes s tree g)

  close_agrees : (allowance : ℕ) → Agree (store_checks s.buffer s.writer s.text s.tree allowance) (call_checks (writer_edition s.writer) (length s.buffer) s.writer.end tree (close allowance))
  close_agrees allowance = (ap (ltb allowance) close_needs_lem, refl, λ a. tt)

  -- ---- Any call.

  agrees : (c : Call) → Agree (own_checks s c) (call_checks (writer_edition s.writer) (length s.buffer) s.writer.end tree c)
  agrees (make parent name) = make_agrees parent name
  agrees (put node type bytes allowance) = put_agrees node type bytes allowance
  agrees (close allowance) = close_agrees allowance

  value_same : (c : Call) → own_value s c ≡ call_value (writer_edition s.writer) (length s.buffer) s.writer.end tree c
  value_same (make parent name) = ap (λ (n : ℕ). n + 1) g.nodes_count
  value_same (put node type bytes allowance) = put_needs bytes
  value_same (close allowance) = close_needs_lem

  step_answer : (c : Call) → (step s c).answer ≡ call_answer (writer_edition s.writer) (length s.buffer) s.writer.end tree c
  step_answer c =
      let own = own_checks s c in
      answer_judged s c
      ∙ judged_awake (belongs_in s) s.writer.live it_belongs g.live own (own_value s c)
      ∙ ap (first_wrong own) (value_same c)
      ∙ agreed own (call_checks (writer_edition s.writer) (length s.buffer) s.writer.end tree c) (call_value (writer_edition s.writer) (length s.buffer) s.writer.end tree c) (agrees c)

-- ---- A writer that sleeps.

-- Whether a record belongs does not depend on whether it is live.
belongs_stopped : (size : ℕ) (writer : Writer) (text tree : List ℕ) → writer_belongs size (stopped writer) text tree ≡ writer_belongs size writer text tree
unfolding writer_belongs writer_sizes_belong text_belongs writer_nodes_belong finished_size
belongs_stopped size writer text tree = refl

-- One that belongs answers 22, whatever the buffer and the tree.
answers_asleep : (cs : List Call) (s : State) (ed : Edition) (size end : ℕ) (tree : Tree) → s.writer.live ≡ false
    → belongs_in s ≡ true → AnswersFromTree ed size true end tree cs (answers_of s cs)
answers_asleep [] s ed size end tree h b = tt
answers_asleep (c ∷ cs) s ed size end tree h b = (
  ap (λ (t : Step). t.answer) (asleep_step s h c) ∙ ap (λ (x : Bool). refused (cond x (refusal 22) (refusal 24))) b,
  rw (asleep_next s h c, asleep_step s h c) (answers_asleep cs s ed size end tree h b),
)

-- One that does not belong answers 24.
wrong_asleep : (cs : List Call) (s : State) → s.writer.live ≡ false
    → belongs_in s ≡ false → AllWrongRecord (answers_of s cs)
wrong_asleep [] s h b = tt
wrong_asleep (c ∷ cs) s h b = (
  ap (λ (t : Step). t.answer) (asleep_step s h c) ∙ ap (λ (x : Bool). refused (cond x (refusal 22) (refusal 24))) b,
  rw (asleep_next s h c) (wrong_asleep cs s h b),
)

-- A writer that a call closed or stopped still belongs.
sleeps_belong : (s : State) (t : Step) → Sleeps s t → belongs_in s ≡ true
    → writer_belongs (length (apply_stores s.buffer t.stores)) t.writer t.text t.tree ≡ true
sleeps_belong s t z b =
    rw (apply_length s.buffer t.stores, z.0, z.1, z.2) (belongs_stopped (length s.buffer) s.writer s.text s.tree ∙ b)

-- ---- The calls.

-- What is shown of a list of calls, from any state with the invariant.
abbrev AnswersFrom : List Call → Type 0
AnswersFrom cs = (s : State) (tree : Tree) (layout : DataLayout) → Invariant s tree layout
    → AnswersFromTree (writer_edition s.writer) (length s.buffer) false s.writer.end tree cs (answers_of s cs)

module _ (s : State) (tree : Tree) (layout : DataLayout) (g : Invariant s tree layout) (c : Call) (cs : List Call) (later : AnswersFrom cs) where
  -- The same, after call c.
  abbrev AnswersAfter : Bool → ℕ → ℕ → ℕ → Tree → Type 0
  AnswersAfter asleep edition size end after = AnswersFromTree (edition_by edition) size asleep end after cs (answers_of (after_call s c) cs)

  by_step : Outcome s tree layout c
      → AnswersAfter (stops c (step s c).answer) s.writer.edition (length s.buffer) (call_end s.writer.end c (is_accepted (step s c).answer))
      (apply_call tree c (is_accepted (step s c).answer))
  by_step (goes_on_lem e kept rest) =
      let after = apply_call tree c (is_accepted (step s c).answer) in
      let n = after_call s c in
      rw e
      (subst (λ (end : ℕ). AnswersAfter false s.writer.edition (length s.buffer) end after) (step_end s c)
      (subst (λ (d : ℕ). AnswersAfter false d (length s.buffer) n.writer.end after) (step_edition s c)
      (subst (λ (r : ℕ). AnswersAfter false n.writer.edition r n.writer.end after) (apply_length s.buffer (step s c).stores) (later n _ _ kept))))
  by_step (ends e t o z) =
      rw (e, t)
      (answers_asleep cs (after_call s c) (writer_edition s.writer) (length s.buffer) (call_end s.writer.end c (is_accepted (step s c).answer)) tree (sleeps_asleep s c z)
      (sleeps_belong s (step s c) z (it_belongs s tree g)))

answers_run : (cs : List Call) → AnswersFrom cs
answers_run [] s tree layout g = tt
answers_run (c ∷ cs) s tree layout g = (step_answer s tree g c, by_step s tree layout g c cs (answers_run cs) (outcome s tree g c))

-- ---- A whole run, by what its begin answers.

-- The record that it leaves belongs: over areas that were not cleared, since it records no string and no node.
begin_belongs : (edition size : ℕ) (buffer form text tree : List ℕ) → length buffer ≡ size → length form ≡ 12 → length text ≡ text_area → length tree ≡ tree_area → size ≤ image_limit
    → NamesWritten edition → header_size (edition_by edition) ≤ size → writer_belongs (length buffer) (stopped (fresh_writer edition size form)) text tree ≡ true
begin_belongs edition size buffer form text tree n f x t few named large =
    belongs_stopped (length buffer) (fresh_writer edition size form) text tree
    ∙ it_belongs (record { writer = fresh_writer edition size form; text = text; tree = tree; buffer = buffer }) []
    (empty_invariant edition size buffer form text tree n f x t few named large)

module _ (run : Run) where
  -- Of an edition, in a buffer of so many bytes, stopped or not, where the data end at `end`.
  abbrev AnswersIn : Bool → ℕ → ℕ → ℕ → Type 0
  AnswersIn stopped edition size end = AnswersFromTree (edition_by edition) size stopped end [] run.calls (run_answers run)

  pub run_from_tree : {n : ℕ} → (run_begin run).answer ≡ accepted n → AnswersIn false run.edition (length run.buffer) (header_size (edition_by run.edition))
  run_from_tree h =
      let begun = (run_start run).writer in
      subst (AnswersIn false run.edition (length run.buffer)) (begin_end run h)
      (subst (λ (n : ℕ). AnswersIn false n (length run.buffer) begun.end) (begin_edition run h)
      (subst (λ (r : ℕ). AnswersIn false begun.edition r begun.end) (apply_length run.buffer (run_begin run).stores)
      (answers_run run.calls (run_start run) [] (no_data (header_size (edition_by run.edition))) (begin_invariant run h))))

  module _ (t : RefusalCode) (h : (run_begin run).answer ≡ refused t) where
    module _ (spent : eqb t.number 23 ≡ true) where
      spent_belongs : belongs_in (run_start run) ≡ true
      unfolding begin_step
      spent_belongs =
          let clear = (begin_spent run t h spent).0 in
          let a = lengths_right run.buffer run.form run.text run.tree clear.0 in
          rw (h, spent)
          (begin_belongs run.edition (length run.buffer) (apply_stores run.buffer (take t.place begin_stores)) run.form run.text run.tree
          (apply_length run.buffer (take t.place begin_stores)) a.0 a.1 a.2 a.3
          (names_written_lem run.edition (not-false (names_written run.edition) clear.1.0))
          (ltb-false (length run.buffer) (header_size (edition_by run.edition)) clear.1.1.0))

      pub run_spent : AnswersIn true run.edition (length run.buffer) (header_size (edition_by run.edition))
      run_spent =
          answers_asleep run.calls (run_start run) (edition_by run.edition) (length run.buffer) (header_size (edition_by run.edition)) [] (asleep run t h) spent_belongs

    module _ (other : eqb t.number 23 ≡ false) where
      none_here : belongs_in (run_start run) ≡ false
      unfolding begin_step
      none_here = rw (h, other) (none_belongs (length (apply_stores run.buffer [])) run.text run.tree)

      pub run_refused : AllWrongRecord (run_answers run) × (run_stores run ≡ [])
      run_refused = (wrong_asleep run.calls (run_start run) (asleep run t h) none_here, none_run run t h)

-- ---- The answers by computation.

abbrev pub expected : Edition → ℕ → Bool → ℕ → Tree → List Call → List (Answer ℕ)
expected e size resting end tree [] = []
expected e size resting end tree (c ∷ cs) =
    let a = cond resting (refused (refusal 22)) (call_answer e size end tree c) in
    a ∷ expected e size (resting || stops c a) (call_end end c (is_accepted a)) (apply_call tree c (is_accepted a)) cs

pub answers_expected : (cs : List Call) (e : Edition) (size : ℕ) (resting : Bool) (end : ℕ) (tree : Tree) (answers : List (Answer ℕ)) → length answers ≡ length cs
    → AnswersFromTree e size resting end tree cs answers → answers ≡ expected e size resting end tree cs
answers_expected [] e size resting end tree [] n h = refl
answers_expected [] e size resting end tree (a ∷ answers) n h = absurd (omega arith)
answers_expected (c ∷ cs) e size resting end tree [] n h = absurd h
answers_expected (c ∷ cs) e size resting end tree (a ∷ answers) n h =
    ap₂ (λ (x : Answer ℕ) (xs : List (Answer ℕ)). x ∷ xs) h.0
    (answers_expected cs e size (resting || stops c a) (call_end end c (is_accepted a)) (apply_call tree c (is_accepted a)) answers (omega arith) h.1
    ∙ ap (λ (x : Answer ℕ). expected e size (resting || stops c x) (call_end end c (is_accepted x)) (apply_call tree c (is_accepted x)) cs) h.0)
