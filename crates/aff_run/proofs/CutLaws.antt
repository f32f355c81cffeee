-- A run whose allowances give out after some number of stores makes exactly that many first stores of the uncut run, and answers the same before
-- that point. By induction on the calls: each step is the uncut one, or it makes all the stores that are left and stops the writer. Assumes nothing.
use mathlib.Core.Path.{◌≡◌, refl, sym, ap, ap₂, ◌∙◌}
use mathlib.Core.Bool.{Bool, true, false, cond, not}
use mathlib.Core.List.{List, [], ◌∷◌, ◌++◌, append-nil}
use Prim.Native.Nat.{ℕ, ◌+◌, ◌-◌, ◌≤◌, ◌<◌, min}
use native.Mathlib.Omega.{arith}
use lib.Dec.{eqb, ltb}
use lib.ListN.{length, take, drop, length-append}
use lib.Seq.{take_all, take-nil, take-take, take-append-le, length-take-le}
use borrow.Author.Tests.{ltb-true, ltb-false, lt-ltb, le-ltb}
use Rattle.aff_format.specs.Edition.{header_size, edition_by, names_written}
use Rattle.aff_format.specs.Align.{padding}
use Rattle.aff_format.specs.Answer.{Answer, accepted, refused, Check, check, refusal, refusal_at, first_wrong}
use Rattle.aff_format.specs.Kind.{kind_of}
use Rattle.aff_format.specs.declared.refusal.RefusalCode.{RefusalCode}
use Rattle.aff_format.proofs.AnswerLaws.{refused_before, passed_before, Others, others_reported}
use Rattle.aff_areas.specs.Areas.{finished_size}
use Rattle.aff_areas.specs.Belongs.{writer_checks}
use Rattle.aff_areas.specs.Stores.{Store, apply_stores, stores_from, stores_reported}
use Rattle.aff_areas.proofs.StoreLaws.{take_append, length_take_most}
use Rattle.aff_write.specs.Begin.{begin_lengths_wrong, begin_stores, begin_answer, begin_writer, begin_area}
use Rattle.aff_write.specs.Close.{close_stores, close_answer}
use Rattle.aff_write.specs.Put.{takes_none, wrong_data, put_stores, put_answer}
use Rattle.aff_run.specs.Run.{Call, make, put, close, State, Step, next, begin_step, answer_to, step_by, step, after_call, answers_of, stores_of, Run, with_calls, run_begin, run_start, run_answers, run_stores, run_state}
use Rattle.aff_run.specs.Cut.{limited, limit_calls, cut}
use Rattle.aff_run.proofs.StepLaws.{asleep_step, asleep_next, run_buffer}

-- ---- One step with its own allowance, and with what is left where that is less.

-- The two are alike and the stores suffice; or the stores that are left are all made, more were wanted, the answer is 23 with their number, and the
-- writer sleeps.
data Compared (lengths full : Step) (left : ℕ) : Type 0 where
  alike : lengths ≡ full → length full.stores ≤ left → Compared lengths full left
  gives_out : lengths.stores ≡ take left full.stores → left < length full.stores → lengths.answer ≡ refused (refusal_at 23 left) → lengths.writer.live ≡ false
      → Compared lengths full left

-- A call judges its allowance last.
module _ (before : List Check) (none : Others 23 before) (all : List Store) where
  abbrev judged : ℕ → Answer ℕ
  judged allowance = first_wrong (before ++ (check (ltb allowance (length all)) (refusal_at 23 allowance) ∷ [])) (length all)

  refused_judged : (t : RefusalCode) (allowance : ℕ) → first_wrong {A = ℕ} before 0 ≡ refused t → judged allowance ≡ refused t
  refused_judged t allowance e = refused_before before (check (ltb allowance (length all)) (refusal_at 23 allowance) ∷ []) 0 (length all) e

  suffices : (c allowance : ℕ) → first_wrong before 0 ≡ accepted c → length all ≤ allowance → judged allowance ≡ accepted (length all)
  suffices c allowance e h =
      passed_before before (check (ltb allowance (length all)) (refusal_at 23 allowance) ∷ []) 0 (length all) e ∙ rw (le-ltb allowance (length all) h)

  spends : (c allowance : ℕ) → first_wrong before 0 ≡ accepted c → allowance < length all → judged allowance ≡ refused (refusal_at 23 allowance)
  spends c allowance e h =
      passed_before before (check (ltb allowance (length all)) (refusal_at 23 allowance) ∷ []) 0 (length all) e ∙ rw (lt-ltb allowance (length all) h)

  -- As many stores are made as are reported.
  reported_made : (allowance : ℕ) → length (take (stores_reported (judged allowance)) all) ≡ stores_reported (judged allowance)
  reported_made allowance = by_checks (first_wrong before 0) refl
    where
      by_number : (c : ℕ) → first_wrong before 0 ≡ accepted c → (b : Bool) → ltb allowance (length all) ≡ b
          → length (take (stores_reported (judged allowance)) all) ≡ stores_reported (judged allowance)
      by_number c e true l =
          let h : allowance < length all = ltb-true allowance (length all) l in
          rw (spends c allowance e h) (length-take-le allowance all (omega arith))
      by_number c e false l = rw (suffices c allowance e (ltb-false allowance (length all) l)) (length-take-le (length all) all (omega arith))

      by_checks : (a : Answer ℕ) → first_wrong before 0 ≡ a → length (take (stores_reported (judged allowance)) all) ≡ stores_reported (judged allowance)
      by_checks (accepted c) e = by_number c e (ltb allowance (length all)) refl
      by_checks (refused t) e = rw (refused_judged t allowance e, others_reported 23 before none 0 e)

  -- Its step goes by its answer.
  module _ (by : Answer ℕ → Step) (answers : (a : Answer ℕ) → (by a).answer ≡ a) (made : (a : Answer ℕ) → (by a).stores ≡ take (stores_reported a) all)
      (stops : (t : RefusalCode) → eqb t.number 23 ≡ true → (by (refused t)).writer.live ≡ false) (allowance left : ℕ) where
    alike_by : (a : Answer ℕ) → judged (min allowance left) ≡ a → judged allowance ≡ a → length (take (stores_reported a) all) ≤ left
        → Compared (by (judged (min allowance left))) (by (judged allowance)) left
    alike_by a e f h = rw (e, f) (alike refl (rw (made a) h))

    gives_out_by : (a : Answer ℕ) → judged (min allowance left) ≡ refused (refusal_at 23 left) → judged allowance ≡ a → left < length (take (stores_reported a) all)
        → Compared (by (judged (min allowance left))) (by (judged allowance)) left
    gives_out_by a e f h =
        let n : left ≤ stores_reported a = omega (arith, length_take_most (stores_reported a) all) in
        let same : take left (take (stores_reported a) all) ≡ take left all = take-take left (stores_reported a) all n in
        let first : (by (refused (refusal_at 23 left))).stores ≡ take left (by a).stores = made (refused (refusal_at 23 left)) ∙ sym same ∙ ap (take left) (sym (made a)) in
        rw (e, f) (gives_out first (rw (made a) h) (answers (refused (refusal_at 23 left))) (stops (refusal_at 23 left) refl))

    by_numbers : (c : ℕ) → first_wrong before 0 ≡ accepted c → (small less : Bool) → ltb allowance (length all) ≡ small → ltb left (cond small allowance (length all)) ≡ less
        → Compared (by (judged (min allowance left))) (by (judged allowance)) left
    by_numbers c e true true s l =
        let h : allowance < length all = ltb-true allowance (length all) s in
        let k : left < allowance = ltb-true left allowance l in
        let m : min allowance left ≡ left = omega arith in
        gives_out_by (refused (refusal_at 23 allowance)) (rw m (spends c left e (omega arith))) (spends c allowance e h) (omega (arith, length-take-le allowance all (omega arith)))
    by_numbers c e true false s l =
        let h : allowance < length all = ltb-true allowance (length all) s in
        let k : allowance ≤ left = ltb-false left allowance l in
        let m : min allowance left ≡ allowance = omega arith in
        alike_by (refused (refusal_at 23 allowance)) (rw m (spends c allowance e h)) (spends c allowance e h) (omega (arith, length_take_most allowance all))
    by_numbers c e false true s l =
        let h : length all ≤ allowance = ltb-false allowance (length all) s in
        let k : left < length all = ltb-true left (length all) l in
        let m : min allowance left ≡ left = omega arith in
        gives_out_by (accepted (length all)) (rw m (spends c left e k)) (suffices c allowance e h) (omega (arith, length-take-le (length all) all (omega arith)))
    by_numbers c e false false s l =
        let h : length all ≤ allowance = ltb-false allowance (length all) s in
        let k : length all ≤ left = ltb-false left (length all) l in
        alike_by (accepted (length all)) (suffices c (min allowance left) e (omega arith)) (suffices c allowance e h) (omega (arith, length_take_most (length all) all))

    by_checks : (a : Answer ℕ) → first_wrong before 0 ≡ a → Compared (by (judged (min allowance left))) (by (judged allowance)) left
    by_checks (accepted c) e = by_numbers c e (ltb allowance (length all)) (ltb left (cond (ltb allowance (length all)) allowance (length all))) refl refl
    by_checks (refused t) e =
        alike_by (refused t) (refused_judged t (min allowance left) e) (refused_judged t allowance e) (rw (others_reported 23 before none 0 e) (omega arith))

    compared : Compared (by (judged (min allowance left))) (by (judged allowance)) left
    compared = by_checks (first_wrong before 0) refl

-- Where the stores suffice, the step is the same.
enough : {lengths full : Step} {left : ℕ} → Compared lengths full left → length full.stores ≤ left → lengths ≡ full
enough (alike e h) k = e
enough (gives_out e h reported asleep) k = absurd (omega arith)

-- Where they do not, it answers 23 and reports them.
gave_out : {lengths full : Step} {left : ℕ} → Compared lengths full left → left < length full.stores → lengths.answer ≡ refused (refusal_at 23 left)
gave_out (alike e h) k = absurd (omega arith)
gave_out (gives_out e h reported asleep) k = reported

-- ---- The calls.

module _ (s : State) where
  abbrev pub put_before : ℕ → ℕ → List ℕ → List Check
  put_before node type bytes =
      writer_checks (length s.buffer) s.writer s.text s.tree
      ++ (check (ltb s.writer.nodes node) (refusal 15)
      ∷ check (takes_none s.tree node) (refusal 18)
      ∷ check (wrong_data (kind_of type) (length bytes)) (refusal 19)
      ∷ check (ltb s.writer.length (finished_size s.writer s.tree + 12 + padding s.writer.end + length bytes)) (refusal 21)
      ∷ [])

  -- The stores that a call needs and what it leaves do not depend on its allowance.
  step_compared : (c : Call) (left : ℕ) → Compared (step s (limited left c)) (step s c) left
  unfolding step put_answer close_answer
  step_compared (make parent name) left = alike refl (omega (arith, ap length (take-nil {A = Store} (stores_reported (answer_to s (make parent name))))))
  step_compared (put node type bytes allowance) left =
      compared (put_before node type bytes) refl (put_stores s.writer bytes)
      (step_by s (put node type bytes allowance)) (λ a. refl) (λ a. refl) (λ t e. rw e) allowance left
  step_compared (close allowance) left =
      compared (writer_checks (length s.buffer) s.writer s.text s.tree) refl (close_stores s.buffer s.writer s.text s.tree)
      (step_by s (close allowance)) (λ a. refl) (λ a. refl) (λ t e. rw e) allowance left

  -- A put and a close make as many stores as they report; a make makes none.
  pub make_stores : (parent : ℕ) (name : List ℕ) → (step s (make parent name)).stores ≡ []
  unfolding step
  make_stores parent name = take-nil (stores_reported (answer_to s (make parent name)))

  pub put_reports : (node type : ℕ) (bytes : List ℕ) (allowance : ℕ)
      → length (step s (put node type bytes allowance)).stores ≡ stores_reported (step s (put node type bytes allowance)).answer
  unfolding step put_answer
  put_reports node type bytes allowance =
      reported_made (put_before node type bytes) refl (put_stores s.writer bytes) allowance

  pub close_reports : (allowance : ℕ) → length (step s (close allowance)).stores ≡ stores_reported (step s (close allowance)).answer
  unfolding step close_answer
  close_reports allowance =
      reported_made (writer_checks (length s.buffer) s.writer s.text s.tree) refl (close_stores s.buffer s.writer s.text s.tree) allowance

-- So the stores of some calls are counted by their answers.
abbrev pub stores_by : List Call → List (Answer ℕ) → ℕ
stores_by [] answers = 0
stores_by (c ∷ cs) [] = 0
stores_by (make parent name ∷ cs) (a ∷ answers) = stores_by cs answers
stores_by (put node type bytes allowance ∷ cs) (a ∷ answers) = stores_reported a + stores_by cs answers
stores_by (close allowance ∷ cs) (a ∷ answers) = stores_reported a + stores_by cs answers

pub stores_counted : (s : State) (cs : List Call) → length (stores_of s cs) ≡ stores_by cs (answers_of s cs)
stores_counted s [] = refl
stores_counted s (make parent name ∷ cs) =
    let c = make parent name in
    ap (λ (ss : List Store). length (ss ++ stores_of (after_call s c) cs)) (make_stores s parent name) ∙ stores_counted (after_call s c) cs
stores_counted s (put node type bytes allowance ∷ cs) =
    let c = put node type bytes allowance in
    length-append (step s c).stores (stores_of (after_call s c) cs) ∙ ap₂ (λ (x y : ℕ). x + y) (put_reports s node type bytes allowance) (stores_counted (after_call s c) cs)
stores_counted s (close allowance ∷ cs) =
    let c = close allowance in
    length-append (step s c).stores (stores_of (after_call s c) cs) ∙ ap₂ (λ (x y : ℕ). x + y) (close_reports s allowance) (stores_counted (after_call s c) cs)

module _ (run : Run) where
  abbrev begin_before : List Check
  begin_before =
      check (begin_lengths_wrong run.buffer run.form run.text run.tree) (refusal 1)
      ∷ check (not (names_written run.edition)) (refusal 3)
      ∷ check (ltb (length run.buffer) (header_size (edition_by run.edition))) (refusal 21)
      ∷ []

  begin_compared : (k : ℕ) → Compared (run_begin (cut run k)) (run_begin run) k
  unfolding begin_step begin_answer stores_from
  begin_compared k =
      compared begin_before refl begin_stores
      (λ a.
      record {
        answer = a;
        stores = take (stores_reported a) begin_stores;
        writer = begin_writer a run.edition (length run.buffer) run.form;
        text = begin_area a run.text;
        tree = begin_area a run.tree;
      })
      (λ a. refl) (λ a. refl)
      (λ t e. rw e)
      run.allowance k

  pub begin_reports : length (run_begin run).stores ≡ stores_reported (run_begin run).answer
  unfolding begin_step begin_answer stores_from
  begin_reports = reported_made begin_before refl begin_stores run.allowance

-- ---- Calls with so many stores left.

-- A writer that is not live stores nothing.
asleep_cut : (s : State) → s.writer.live ≡ false → (left : ℕ) (cs : List Call) → stores_of s (limit_calls s left cs) ≡ []
asleep_cut s h left [] = refl
asleep_cut s h left (c ∷ cs) = rw (asleep_next s h (limited left c), asleep_step s h (limited left c)) (asleep_cut s h (left - 0) cs)

-- All stores; the answers of the first calls, where the stores left suffice for them; and the answer of the call in which they give out.
abbrev StoresCut : List Call → State → ℕ → Type 0
StoresCut cs s left = stores_of s (limit_calls s left cs) ≡ take left (stores_of s cs)

abbrev AnswersBefore : List Call → List Call → State → ℕ → Type 0
AnswersBefore before cs s left = length (stores_of s before) ≤ left
    → take (length before) (answers_of s (limit_calls s left cs)) ≡ take (length before) (answers_of s cs)

abbrev AnswerOut : List Call → Call → List Call → State → ℕ → Type 0
AnswerOut before c cs s left = length (stores_of s before) ≤ left → left < length (stores_of s (before ++ (c ∷ [])))
    → take 1 (drop (length before) (answers_of s (limit_calls s left cs))) ≡ refused (refusal_at 23 (left - length (stores_of s before))) ∷ []

-- The same of the calls after a step, of a call or of begin, and with the stores of that step.
module _ (buffer : List ℕ) (lengths full : Step) (left : ℕ) (turns : Compared lengths full left) where
  abbrev uncut : State
  uncut = next full buffer

  abbrev rest : ℕ
  rest = left - length full.stores

  abbrev calls_cut : Step → List Call → List Call
  calls_cut t cs = limit_calls (next t buffer) (left - length t.stores) cs

  stores_after : (cs : List Call) → ((s : State) (n : ℕ) → StoresCut cs s n)
      → lengths.stores ++ stores_of (next lengths buffer) (calls_cut lengths cs) ≡ take left (full.stores ++ stores_of uncut cs)
  stores_after cs later = go turns
    where
      go : Compared lengths full left → lengths.stores ++ stores_of (next lengths buffer) (calls_cut lengths cs) ≡ take left (full.stores ++ stores_of uncut cs)
      go (alike e h) =
          ap (λ (t : Step). t.stores ++ stores_of (next t buffer) (calls_cut t cs)) e
          ∙ ap₂ (λ (x y : List Store). x ++ y) (sym (take_all left full.stores h)) (later uncut rest)
          ∙ sym (take_append left full.stores (stores_of uncut cs))
      go (gives_out e h reported asleep) =
          ap (λ (y : List Store). lengths.stores ++ y) (asleep_cut (next lengths buffer) asleep (left - length lengths.stores) cs)
          ∙ append-nil lengths.stores
          ∙ e
          ∙ sym (take-append-le left full.stores (stores_of uncut cs) (omega arith))

  module _ (before : List Call) (h : length (full.stores ++ stores_of uncut before) ≤ left) where
    abbrev n : length (full.stores ++ stores_of uncut before) ≡ length full.stores + length (stores_of uncut before)
    n = length-append full.stores (stores_of uncut before)

    step_same : lengths ≡ full
    step_same = enough turns (omega (arith, n))

    before_after : (cs : List Call) → AnswersBefore before cs uncut rest
        → take (length before) (answers_of (next lengths buffer) (calls_cut lengths cs)) ≡ take (length before) (answers_of uncut cs)
    before_after cs later =
        ap (λ (t : Step). take (length before) (answers_of (next t buffer) (calls_cut t cs))) step_same ∙ later (omega (arith, n))

    out_after : (c : Call) (cs : List Call) → AnswerOut before c cs uncut rest → left < length (full.stores ++ stores_of uncut (before ++ (c ∷ [])))
        → take 1 (drop (length before) (answers_of (next lengths buffer) (calls_cut lengths cs)))
        ≡ refused (refusal_at 23 (left - length (full.stores ++ stores_of uncut before))) ∷ []
    out_after c cs later l =
        let less : rest - length (stores_of uncut before) ≡ left - length (full.stores ++ stores_of uncut before) = omega (arith, n) in
        ap (λ (t : Step). take 1 (drop (length before) (answers_of (next t buffer) (calls_cut t cs)))) step_same
        ∙ later (omega (arith, n)) (omega (arith, n, length-append full.stores (stores_of uncut (before ++ (c ∷ [])))))
        ∙ ap (λ (i : ℕ). refused (refusal_at 23 i) ∷ []) less

cut_stores : (cs : List Call) (s : State) (left : ℕ) → StoresCut cs s left
cut_stores [] s left = sym (take-nil left)
cut_stores (c ∷ cs) s left = stores_after s.buffer (step s (limited left c)) (step s c) left (step_compared s c left) cs (cut_stores cs)

cut_answers_before : (before after : List Call) (s : State) (left : ℕ) → AnswersBefore before (before ++ after) s left
cut_answers_before [] after s left h = refl
cut_answers_before (c ∷ before) after s left h =
    let same = step_compared s c left in
    ap₂ (λ (a : Answer ℕ) (l : List (Answer ℕ)). a ∷ l)
    (ap (λ (t : Step). t.answer) (step_same s.buffer (step s (limited left c)) (step s c) left same before h))
    (before_after s.buffer (step s (limited left c)) (step s c) left same before h (before ++ after)
    (cut_answers_before before after (after_call s c) (left - length (step s c).stores)))

cut_answer_out : (before after : List Call) (c : Call) (s : State) (left : ℕ) → AnswerOut before c (before ++ (c ∷ after)) s left
cut_answer_out [] after c s left h k =
    let all : left - 0 ≡ left = omega arith in
    ap (λ (a : Answer ℕ). a ∷ []) (gave_out (step_compared s c left) (omega (arith, length-append (step s c).stores [])) ∙ ap (λ (i : ℕ). refused (refusal_at 23 i)) (sym all))
cut_answer_out (b ∷ before) after c s left h k =
    out_after s.buffer (step s (limited left b)) (step s b) left (step_compared s b left) before h c (before ++ (c ∷ after))
    (cut_answer_out before after c (after_call s b) (left - length (step s b).stores)) k

-- ---- A whole run.

module _ (run : Run) (k : ℕ) where
  pub cut_run_stores : run_stores (cut run k) ≡ take k (run_stores run)
  cut_run_stores = stores_after run.buffer (run_begin (cut run k)) (run_begin run) k (begin_compared run k) run.calls (cut_stores run.calls)

  -- The buffer that it leaves.
  pub cut_run_buffer : (run_state (cut run k)).buffer ≡ apply_stores run.buffer (take k (run_stores run))
  cut_run_buffer = run_buffer (cut run k) ∙ ap (apply_stores run.buffer) cut_run_stores

  -- The begin too is the same where its store is left.
  pub cut_begin : length (run_begin run).stores ≤ k → run_begin (cut run k) ≡ run_begin run
  cut_begin h = enough (begin_compared run k) h

  -- A begin whose store is not.
  pub cut_begin_out : k < length (run_begin run).stores → (run_begin (cut run k)).answer ≡ refused (refusal_at 23 k)
  cut_begin_out h = gave_out (begin_compared run k) h

  -- The answers of the first calls: those whose stores are all made.
  pub cut_run_answers_before : (before after : List Call) → run.calls ≡ before ++ after → length (run_stores (with_calls run before)) ≤ k
      → take (length before) (run_answers (cut run k)) ≡ take (length before) (run_answers run)
  cut_run_answers_before before after e h =
      rw e
      (before_after run.buffer (run_begin (cut run k)) (run_begin run) k (begin_compared run k) before h (before ++ after)
      (cut_answers_before before after (run_start run) (k - length (run_begin run).stores)))

  -- The call in which the stores give out.
  pub cut_run_answer_out : (before after : List Call) (c : Call) → run.calls ≡ before ++ (c ∷ after) → length (run_stores (with_calls run before)) ≤ k
      → k < length (run_stores (with_calls run (before ++ (c ∷ []))))
      → take 1 (drop (length before) (run_answers (cut run k))) ≡ refused (refusal_at 23 (k - length (run_stores (with_calls run before)))) ∷ []
  cut_run_answer_out before after c e h l =
      rw e
      (out_after run.buffer (run_begin (cut run k)) (run_begin run) k (begin_compared run k) before h c (before ++ (c ∷ after))
      (cut_answer_out before after c (run_start run) (k - length (run_begin run).stores)) l)
