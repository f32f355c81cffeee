-- The calls of the drill are the steps of a run, since their contracts cite what a step is made of; handed down, one allowance gives the run cut there.
-- Assumes nothing.
use mathlib.Core.Path.{◌≡◌, refl, sym, ap, ap₂, ◌∙◌}
use mathlib.Core.List.{List, ◌∷◌}
use Prim.Native.Nat.{ℕ, ◌-◌, min}
use native.Mathlib.Omega.{arith}
use lib.ListN.{length}
use lib.Seq.{take-nil}
use Rattle.aff_format.specs.Edition.{edition_number}
use Rattle.aff_format.specs.declared.edition.Edition.TheVariants.{Two}
use Rattle.aff_format.specs.Answer.{Answer, accepted, refused}
use Rattle.aff_areas.specs.Stores.{apply_stores, stores_reported, buffer_after}
use Rattle.aff_areas.specs.Writer.{writer_after, area_after}
use Rattle.aff_areas.specs.declared.writer.Writer.{Writer}
use Rattle.aff_write.specs.Begin.{begin_stores, begin_answer, begin_writer, begin_area}
use Rattle.aff_write.specs.Close.{close_stores, close_answer}
use Rattle.aff_make.specs.Make.{make_answer, made_writer, made_text, made_tree}
use Rattle.aff_write.specs.Put.{put_stores, put_answer, put_writer, put_tree}
use Rattle.aff_run.specs.Cut.{limit_calls}
use Rattle.aff_run.specs.Run.{Call, make, put, close, State, next, begin_step, answer_to, step, after_call, state_after, Run, run_begin, run_start}
use Rattle.aff_run.proofs.CutLaws.{make_stores, put_reports, begin_reports}
use Rattle.aff.specs.Worked.{name_a, name_n, minus_seventy, worked_calls}
use Rattle.aff_drill.specs.Drill.{state_of, named, last_calls, CutFrom, drill_run, CutRun}

-- ---- The makes.

-- What a make leaves is what the next call is given.
module _ (w : Writer) (x t i : List ℕ) (parent : ℕ) (name : List ℕ) (a : Answer ℕ) (w' : Writer) (x' t' : List ℕ) where
  made_next : a ≡ make_answer (length i) w x t parent name → w' ≡ writer_after a (made_writer w x name) w → x' ≡ area_after a (made_text w x name) x
      → t' ≡ area_after a (made_tree w x t parent name) t → after_call (state_of w x t i) (make parent name) ≡ state_of w' x' t' i
  unfolding step apply_stores
  made_next ha hw hx ht = rw (hw, hx, ht, ha, take-nil (stores_reported (make_answer (length i) w x t parent name)))

module _ (w : Writer) (x t i : List ℕ) (a b : Answer ℕ) (w₁ : Writer) (x₁ t₁ : List ℕ) (w₂ : Writer) (x₂ t₂ : List ℕ)
    (ha : a ≡ make_answer (length i) w x t 0 name_a) (hw : w₁ ≡ writer_after a (made_writer w x name_a) w) (hx : x₁ ≡ area_after a (made_text w x name_a) x)
    (ht : t₁ ≡ area_after a (made_tree w x t 0 name_a) t)
    (hb : b ≡ make_answer (length i) w₁ x₁ t₁ 1 name_n) (kw : w₂ ≡ writer_after b (made_writer w₁ x₁ name_n) w₁) (kx : x₂ ≡ area_after b (made_text w₁ x₁ name_n) x₁)
    (kt : t₂ ≡ area_after b (made_tree w₁ x₁ t₁ 1 name_n) t₁) where
  both_made : named (state_of w x t i) ≡ state_of w₂ x₂ t₂ i
  both_made =
      ap (λ (s : State). after_call s (make 1 name_n)) (made_next w x t i 0 name_a a w₁ x₁ t₁ ha hw hx ht)
      ∙ made_next w₁ x₁ t₁ i 1 name_n b w₂ x₂ t₂ hb kw kx kt

  pub both_left : (w₂ ≡ (named (state_of w x t i)).writer) × ((x₂ ≡ (named (state_of w x t i)).text) × (t₂ ≡ (named (state_of w x t i)).tree))
  both_left =
      (ap (λ (s : State). s.writer) (sym both_made), (ap (λ (s : State). s.text) (sym both_made), ap (λ (s : State). s.tree) (sym both_made)))

-- ---- The put.

module _ (w : Writer) (x t i bytes : List ℕ) (node type allowance : ℕ) (a : Answer ℕ) (w' : Writer) (t' i' : List ℕ)
    (ha : a ≡ put_answer (length i) w x t node type bytes allowance) (hw : w' ≡ writer_after a (put_writer w bytes) w)
    (ht : t' ≡ area_after a (put_tree w t node type bytes) t) (hi : i' ≡ buffer_after a (put_stores w bytes) i) where
  pub put_left : let p = step (state_of w x t i) (put node type bytes allowance) in
      (a ≡ p.answer) × ((w' ≡ p.writer) × ((t' ≡ p.tree) × (i' ≡ apply_stores i p.stores)))
  unfolding step
  put_left = (ha, (rw (hw, ha), (rw (ht, ha), rw (hi, ha))))

-- ---- Put and close, with what is left.

put_text : (s : State) (allowance : ℕ) → (step s (put 2 3 minus_seventy allowance)).text ≡ s.text
unfolding step
put_text s allowance = go (answer_to s (put 2 3 minus_seventy allowance))
  where
    go : (a : Answer ℕ) → area_after a s.text s.text ≡ s.text
    go (accepted n) = refl
    go (refused t) = refl

closed_buffer : (s : State) (rest : ℕ) (b : Answer ℕ) (after : List ℕ) → b ≡ close_answer s.buffer s.writer s.text s.tree rest
    → after ≡ buffer_after b (close_stores s.buffer s.writer s.text s.tree) s.buffer → after ≡ (after_call s (close rest)).buffer
unfolding step
closed_buffer s rest b after hb h = rw (h, hb)

module _ (w : Writer) (x t i : List ℕ) (allowance : ℕ) (a b : Answer ℕ) (w₁ : Writer) (t₁ i₁ : List ℕ) (rest : ℕ) (after : List ℕ) where
  abbrev first : State
  first = state_of w x t i

  pub finished_cut : let p = step first (put 2 3 minus_seventy allowance) in
      a ≡ p.answer → w₁ ≡ p.writer → t₁ ≡ p.tree → i₁ ≡ apply_stores i p.stores → rest ≡ allowance - stores_reported a
      → b ≡ close_answer i₁ w₁ x t₁ rest → after ≡ buffer_after b (close_stores i₁ w₁ x t₁) i₁ → CutFrom first allowance last_calls after
  finished_cut ha hw ht hi hr hb h most le =
      let p = step first (put 2 3 minus_seventy allowance) in
      let m : min most allowance ≡ allowance = omega arith in
      let k : min most (allowance - length p.stores) ≡ allowance - length p.stores = omega arith in
      let e : state_of w₁ x t₁ i₁ ≡ next p i = rw (hw, ht, hi, put_text first allowance) in
      let n : rest ≡ allowance - length p.stores = hr ∙ ap (λ (j : ℕ). allowance - j) (ap stores_reported ha ∙ sym (put_reports first 2 3 minus_seventy allowance)) in
      rw (m, k) (closed_buffer (state_of w₁ x t₁ i₁) rest b after hb h ∙ ap₂ (λ (s : State) (j : ℕ). (after_call s (close j)).buffer) e n)

-- ---- The calls after begin, and the run.

-- A make stores nothing.
module _ (s : State) (parent : ℕ) (name : List ℕ) where
  abbrev made : State
  made = after_call s (make parent name)

  make_buffer : made.buffer ≡ s.buffer
  unfolding apply_stores
  make_buffer = rw (make_stores s parent name)

  after_make : (left : ℕ) (cs : List Call) → state_after s (limit_calls s left (make parent name ∷ cs)) ≡ state_after made (limit_calls made left cs)
  after_make left cs =
      let z : left - length (step s (make parent name)).stores ≡ left = omega (arith, ap length (make_stores s parent name)) in
      ap (λ (n : ℕ). state_after made (limit_calls made n cs)) z

pub filled_cut : (w : Writer) (x t i : List ℕ) (allowance : ℕ) (w₁ : Writer) (x₁ t₁ after : List ℕ)
    → w₁ ≡ (named (state_of w x t i)).writer → x₁ ≡ (named (state_of w x t i)).text → t₁ ≡ (named (state_of w x t i)).tree
    → CutFrom (state_of w₁ x₁ t₁ i) allowance last_calls after → CutFrom (state_of w x t i) allowance (λ most. worked_calls most most) after
filled_cut w x t i allowance w₁ x₁ t₁ after hw hx ht h most le =
    let s = state_of w x t i in
    let t = made s 0 name_a in
    let e : state_of w₁ x₁ t₁ i ≡ named s = rw (hw, hx, ht, make_buffer t 1 name_n, make_buffer s 0 name_a) in
    h most le
    ∙ ap (λ (q : State). (state_after q (limit_calls q allowance (last_calls most))).buffer) e
    ∙ ap (λ (q : State). q.buffer) (sym (after_make s 0 name_a allowance (make 1 name_n ∷ last_calls most) ∙ after_make t 1 name_n allowance (last_calls most)))

module _ (buffer form text tree : List ℕ) (k : ℕ) (a : Answer ℕ) (w : Writer) (x t i : List ℕ) (rest : ℕ) (after : List ℕ)
    (ha : a ≡ begin_answer (edition_number Two) buffer form text tree k) (hw : w ≡ begin_writer a (edition_number Two) (length buffer) form) (hi : i ≡ buffer_after a begin_stores buffer)
    (hx : x ≡ begin_area a text) (ht : t ≡ begin_area a tree) (hr : rest ≡ k - stores_reported a) where
  abbrev began : Run
  began = drill_run buffer form text tree k

  begin_next : (state_of w x t i ≡ run_start began) × (a ≡ (run_begin began).answer)
  unfolding begin_step
  begin_next = (rw (hw, hi, hx, ht, ha), ha)

  pub run_cut : CutFrom (state_of w x t i) rest (λ most. worked_calls most most) after → CutRun buffer form text tree k after
  run_cut h most le =
      let m : min most k ≡ k = omega arith in
      let n : rest ≡ k - length (run_begin began).stores = hr ∙ ap (λ (j : ℕ). k - j) (ap stores_reported begin_next.1 ∙ sym (begin_reports began)) in
      rw m
      (h most (omega arith)
      ∙ ap₂ (λ (s : State) (j : ℕ). (state_after s (limit_calls s j (worked_calls most most))).buffer) begin_next.0 n)
