-- One call of a run, by its answer: refused otherwise than by 23 it leaves all as it was; a writer that is not live refuses, and stores nothing.
-- Assumes nothing.
use mathlib.Core.Path.{◌≡◌, refl, sym, ◌∙◌}
use mathlib.Core.Bool.{Bool, true, false, cond, not}
use mathlib.Core.List.{List, [], ◌∷◌, ◌++◌}
use Prim.Native.Nat.{ℕ, ◌+◌}
use lib.Dec.{eqb}
use lib.ListN.{length}
use Rattle.aff_format.specs.Answer.{Answer, accepted, refused, Check, check, refusal, first_wrong, Clear}
use Rattle.aff_format.specs.declared.refusal.RefusalCode.{RefusalCode}
use Rattle.aff_format.proofs.AnswerLaws.{passed, passed_value, clear_both}
use Rattle.aff_format.specs.Tree.{Tree}
use Rattle.aff_areas.specs.Belongs.{writer_belongs}
use Rattle.aff_areas.specs.Stores.{apply_stores}
use Rattle.aff_areas.proofs.StoreLaws.{apply_append}
use Rattle.aff_write.specs.Close.{store_checks, close_answer}
use Rattle.aff_make.specs.Make.{child_checks, make_answer}
use Rattle.aff_write.specs.Put.{data_checks, put_answer}
use Rattle.aff_run.specs.Run.{Call, make, put, close, State, Step, needed, step, after_call, answers_of, stores_of, state_after, closed_by, tree_after, DataLayout, layout_after, Run, run_begin, run_start, run_stores, run_state}

-- ---- The answer of a call: 24, then 22, then its own checks.

abbrev pub belongs_in : State → Bool
belongs_in s = writer_belongs (length s.buffer) s.writer s.text s.tree

abbrev pub own_checks : State → Call → List Check
own_checks s (make parent name) = child_checks s.writer s.text s.tree parent name
own_checks s (put node type bytes allowance) = data_checks s.writer s.tree node type bytes allowance
own_checks s (close allowance) = store_checks s.buffer s.writer s.text s.tree allowance

-- The new node's number, or the stores needed.
abbrev pub own_value : State → Call → ℕ
own_value s (make parent name) = s.writer.nodes + 1
own_value s (put node type bytes allowance) = length (needed s (put node type bytes allowance))
own_value s (close allowance) = length (needed s (close allowance))

abbrev pub judged : Bool → Bool → List Check → ℕ → Answer ℕ
judged here live own v = first_wrong (check (not here) (refusal 24) ∷ check (not live) (refusal 22) ∷ own) v

pub answer_judged : (s : State) (c : Call) → (step s c).answer ≡ judged (belongs_in s) s.writer.live (own_checks s c) (own_value s c)
unfolding step make_answer put_answer close_answer
answer_judged s (make parent name) = refl
answer_judged s (put node type bytes allowance) = refl
answer_judged s (close allowance) = refl

-- A record that belongs and is live leaves the answer to the call's own checks.
pub judged_awake : (b live : Bool) → b ≡ true → live ≡ true → (own : List Check) (v : ℕ) → judged b live own v ≡ first_wrong own v
judged_awake b live p q own v = rw (p, q)

-- An accepted call found nothing wrong, and answers its value.
pub accepted_clear : (s : State) (c : Call) {n : ℕ} → (step s c).answer ≡ accepted n → Clear (own_checks s c) × (own_value s c ≡ n)
accepted_clear s c h =
    let first = check (not (belongs_in s)) (refusal 24) ∷ check (not s.writer.live) (refusal 22) ∷ [] in
    let e = sym (answer_judged s c) ∙ h in
    ((clear_both first (own_checks s c) (passed (first ++ own_checks s c) (own_value s c) e)).1, passed_value (first ++ own_checks s c) (own_value s c) e)

-- A refused one leaves all as it was, unless it answers 23.
abbrev pub unchanged : State → RefusalCode → Step
unchanged s t = record { answer = refused t; stores = []; writer = s.writer; text = s.text; tree = s.tree }

pub step_refused : (s : State) (t : RefusalCode) → eqb t.number 23 ≡ false → (c : Call) → (step s c).answer ≡ refused t → step s c ≡ unchanged s t
unfolding step
step_refused s t other c h = rw (h, other)

-- ---- A writer that is not live.

-- 24 where the record does not belong, else 22.
abbrev asleep_reported : State → RefusalCode
asleep_reported s = cond (belongs_in s) (refusal 22) (refusal 24)

judged_asleep : (b live : Bool) → live ≡ false → (more : List Check) (v : ℕ) → judged b live more v ≡ refused (cond b (refusal 22) (refusal 24))
judged_asleep true live h more v = rw h
judged_asleep false live h more v = refl

asleep_other : (b : Bool) → eqb (cond b (refusal 22) (refusal 24)).number 23 ≡ false
asleep_other true = refl
asleep_other false = refl

module _ (s : State) (asleep : s.writer.live ≡ false) where
  pub asleep_step : (c : Call) → step s c ≡ unchanged s (asleep_reported s)
  asleep_step c =
      step_refused s (asleep_reported s) (asleep_other (belongs_in s)) c
      (answer_judged s c ∙ judged_asleep (belongs_in s) s.writer.live asleep (own_checks s c) (own_value s c))

  pub asleep_next : (c : Call) → after_call s c ≡ s
  unfolding apply_stores
  asleep_next c = rw (asleep_step c)

-- ---- Calls of a writer that is not live.

pub asleep_stores : (s : State) → s.writer.live ≡ false → (cs : List Call) → stores_of s cs ≡ []
asleep_stores s h [] = refl
asleep_stores s h (c ∷ cs) = rw (asleep_next s h c, asleep_step s h c) (asleep_stores s h cs)

pub asleep_closed : (s : State) → s.writer.live ≡ false → (cs : List Call) → closed_by cs (answers_of s cs) ≡ false
asleep_closed s h [] = refl
asleep_closed s h (c ∷ cs) = rw (asleep_next s h c, asleep_step s h c) (asleep_closed s h cs)

pub asleep_tree : (s : State) → s.writer.live ≡ false → (tree : Tree) (cs : List Call) → tree_after tree cs (answers_of s cs) ≡ tree
asleep_tree s h tree [] = refl
asleep_tree s h tree (c ∷ cs) = rw (asleep_next s h c, asleep_step s h c) (asleep_tree s h tree cs)

pub asleep_layout : (s : State) → s.writer.live ≡ false → (layout : DataLayout) (cs : List Call) → layout_after layout cs (answers_of s cs) ≡ layout
asleep_layout s h layout [] = refl
asleep_layout s h layout (c ∷ cs) = rw (asleep_next s h c, asleep_step s h c) (asleep_layout s h layout cs)

pub asleep_after : (s : State) → s.writer.live ≡ false → (cs : List Call) → state_after s cs ≡ s
asleep_after s h [] = refl
asleep_after s h (c ∷ cs) = rw (asleep_next s h c) (asleep_after s h cs)

-- ---- The buffer that calls leave: all their stores made in order.

pub buffer_after_lem : (s : State) (cs : List Call) → (state_after s cs).buffer ≡ apply_stores s.buffer (stores_of s cs)
unfolding apply_stores
buffer_after_lem s [] = refl
buffer_after_lem s (c ∷ cs) = buffer_after_lem (after_call s c) cs ∙ sym (apply_append s.buffer (step s c).stores (stores_of (after_call s c) cs))

pub run_buffer : (run : Run) → (run_state run).buffer ≡ apply_stores run.buffer (run_stores run)
run_buffer run =
    let s = run_start run in
    buffer_after_lem s run.calls ∙ sym (apply_append run.buffer (run_begin run).stores (stores_of s run.calls))
