-- A call in a state with the invariant leaves one with it, with the call applied to the tree, or it closes or stops the writer (`outcome`). So where a close is accepted among some calls,
-- the buffer after all their stores has whatever each closed buffer has. By induction on the calls, and for each call by its answer. Assumes nothing.
use mathlib.Core.Path.{◌≡◌, refl, sym, ap, ◌∙◌, subst}
use mathlib.Core.Bool.{Bool, true, false, cond, ◌&&◌, ◌||◌, true≢false}
use mathlib.Core.List.{List, [], ◌∷◌, ◌++◌, append-nil}
use Prim.Native.Nat.{ℕ, ◌≤◌}
use native.Mathlib.Omega.{arith}
use lib.Dec.{eqb}
use lib.Seq.{take-nil, take-length}
use Rattle.aff_format.specs.Answer.{Answer, accepted, refused}
use Rattle.aff_format.specs.Tree.{Tree}
use Rattle.aff_format.specs.declared.refusal.RefusalCode.{RefusalCode}
use Rattle.aff_format.proofs.TestLaws.{or_false}
use Rattle.aff_areas.specs.Stores.{apply_stores, stores_reported}
use Rattle.aff_areas.specs.Writer.{stopped, writer_after}
use Rattle.aff_areas.specs.declared.writer.Writer.{Writer}
use Rattle.aff_areas.proofs.StoreLaws.{apply_append}
use Rattle.aff_write.specs.Close.{close_stores}
use Rattle.aff_write.specs.Put.{put_stores}
use Rattle.aff_run.specs.AnswersFromTree.{is_spent, stops}
use Rattle.aff_run.specs.Run.{Call, make, put, close, State, Step, answer_to, needed, completed, step, after_call, answers_of, stores_of, is_accepted, apply_call, tree_after, DataLayout, call_end, call_layout, layout_after, is_close, closed_by}
use Rattle.aff_run.proofs.InvariantLaws.{Invariant, ZerosAfter}
use Rattle.aff_run.proofs.MakeInvariantLaws.{made_invariant, made_after}
use Rattle.aff_run.proofs.PutInvariantLaws.{put_invariant, put_after_lem}
use Rattle.aff_run.proofs.ClosedLaws.{closed, closed_buffer}
use Rattle.aff_run.proofs.StepLaws.{accepted_clear, step_refused, asleep_stores, asleep_closed, asleep_tree, asleep_layout}

-- ---- What a call leaves of the record.

-- What no call changes: f of the record, where stopping and completing a call leave it.
module _ {A : Type 0} (f : Writer → A) (stops-keep : (w : Writer) → f (stopped w) ≡ f w) where
  kept_after : (a : Answer ℕ) (w given : Writer) → f w ≡ f given → f (writer_after a w given) ≡ f given
  kept_after (accepted n) w given h = h
  kept_after (refused t) w given h = go (eqb t.number 23)
    where
      go : (b : Bool) → f (cond b (stopped given) given) ≡ f given
      go true = stops-keep given
      go false = refl

  step_keeps : (s : State) (c : Call) → f (completed s c).writer ≡ f s.writer → f (step s c).writer ≡ f s.writer
  unfolding step
  step_keeps s c h = kept_after (answer_to s c) (completed s c).writer s.writer h

pub step_form : (s : State) (c : Call) → (step s c).writer.form ≡ s.writer.form
step_form s (make parent name) = step_keeps (λ w. w.form) (λ w. refl) s (make parent name) refl
step_form s (put node type bytes allowance) = step_keeps (λ w. w.form) (λ w. refl) s (put node type bytes allowance) refl
step_form s (close allowance) = step_keeps (λ w. w.form) (λ w. refl) s (close allowance) refl

pub step_edition : (s : State) (c : Call) → (step s c).writer.edition ≡ s.writer.edition
step_edition s (make parent name) = step_keeps (λ w. w.edition) (λ w. refl) s (make parent name) refl
step_edition s (put node type bytes allowance) = step_keeps (λ w. w.edition) (λ w. refl) s (put node type bytes allowance) refl
step_edition s (close allowance) = step_keeps (λ w. w.edition) (λ w. refl) s (close allowance) refl

-- The end of data moves as the call and whether it was accepted say.
pub step_end : (s : State) (c : Call) → (step s c).writer.end ≡ call_end s.writer.end c (is_accepted (step s c).answer)
unfolding step
step_end s c = go c (answer_to s c)
  where
    kept : (b : Bool) → (cond b (stopped s.writer) s.writer).end ≡ s.writer.end
    kept true = refl
    kept false = refl

    go : (c : Call) (a : Answer ℕ) → (writer_after a (completed s c).writer s.writer).end ≡ call_end s.writer.end c (is_accepted a)
    go (make parent name) (accepted n) = refl
    go (put node type bytes allowance) (accepted n) = refl
    go (close allowance) (accepted n) = refl
    go c (refused t) = kept (eqb t.number 23)

pub end_grows : (end : ℕ) (c : Call) (ok : Bool) → end ≤ call_end end c ok
end_grows end c false = omega arith
end_grows end (make parent name) true = omega arith
end_grows end (put node type bytes allowance) true = omega arith
end_grows end (close allowance) true = omega arith

-- A call refused by 23 stops the writer, and an accepted close closes it: the record sleeps, the areas are as they were.
abbrev pub Sleeps : State → Step → Type 0
Sleeps s t = (t.writer ≡ stopped s.writer) × (t.text ≡ s.text) × (t.tree ≡ s.tree)

pub step_sleeps : (s : State) (c : Call) (t : RefusalCode) → (step s c).answer ≡ refused t → eqb t.number 23 ≡ true → Sleeps s (step s c)
unfolding step
step_sleeps s c t h e = rw (h, e) (refl, refl, refl)

pub close_sleeps : (s : State) (allowance : ℕ) {n : ℕ} → (step s (close allowance)).answer ≡ accepted n → Sleeps s (step s (close allowance))
unfolding step
close_sleeps s allowance h = rw h (refl, refl, refl)

pub sleeps_asleep : (s : State) (c : Call) → Sleeps s (step s c) → (step s c).writer.live ≡ false
sleeps_asleep s c z = ap (λ (w : Writer). w.live) z.0

-- An accepted call makes all the stores that it needs.
pub needed_made : (s : State) (c : Call) {n : ℕ} → (step s c).answer ≡ accepted n → (step s c).stores ≡ needed s c
unfolding step
needed_made s (make parent name) h = take-nil (stores_reported (answer_to s (make parent name)))
needed_made s (put node type bytes allowance) h = rw (h, ← (accepted_clear s (put node type bytes allowance) h).1) (take-length (put_stores s.writer bytes))
needed_made s (close allowance) h =
    rw (h, ← (accepted_clear s (close allowance) h).1) (take-length (close_stores s.buffer s.writer s.text s.tree))

-- A call refused otherwise leaves what it was given.
pub next_unchanged : (s : State) (c : Call) (t : RefusalCode) → eqb t.number 23 ≡ false → (step s c).answer ≡ refused t → after_call s c ≡ s
unfolding apply_stores
next_unchanged s c t e h = rw (step_refused s t e c h)

-- ---- A call in a state with the invariant.

-- The writer goes on, with the call applied to the tree; or the call closes or stops it, and the tree stays.
pub data Outcome (s : State) (tree : Tree) (layout : DataLayout) (c : Call) : Type 0 where
  goes_on_lem : stops c (step s c).answer ≡ false
      → Invariant (after_call s c) (apply_call tree c (is_accepted (step s c).answer)) (call_layout layout c (is_accepted (step s c).answer))
      → (ZerosAfter s tree → ZerosAfter (after_call s c) (apply_call tree c (is_accepted (step s c).answer))) → Outcome s tree layout c
  ends : stops c (step s c).answer ≡ true → apply_call tree c (is_accepted (step s c).answer) ≡ tree
      → call_layout layout c (is_accepted (step s c).answer) ≡ layout → Sleeps s (step s c) → Outcome s tree layout c

module _ (s : State) (tree : Tree) {layout : DataLayout} (g : Invariant s tree layout) where
  by_number : (c : Call) (t : RefusalCode) (b : Bool) → eqb t.number 23 ≡ b → (step s c).answer ≡ refused t → Outcome s tree layout c
  by_number c t true e h = ends (rw (h, e)) (rw h) (rw h) (step_sleeps s c t h e)
  by_number c t false e h = goes_on_lem (rw (h, e)) (rw (h, next_unchanged s c t e h) g) (rw (h, next_unchanged s c t e h) (λ b. b))

  by_answer : (c : Call) (a : Answer ℕ) → (step s c).answer ≡ a → Outcome s tree layout c
  by_answer c (refused t) h = by_number c t (eqb t.number 23) refl h
  by_answer (make parent name) (accepted n) h = goes_on_lem (rw h) (rw h (made_invariant s tree g parent name h)) (rw h (made_after s tree g parent name h))
  by_answer (put node type bytes allowance) (accepted n) h =
      goes_on_lem (rw h) (rw h (put_invariant s tree g node type bytes allowance h)) (rw h (put_after_lem s tree g node type bytes allowance h))
  by_answer (close allowance) (accepted n) h = ends (rw h) (rw h) (rw h) (close_sleeps s allowance h)

  pub outcome : (c : Call) → Outcome s tree layout c
  outcome c = by_answer c (step s c).answer refl

-- ---- The run.

pub or_left : (a b : Bool) → b ≡ false → (a || b) ≡ true → a ≡ true
or_left true b e h = refl
or_left false b e h = sym e ∙ h

-- The stores of an accepted close.
pub close_made : (s : State) (c : Call) (a : Answer ℕ) → (step s c).answer ≡ a → (is_accepted a && is_close c) ≡ true
    → (step s c).stores ≡ close_stores s.buffer s.writer s.text s.tree
close_made s c (refused t) h z = absurd (true≢false (sym z))
close_made s (make parent name) (accepted n) h z = absurd (true≢false (sym z))
close_made s (put node type bytes allowance) (accepted n) h z = absurd (true≢false (sym z))
close_made s (close allowance) (accepted n) h z = needed_made s (close allowance) h

-- What holds of each closed buffer, with the writer's edition and form, the tree described and the layout of its data, holds of the buffer that a run with an
-- accepted close leaves.
module _ (P : ℕ → List ℕ → List ℕ → Tree → DataLayout → Type 0)
    (closes : (s : State) (tree : Tree) (layout : DataLayout) (g : Invariant s tree layout) → P s.writer.edition (closed s tree g) s.writer.form tree layout) where
  abbrev HoldsFrom : List Call → Type 0
  HoldsFrom cs = (s : State) (tree : Tree) (layout : DataLayout) → Invariant s tree layout → closed_by cs (answers_of s cs) ≡ true
      → P s.writer.edition (apply_stores s.buffer (stores_of s cs)) s.writer.form (tree_after tree cs (answers_of s cs)) (layout_after layout cs (answers_of s cs))

  module _ (s : State) (tree : Tree) (layout : DataLayout) (g : Invariant s tree layout) (c : Call) (cs : List Call) (later : HoldsFrom cs) where
    -- The same, after call c.
    abbrev HoldsAfter : Tree → DataLayout → Type 0
    HoldsAfter after laid =
        P s.writer.edition (apply_stores s.buffer ((step s c).stores ++ stores_of (after_call s c) cs)) s.writer.form
        (tree_after after cs (answers_of (after_call s c) cs)) (layout_after laid cs (answers_of (after_call s c) cs))

    goes_on : (after : Tree) (laid : DataLayout) → Invariant (after_call s c) after laid → closed_by cs (answers_of (after_call s c) cs) ≡ true → HoldsAfter after laid
    goes_on after laid kept z =
        let n = after_call s c in
        let all = apply_stores s.buffer ((step s c).stores ++ stores_of n cs) in
        let holds : ℕ → List ℕ → List ℕ → Type 0 = λ e r f. P e r f (tree_after after cs (answers_of n cs)) (layout_after laid cs (answers_of n cs)) in
        subst (λ (e : ℕ). holds e all s.writer.form) (step_edition s c)
        (subst (λ (f : List ℕ). holds n.writer.edition all f) (step_form s c)
        (subst (λ (r : List ℕ). holds n.writer.edition r n.writer.form) (sym (apply_append s.buffer (step s c).stores (stores_of n cs))) (later n after laid kept z)))

    -- What comes after an accepted close changes nothing.
    closes_buffer : Sleeps s (step s c) → (is_accepted (step s c).answer && is_close c) ≡ true → HoldsAfter tree layout
    closes_buffer z a =
        let asleep = sleeps_asleep s c z in
        rw (
          asleep_stores (after_call s c) asleep cs,
          asleep_tree (after_call s c) asleep tree cs,
          asleep_layout (after_call s c) asleep layout cs,
          append-nil,
          close_made s c (step s c).answer refl a,
          ← closed_buffer s tree g,
        )
        (closes s tree layout g)

    by_step : Outcome s tree layout c → ((is_accepted (step s c).answer && is_close c) || closed_by cs (answers_of (after_call s c) cs)) ≡ true
        → HoldsAfter (apply_call tree c (is_accepted (step s c).answer)) (call_layout layout c (is_accepted (step s c).answer))
    by_step (goes_on_lem e kept rest) z =
        let a = (step s c).answer in
        goes_on (apply_call tree c (is_accepted a)) (call_layout layout c (is_accepted a)) kept (rw (or_false (is_accepted a && is_close c) (is_spent a) e).0 at z)
    by_step (ends e t o sleeps) z =
        rw (t, o) (closes_buffer sleeps (or_left _ _ (asleep_closed (after_call s c) (sleeps_asleep s c sleeps) cs) z))

  pub run_holds : (cs : List Call) → HoldsFrom cs
  run_holds [] s tree layout g z = absurd (true≢false (sym z))
  run_holds (c ∷ cs) s tree layout g z = by_step s tree layout g c cs (run_holds cs) (outcome s tree g c) z
