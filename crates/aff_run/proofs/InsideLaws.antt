-- All stores of a run with an accepted close are inside its file, so the bytes of the buffer after the file are as they were. By induction on the calls, and for each
-- call by its answer. Assumes nothing.
use mathlib.Core.Path.{◌≡◌, refl, sym, ap, ◌∙◌}
use mathlib.Core.Bool.{Bool, true, false, ◌&&◌, ◌||◌, true≢false}
use mathlib.Core.List.{List, [], ◌∷◌, ◌++◌, append-nil}
use Prim.Native.Nat.{ℕ, ◌+◌, ◌≤◌, ◌<◌}
use native.Mathlib.Omega.{arith}
use lib.ListN.{length, set, take, drop, replicate, length-append, length-drop, length-replicate}
use lib.Seq.{length-take-le, drop-set-lt}
use Rattle.aff_format.specs.Align.{padding, aligned}
use Rattle.aff_format.specs.Answer.{Answer, accepted, refused}
use Rattle.aff_format.specs.Tree.{Tree}
use Rattle.aff_format.proofs.EditionLaws.{header_least}
use Rattle.aff_format.proofs.TestLaws.{or_false}
use Rattle.aff_areas.specs.Areas.{used_text, entries_out}
use Rattle.aff_areas.specs.Stores.{Store, apply_stores, stores_from}
use Rattle.aff_areas.specs.Writer.{writer_edition}
use Rattle.aff_write.specs.Close.{symbols_place, tree_place, close_header, close_stores}
use Rattle.aff_write.specs.Put.{put_stores}
use Rattle.aff_run.specs.AnswersFromTree.{is_spent, stops}
use Rattle.aff_run.specs.TreeSizes.{size_of}
use Rattle.aff_run.specs.Run.{Call, make, put, close, State, step, after_call, answers_of, stores_of, is_accepted, apply_call, tree_after, DataLayout, call_end, call_layout, layout_after, is_close, closed_by}
use Rattle.aff_run.proofs.BufferSizeLaws.{end_least}
use Rattle.aff_run.proofs.ClosedLaws.{length_header}
use Rattle.aff_run.proofs.CutLaws.{make_stores}
use Rattle.aff_run.proofs.InvariantLaws.{Invariant, used_text_lem, entries_in_lem, sizes_in_bytes}
use Rattle.aff_run.proofs.RunLaws.{needed_made, close_made, or_left, sleeps_asleep, Outcome, goes_on_lem, ends, outcome}
use Rattle.aff_run.proofs.StepLaws.{step_refused, asleep_stores, asleep_closed, asleep_tree, asleep_layout}

-- ---- Stores below a place.

abbrev pub Below : ℕ → List Store → Type 0
Below n [] = Unit {0}
Below n (s ∷ ss) = (s.at < n) × Below n ss

below_from : (n at : ℕ) (bs : List ℕ) → at + length bs ≤ n → Below n (stores_from at bs)
unfolding stores_from
below_from n at [] h = tt
below_from n at (b ∷ bs) h = (omega arith, below_from n (at + 1) bs (omega arith))

pub below_append : (n : ℕ) (a b : List Store) → Below n a → Below n b → Below n (a ++ b)
below_append n [] b p q = q
below_append n (s ∷ a) b p q = (p.0, below_append n a b p.1 q)

-- They leave the bytes from the place on.
pub below_drop : (n : ℕ) (buffer : List ℕ) (a : List Store) → Below n a → drop n (apply_stores buffer a) ≡ drop n buffer
unfolding apply_stores
below_drop n buffer [] p = refl
below_drop n buffer (s ∷ a) p = below_drop n (set buffer s.at s.byte) a p.1 ∙ drop-set-lt n buffer s.at s.byte p.0

-- ---- One call.

put_below : (n : ℕ) (s : State) (bytes : List ℕ) → aligned s.writer.end + length bytes ≤ n → Below n (put_stores s.writer bytes)
put_below n s bytes h =
    let zeros : List ℕ = replicate (padding s.writer.end) 0 in
    below_from n s.writer.end (zeros ++ bytes) (omega (arith, length-append zeros bytes, length-replicate {A = ℕ} (padding s.writer.end) 0))

close_below : (s : State) (tree : Tree) {layout : DataLayout} (g : Invariant s tree layout) → Below (size_of s.writer.end tree) (close_stores s.buffer s.writer s.text s.tree)
unfolding close_stores size_of
close_below s tree g =
    let w = s.writer in
    let header = close_header s.buffer w s.text s.tree in
    let n = size_of w.end tree in
    let text = ap length (used_text_lem s tree g) in
    let entries = ap length (entries_in_lem s tree g) in
    let size = sizes_in_bytes s tree g in
    let first : length (take 1 header) ≡ 1 = length-take-le 1 header (omega (arith, length_header s tree g, header_least (writer_edition w))) in
    below_append n (stores_from (symbols_place w) (used_text w s.text) ++ stores_from (tree_place w) (entries_out s.tree w.nodes))
    (stores_from 1 (drop 1 header) ++ stores_from 0 (take 1 header))
    (below_append n (stores_from (symbols_place w) (used_text w s.text)) (stores_from (tree_place w) (entries_out s.tree w.nodes))
    (below_from n (symbols_place w) (used_text w s.text) (omega (arith, text)))
    (below_from n (tree_place w) (entries_out s.tree w.nodes) (omega (arith, g.text_count, entries, size))))
    (below_append n (stores_from 1 (drop 1 header)) (stores_from 0 (take 1 header))
    (below_from n 1 (drop 1 header) (omega (arith, length-drop 1 header, length_header s tree g, g.after_header, header_least (writer_edition w))))
    (below_from n 0 (take 1 header) (omega (arith, first, g.after_header, header_least (writer_edition w)))))

-- A call after which the writer goes on stores nothing, or it is an accepted put.
step_below : (n : ℕ) (s : State) (c : Call) (a : Answer ℕ) → (step s c).answer ≡ a → stops c a ≡ false → call_end s.writer.end c (is_accepted a) ≤ n → Below n (step s c).stores
step_below n s (make parent name) a h e l = rw (make_stores s parent name) tt
step_below n s (put node type bytes allowance) (accepted m) h e l = rw (needed_made s (put node type bytes allowance) h) (put_below n s bytes l)
step_below n s (put node type bytes allowance) (refused t) h e l = rw (step_refused s t e (put node type bytes allowance) h) tt
step_below n s (close allowance) (accepted m) h e l = absurd (true≢false e)
step_below n s (close allowance) (refused t) h e l = rw (step_refused s t e (close allowance) h) tt

-- ---- The calls.

abbrev InsideFrom : List Call → Type 0
InsideFrom cs = (s : State) (tree : Tree) (layout : DataLayout) → Invariant s tree layout → closed_by cs (answers_of s cs) ≡ true
    → Below (size_of (layout_after layout cs (answers_of s cs)).end (tree_after tree cs (answers_of s cs))) (stores_of s cs)

module _ (s : State) (tree : Tree) (layout : DataLayout) (g : Invariant s tree layout) (c : Call) (cs : List Call) (later : InsideFrom cs) where
  abbrev ok : Bool
  ok = is_accepted (step s c).answer

  -- The finished size, by the tree and the layout after call c.
  abbrev finished : Tree → DataLayout → ℕ
  finished after laid = size_of (layout_after laid cs (answers_of (after_call s c) cs)).end (tree_after after cs (answers_of (after_call s c) cs))

  end_below : (after : Tree) (laid : DataLayout) → laid.end ≤ finished after laid
  unfolding size_of
  end_below after laid = omega (arith, end_least laid cs (answers_of (after_call s c) cs))

  by_step : Outcome s tree layout c → ((ok && is_close c) || closed_by cs (answers_of (after_call s c) cs)) ≡ true
      → Below (finished (apply_call tree c ok) (call_layout layout c ok)) ((step s c).stores ++ stores_of (after_call s c) cs)
  by_step (goes_on_lem e kept rest) z =
      let after = apply_call tree c ok in
      let laid = call_layout layout c ok in
      let n = finished after laid in
      let l : call_end s.writer.end c ok ≤ n = omega (arith, ap (λ (end : ℕ). call_end end c ok) g.end_is, end_below after laid) in
      below_append n (step s c).stores (stores_of (after_call s c) cs) (step_below n s c (step s c).answer refl e l)
      (later (after_call s c) after laid kept (rw (or_false (ok && is_close c) (is_spent (step s c).answer) e).0 at z))
  by_step (ends e t o z) y =
      let asleep = sleeps_asleep s c z in
      let a = or_left _ _ (asleep_closed (after_call s c) asleep cs) y in
      rw (
        t,
        o,
        asleep_stores (after_call s c) asleep cs,
        asleep_tree (after_call s c) asleep tree cs,
        asleep_layout (after_call s c) asleep layout cs,
        append-nil,
        close_made s c (step s c).answer refl a,
        ← g.end_is,
      )
      (close_below s tree g)

pub run_inside : (cs : List Call) → InsideFrom cs
run_inside [] s tree layout g z = absurd (true≢false (sym z))
run_inside (c ∷ cs) s tree layout g z = by_step s tree layout g c cs (run_inside cs) (outcome s tree g c) z
