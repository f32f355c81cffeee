-- A run stores to place 0 at its begin, and again only with the last store of an accepted close. So a buffer after some of its stores, but not all of
-- a closed run, has a zero at place 0, and opening answers 3. Assumes nothing.
use mathlib.Core.Path.{◌≡◌, refl, sym, ap, ◌∙◌}
use mathlib.Core.Bool.{Bool, true, false, ◌&&◌, ◌||◌}
use mathlib.Core.List.{List, [], ◌∷◌, ◌++◌, append-nil, append_assoc, map}
use mathlib.Core.Logic.{⊎_elim}
use Prim.Native.Nat.{ℕ, zero, suc, ◌+◌, ◌≤◌, ◌<◌}
use native.Mathlib.Nat.{eq-or-lt_of_le}
use native.Mathlib.Omega.{arith}
use lib.Dec.{eqb, ltb}
use lib.ListN.{length, get_or, set, take, drop, replicate, length-append}
use lib.Seq.{take-append-le}
use borrow.Author.Tests.{ltb-true}
use Rattle.aff_format.specs.Align.{padding}
use Rattle.aff_format.specs.Answer.{Answer, accepted, refused, refusal_at}
use Rattle.aff_format.specs.declared.refusal.RefusalCode.{RefusalCode}
use Rattle.aff_format.proofs.AnswerLaws.{last_reported}
use Rattle.aff_md5.specs.Md5.{md5}
use Rattle.aff_format.specs.Bytes.{joined}
use Rattle.aff_format.specs.Edition.{header_order}
use Rattle.aff_format.proofs.EditionLaws.{first_byte}
use Rattle.aff_areas.specs.Writer.{writer_edition}
use Rattle.aff_areas.specs.Belongs.{writer_checks}
use Rattle.aff_header.specs.Header.{header_front, with_sum}
use Rattle.aff_areas.specs.Areas.{used_text, entries_out}
use Rattle.aff_areas.specs.Stores.{Store, apply_stores, stores_from, stores_reported}
use Rattle.aff_write.specs.Close.{symbols_place, tree_place, close_section, close_header, close_stores, close_answer}
use Rattle.aff_write.specs.Put.{put_stores}
use Rattle.aff_run.specs.Run.{Call, make, put, close, State, answer_to, step, after_call, answers_of, stores_of, is_accepted, is_close, closed_by}
use Rattle.aff_run.proofs.RunLaws.{step_end, end_grows, step_sleeps, close_sleeps, sleeps_asleep, needed_made}
use Rattle.aff_run.proofs.CutLaws.{make_stores}
use Rattle.aff_run.proofs.StepLaws.{step_refused, asleep_stores, asleep_closed}

-- ---- Stores after place 0.

abbrev pub FromPlace : List Store → Type 0
FromPlace [] = Unit {0}
FromPlace (s ∷ ss) = (1 ≤ s.at) × FromPlace ss

after_from : (at : ℕ) (bs : List ℕ) → 1 ≤ at → FromPlace (stores_from at bs)
unfolding stores_from
after_from at [] h = tt
after_from at (b ∷ bs) h = (h, after_from (at + 1) bs (omega arith))

after_append : (a b : List Store) → FromPlace a → FromPlace b → FromPlace (a ++ b)
after_append [] b p q = q
after_append (s ∷ a) b p q = (p.0, after_append a b p.1 q)

after_take : (k : ℕ) (a : List Store) → FromPlace a → FromPlace (take k a)
after_take zero a p = tt
after_take (suc k) [] p = tt
after_take (suc k) (s ∷ a) p = (p.0, after_take k a p.1)

kept : (l : List ℕ) (i b : ℕ) → 1 ≤ i → get_or (set l i b) 0 0 ≡ get_or l 0 0
kept [] i b h = refl
kept (x ∷ l) zero b h = absurd (omega arith)
kept (x ∷ l) (suc i) b h = refl

-- They leave the byte at place 0.
pub after_first : (buffer : List ℕ) (a : List Store) → FromPlace a → get_or (apply_stores buffer a) 0 0 ≡ get_or buffer 0 0
unfolding apply_stores
after_first buffer [] p = refl
after_first buffer (s ∷ a) p = after_first (set buffer s.at s.byte) a p.1 ∙ kept buffer s.at s.byte p.0

-- ---- The stores of a run.

-- Where a close was accepted: stores after place 0 and one more; else stores after place 0.
abbrev Shaped : List Store → Bool → Type 0
Shaped ss false = FromPlace ss
Shaped ss true = (mid : List Store) × (last : Store) × FromPlace mid × (ss ≡ mid ++ (last ∷ []))

-- The first k of them, but not all of a closed run.
pub shaped_take : (ss : List Store) (b : Bool) (k : ℕ) → Shaped ss b → ((k ≡ length ss) × (b ≡ true) → ⊥) → k ≤ length ss → FromPlace (take k ss)
shaped_take ss false k p no' h = after_take k ss p
shaped_take ss true k (mid, last, p, e) no' h =
    let n : length ss ≡ length mid + 1 = ap length e ∙ length-append mid (last ∷ []) in
    ⊎_elim (λ (q : k ≡ length ss). absurd (no' (q, refl)))
    (λ (q : k < length ss). rw (e, take-append-le k mid (last ∷ []) (omega arith)) (after_take k mid p))
    (eq-or-lt_of_le h)

-- A close: its last store alone is at place 0.
first_of : {x : ℕ} {text : List ℕ} (rest more : List ℕ) → text ≡ x ∷ rest → (all : List ℕ) × (text ++ more ≡ x ∷ all)
first_of rest more e = (rest ++ more, ap (λ (l : List ℕ). l ++ more) e)

header_first : (s : State) → (x : ℕ) × (rest : List ℕ) × (close_header s.buffer s.writer s.text s.tree ≡ x ∷ rest)
unfolding close_header with_sum header_front
header_first s =
    let e = writer_edition s.writer in
    let h = close_section s.buffer s.writer s.text s.tree in
    let (rest, is) = first_byte e in
    let (more, begins) = first_of rest (s.writer.form ++ joined (map h (header_order e))) is in
    let (all, whole) = first_of more (md5 (header_front e s.writer.form h)) begins in
    (76, all, whole)

ends_in_one : (a b c : List Store) (h : List ℕ) {x : ℕ} {rest : List ℕ} → FromPlace a → FromPlace b → h ≡ x ∷ rest
    → Shaped ((a ++ b) ++ (stores_from 1 (drop 1 h) ++ stores_from 0 (take 1 h))) true
unfolding stores_from
ends_in_one a b c h {x} {rest} p q e = (
  (a ++ b) ++ stores_from 1 (drop 1 h),
  record { at = 0; byte = x },
  after_append (a ++ b) (stores_from 1 (drop 1 h)) (after_append a b p q) (after_from 1 (drop 1 h) (omega arith)),
  rw e (sym (append_assoc (a ++ b) (stores_from 1 rest) (record { at = 0; byte = x } ∷ []))),
)

close_shape : (s : State) → 1 ≤ s.writer.end → Shaped (close_stores s.buffer s.writer s.text s.tree) true
unfolding close_stores
close_shape s outside =
    let f = header_first s in
    ends_in_one (stores_from (symbols_place s.writer) (used_text s.writer s.text)) (stores_from (tree_place s.writer) (entries_out s.tree s.writer.nodes)) []
    (close_header s.buffer s.writer s.text s.tree)
    (after_from (symbols_place s.writer) (used_text s.writer s.text) (omega arith))
    (after_from (tree_place s.writer) (entries_out s.tree s.writer.nodes) (omega arith))
    f.2

-- Stores after place 0, and then those of a run.
shaped_after : (a ss : List Store) (b : Bool) → FromPlace a → Shaped ss b → Shaped (a ++ ss) b
shaped_after a ss false p q = after_append a ss p q
shaped_after a ss true p (mid, last, q, e) = (a ++ mid, last, after_append a mid p q, rw e (sym (append_assoc a mid (last ∷ []))))

-- ---- Each call of a run.

put_after_lem : (s : State) → 1 ≤ s.writer.end → (node type : ℕ) (bytes : List ℕ) (allowance : ℕ) → FromPlace (step s (put node type bytes allowance)).stores
unfolding step
put_after_lem s outside node type bytes allowance =
    after_take (stores_reported (answer_to s (put node type bytes allowance))) (put_stores s.writer bytes)
    (after_from s.writer.end (replicate (padding s.writer.end) 0 ++ bytes) outside)

-- A 23 reports the allowance, which is below the stores needed.
close_spent : (s : State) → 1 ≤ s.writer.end → (allowance : ℕ) (t : RefusalCode) → (step s (close allowance)).answer ≡ refused t → eqb t.number 23 ≡ true
    → FromPlace (step s (close allowance)).stores
unfolding step close_answer
close_spent s outside allowance t h e =
    let all = close_stores s.buffer s.writer s.text s.tree in
    let q = last_reported 23 (writer_checks (length s.buffer) s.writer s.text s.tree) refl (ltb allowance (length all)) (refusal_at 23 allowance) (length all) h e in
    let l = ltb-true allowance (length all) q.1 in
    let p : t.place < length all = rw q.2 l in
    rw (h, e) (shaped_take all true t.place (close_shape s outside) (λ r. omega (arith, r.0)) (omega arith))

-- A call never moves the end of data down.
after_end : (s : State) (c : Call) → 1 ≤ s.writer.end → 1 ≤ (after_call s c).writer.end
after_end s c outside = omega (arith, step_end s c, end_grows s.writer.end c (is_accepted (step s c).answer))

module _ (s : State) (outside : 1 ≤ s.writer.end) (cs : List Call)
    (later : (s' : State) → 1 ≤ s'.writer.end → Shaped (stores_of s' cs) (closed_by cs (answers_of s' cs))) where
  abbrev ShapedAfter : Call → Answer ℕ → Type 0
  ShapedAfter c a =
      Shaped ((step s c).stores ++ stores_of (after_call s c) cs) ((is_accepted a && is_close c) || closed_by cs (answers_of (after_call s c) cs))

  -- The stores of one call and then those of the others.
  goes_on : (c : Call) → FromPlace (step s c).stores
      → Shaped ((step s c).stores ++ stores_of (after_call s c) cs) (closed_by cs (answers_of (after_call s c) cs))
  goes_on c p =
      let n = after_call s c in shaped_after (step s c).stores (stores_of n cs) (closed_by cs (answers_of n cs)) p (later n (after_end s c outside))

  -- A call that leaves the writer closed or stopped.
  ends : (c : Call) (b : Bool) → (step s c).writer.live ≡ false → Shaped (step s c).stores b
      → Shaped ((step s c).stores ++ stores_of (after_call s c) cs) (b || closed_by cs (answers_of (after_call s c) cs))
  ends c b asleep p =
      let n = after_call s c in
      rw (asleep_stores n asleep cs, append-nil (step s c).stores, asleep_closed n asleep cs) (same b p)
    where
      same : (b : Bool) → Shaped (step s c).stores b → Shaped (step s c).stores (b || false)
      same true q = q
      same false q = q

  close_after : (allowance : ℕ) (t : RefusalCode) (b : Bool) → eqb t.number 23 ≡ b → (step s (close allowance)).answer ≡ refused t → ShapedAfter (close allowance) (refused t)
  close_after allowance t true e h = ends (close allowance) false (sleeps_asleep s (close allowance) (step_sleeps s (close allowance) t h e)) (close_spent s outside allowance t h e)
  close_after allowance t false e h = goes_on (close allowance) (rw (step_refused s t e (close allowance) h) tt)

  by_answer : (c : Call) (a : Answer ℕ) → (step s c).answer ≡ a → ShapedAfter c a
  by_answer (make parent name) (accepted n) h = goes_on (make parent name) (rw (make_stores s parent name) tt)
  by_answer (make parent name) (refused t) h = goes_on (make parent name) (rw (make_stores s parent name) tt)
  by_answer (put node type bytes allowance) (accepted n) h = goes_on (put node type bytes allowance) (put_after_lem s outside node type bytes allowance)
  by_answer (put node type bytes allowance) (refused t) h = goes_on (put node type bytes allowance) (put_after_lem s outside node type bytes allowance)
  by_answer (close allowance) (accepted n) h = ends (close allowance) true (sleeps_asleep s (close allowance) (close_sleeps s allowance h)) (rw (needed_made s (close allowance) h) (close_shape s outside))
  by_answer (close allowance) (refused t) h = close_after allowance t (eqb t.number 23) refl h

pub run_shape : (cs : List Call) (s : State) → 1 ≤ s.writer.end → Shaped (stores_of s cs) (closed_by cs (answers_of s cs))
run_shape [] s outside = tt
run_shape (c ∷ cs) s outside = by_answer s outside cs (run_shape cs) c (step s c).answer refl
