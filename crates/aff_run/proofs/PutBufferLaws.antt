-- What a put leaves in the buffer, in any state and whatever it answers: the first bytes of padding and data, as many as it reports, from the end of data on. Where it
-- stores at all, the record belongs and the bytes fit. Assumes nothing.
use mathlib.Core.Path.{◌≡◌, refl, sym, ap, ◌∙◌}
use mathlib.Core.Bool.{Bool, true, false}
use mathlib.Core.List.{List, [], ◌∷◌, ◌++◌}
use Prim.Native.Nat.{ℕ, ◌+◌, ◌≤◌}
use native.Mathlib.Nat.{add-zero}
use native.Mathlib.Omega.{arith}
use lib.Dec.{eqb, ltb}
use lib.ListN.{length, take, replicate, length-append, length-replicate, length-take, take-append-drop}
use borrow.Author.Tests.{ltb-false, not-false}
use Rattle.aff_format.specs.Align.{padding}
use Rattle.aff_format.specs.Answer.{Answer, accepted, refused, check, refusal_at, Clear}
use Rattle.aff_format.specs.Bytes.{spliced}
use Rattle.aff_format.specs.declared.refusal.RefusalCode.{RefusalCode}
use Rattle.aff_format.proofs.AnswerLaws.{passed, clear_both, last_reported}
use Rattle.aff_areas.specs.Areas.{finished_size}
use Rattle.aff_areas.specs.Stores.{apply_stores, stores_reported}
use Rattle.aff_areas.proofs.BelongsLaws.{belongs_record, end_inside}
use Rattle.aff_areas.proofs.StoreLaws.{take_stores_from, apply_spliced}
use Rattle.aff_write.specs.Put.{put_stores, put_answer}
use Rattle.aff_run.specs.Run.{put, State, step, after_call}
use Rattle.aff_run.proofs.CutLaws.{put_before}
use Rattle.aff_run.proofs.RunLaws.{next_unchanged}

-- Nothing written leaves a list as it is.
spliced_none : (at : ℕ) (l : List ℕ) → spliced at [] l ≡ l
unfolding spliced
spliced_none at l = rw add-zero (take-append-drop at l)

module _ (s : State) (node type : ℕ) (bytes : List ℕ) (allowance : ℕ) where
  abbrev laid : List ℕ
  laid = replicate (padding s.writer.end) 0 ++ bytes

  abbrev check_spent : Bool
  check_spent = ltb allowance (length (put_stores s.writer bytes))

  -- Where the checks before 23 find nothing wrong, padding and data fit.
  put_fits : Clear (put_before s node type bytes) → s.writer.end + length laid ≤ length s.buffer
  put_fits clear =
      let b = belongs_record (not-false _ clear.0) in
      let f = ltb-false s.writer.length (finished_size s.writer s.tree + 12 + padding s.writer.end + length bytes) clear.1.1.1.1.1.0 in
      omega (
        arith,
        f,
        b.length_recorded,
        end_inside s.writer s.tree,
        length-append (replicate (padding s.writer.end) 0) bytes,
        length-replicate {A = ℕ} (padding s.writer.end) 0,
      )

  -- Then the first k stores are the first k bytes.
  stores_laid : (k : ℕ) → s.writer.end + length laid ≤ length s.buffer
      → apply_stores s.buffer (take k (put_stores s.writer bytes)) ≡ spliced s.writer.end (take k laid) s.buffer
  stores_laid k f =
      ap (apply_stores s.buffer) (take_stores_from k s.writer.end laid) ∙ apply_spliced s.writer.end (take k laid) s.buffer (omega (arith, f, length-take k laid))

  abbrev Left : Answer ℕ → Type 0
  Left a = (after_call s (put node type bytes allowance)).buffer ≡ spliced s.writer.end (take (stores_reported a) laid) s.buffer

  by_number : (t : RefusalCode) (b : Bool) → eqb t.number 23 ≡ b → (step s (put node type bytes allowance)).answer ≡ refused t → Left (refused t)
  unfolding step put_answer
  by_number t true e h =
      let q = last_reported 23 (put_before s node type bytes) refl check_spent (refusal_at 23 allowance) (length (put_stores s.writer bytes)) h e in
      rw h (stores_laid (stores_reported (refused t)) (put_fits q.0))
  by_number t false e h =
      ap (λ (x : State). x.buffer) (next_unchanged s (put node type bytes allowance) t e h) ∙ rw e (sym (spliced_none s.writer.end s.buffer))

  by_answer : (a : Answer ℕ) → (step s (put node type bytes allowance)).answer ≡ a → Left a
  unfolding step put_answer
  by_answer (accepted n) h =
      let c = passed (put_before s node type bytes ++ (check check_spent (refusal_at 23 allowance) ∷ [])) (length (put_stores s.writer bytes)) h in
      let f = put_fits (clear_both (put_before s node type bytes) (check check_spent (refusal_at 23 allowance) ∷ []) c).0 in
      rw h (stores_laid n f)
  by_answer (refused t) h = by_number t (eqb t.number 23) refl h

  pub put_buffer : Left (step s (put node type bytes allowance)).answer
  put_buffer = by_answer (step s (put node type bytes allowance)).answer refl
