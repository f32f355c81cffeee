-- What the drill leaves and answers, for every allowance: the worked run makes 215 stores, so by demand 3 fewer leave a buffer that is refused by 3 and
-- all of them one that opens. With none the buffer is as it was. Assumes nothing.
use mathlib.Core.Path.{◌≡◌, refl, sym, ap, subst, ◌∙◌}
use mathlib.Core.Bool.{Bool, true, false, cond}
use mathlib.Core.List.{List}
use Prim.Native.Nat.{ℕ, zero, suc, ◌+◌, ◌≤◌, ◌<◌}
use native.Mathlib.Omega.{arith}
use lib.Dec.{ltb}
use lib.ListN.{length, get_or, replicate, length-replicate}
use lib.Seq.{take_all}
use borrow.Author.Tests.{ltb-true, ltb-false}
use Rattle.aff_format.specs.declared.edition.Edition.TheVariants.{Two}
use Rattle.aff_format.specs.Answer.{accepted, refused, refusal, Check, first_wrong}
use Rattle.aff_format.proofs.EditionLaws.{length_number_form}
use Rattle.aff_format.specs.Limits.{string_limit, node_limit, text_area, tree_area}
use Rattle.aff_format.specs.Verdict.{answer_of}
use Rattle.std.specs.Prelude.{Result, Ok, Err}
use Rattle.aff_format.proofs.AnswerLaws.{passed, clear_accepts, same_refusal}
use Rattle.aff_open.specs.Opening.{open_checks, open_answer}
use Rattle.aff_reader.specs.declared.reader.Reader.{Reader}
use Rattle.aff_areas.specs.Stores.{apply_stores}
use Rattle.aff_run.specs.Run.{Run, run_stores}
use Rattle.aff.specs.Demand3.{buffer_at}
use Rattle.aff.specs.Worked.{worked_form, worked_file, WorkedRun}
use Rattle.aff.proofs.Demand3Laws.{zero_refused, demand3, demand3_cut}
use Rattle.aff.proofs.WorkedLaws.{worked}
use Rattle.aff_drill.specs.Drill.{drill_run, CutRun, CutDrill, reopened, drilled}
use Rattle.aff_format.specs.declared.refusal.Refusal.{Refusal}

-- What the drill makes of an opening.
abbrev pub opened : Result Reader Refusal → Result (Unit {0}) Refusal
opened (Ok r) = Ok tt
opened (Err q) = Err q

opened_reported : (checks : List Check) (o : Result Reader Refusal) (reader : Reader) → answer_of o ≡ first_wrong checks reader
    → answer_of (opened o) ≡ first_wrong checks (tt {0})
opened_reported checks (Ok r) reader h = sym (clear_accepts checks tt (passed checks reader (sym h)))
opened_reported checks (Err q) reader h = sym (same_refusal checks reader tt (sym h))

-- Any buffer of 214 bytes with a zero at place 0, and any areas of their lengths.
module _ (buffer text tree : List ℕ) (r : length buffer ≡ 214) (z : get_or buffer 0 0 ≡ 0) (x : length text ≡ text_area) (t : length tree ≡ tree_area) (k : ℕ) where
  -- An allowance that suffices for each call, and is not below k.
  abbrev most : ℕ
  most = k + 215

  abbrev run : Run
  run = drill_run buffer (worked_form Two) text tree most

  whole : WorkedRun Two run
  whole = worked Two refl buffer text tree most most most r x t (omega arith) (omega arith) (omega arith)

  none_made : open_answer buffer (worked_form Two) string_limit node_limit ≡ refused (refusal 3)
  none_made = zero_refused buffer (worked_form Two) (length_number_form Two) (omega arith) (omega arith) z

  some_made : (j : ℕ) → j ≡ k → k < 215 → open_answer (buffer_at run k) (worked_form Two) string_limit node_limit ≡ refused (refusal 3)
  some_made zero e l =
      ap (λ (i : List ℕ). open_answer i (worked_form Two) string_limit node_limit) ((demand3 run k (omega arith)).none_made (sym e)) ∙ none_made
  some_made (suc j) e l =
      let n = whole.stores in
      (demand3 run k (omega arith)).otherwise (omega arith) (λ q. let m = q.0 in omega arith) (worked_form Two) (length_number_form Two)

  all_made : 215 ≤ k → (reader : Reader) × (open_answer (buffer_at run k) (worked_form Two) string_limit node_limit ≡ accepted reader)
  all_made l =
      let n = whole.stores in
      let e : buffer_at run k ≡ worked_file Two = ap (apply_stores buffer) (take_all k (run_stores run) (omega arith)) ∙ whole.file in
      (whole.shows.reader, ap (λ (i : List ℕ). open_answer i (worked_form Two) string_limit node_limit) e ∙ whole.shows.opens)

  module _ (after : List ℕ) (h : CutRun buffer (worked_form Two) text tree k after) where
    after_is : after ≡ buffer_at run k
    after_is = h most (omega arith) ∙ (demand3_cut run k).buffer_left

    abbrev checks : List Check
    checks = open_checks (buffer_at run k) (worked_form Two) string_limit node_limit

    by_count : (b : Bool) → ltb k 215 ≡ b → reopened (buffer_at run k) ≡ cond b (refused (refusal 3)) (accepted tt)
    by_count true e = same_refusal checks _ tt (some_made k refl (ltb-true k 215 e))
    by_count false e = clear_accepts checks tt (passed checks _ (all_made (ltb-false k 215 e)).1)

    reopened_is : reopened after ≡ drilled k
    reopened_is = ap reopened after_is ∙ by_count (ltb k 215) refl

-- What the drill leaves and answers, in any buffer of 214 bytes.
module _ (buffer after form : List ℕ) (n : length buffer ≡ 214) (k : ℕ) (o : Result Reader Refusal) (f : form ≡ (worked_form Two))
    (h : CutRun buffer form (replicate text_area 0) (replicate tree_area 0) k after) (reported : answer_of o ≡ open_answer after form string_limit node_limit) where
  cut : CutDrill buffer k after
  cut = subst (λ (l : List ℕ). CutRun buffer l (replicate text_area 0) (replicate tree_area 0) k after) f h

  answer : answer_of (opened o) ≡ reopened after
  answer =
      opened_reported (open_checks after form string_limit node_limit) o _ reported
      ∙ ap (λ (l : List ℕ). first_wrong (open_checks after l string_limit node_limit) tt) f

  from_zeros : buffer ≡ replicate 214 0 → answer_of (opened o) ≡ drilled k
  from_zeros z =
      let e : get_or buffer 0 0 ≡ 0 = ap (λ (l : List ℕ). get_or l 0 0) z in
      answer ∙ reopened_is buffer (replicate text_area 0) (replicate tree_area 0) n e (length-replicate {A = ℕ} text_area 0) (length-replicate {A = ℕ} tree_area 0) k after cut

  pub drill_reported : CutDrill buffer k after × ((answer_of (opened o) ≡ reopened after) × (buffer ≡ replicate 214 0 → answer_of (opened o) ≡ drilled k))
  drill_reported = (cut, (answer, from_zeros))
