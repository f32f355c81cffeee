-- A refused begin stores nothing and leaves a record that is not live, so nothing is stored and no close accepted after it. Assumes nothing.
use mathlib.Core.Path.{◌≡◌, refl, ap, ap₂}
use mathlib.Core.Bool.{Bool, true, false, cond, not}
use mathlib.Core.List.{List, [], ◌∷◌, ◌++◌}
use Prim.Native.Nat.{◌<◌}
use native.Mathlib.Omega.{arith}
use lib.Dec.{eqb, ltb}
use lib.ListN.{length, take}
use borrow.Author.Tests.{ltb-true}
use Rattle.aff_format.specs.Edition.{header_size, edition_by, names_written}
use Rattle.aff_format.specs.Answer.{refused, Check, check, refusal, refusal_at, Clear}
use Rattle.aff_format.specs.declared.refusal.RefusalCode.{RefusalCode}
use Rattle.aff_format.proofs.AnswerLaws.{last_reported}
use Rattle.aff_areas.specs.Stores.{Store}
use Rattle.aff_areas.specs.Writer.{no_writer, fresh_writer, stopped}
use Rattle.aff_write.specs.Begin.{begin_lengths_wrong, begin_stores, begin_answer}
use Rattle.aff_run.specs.Run.{begin_step, Run, run_begin, run_start, run_stores, run_closed}
use Rattle.aff_run.proofs.StepLaws.{asleep_stores, asleep_closed}

module _ (run : Run) (t : RefusalCode) (h : (run_begin run).answer ≡ refused t) where
  abbrev pub before : List Check
  before =
      check (begin_lengths_wrong run.buffer run.form run.text run.tree) (refusal 1)
      ∷ check (not (names_written run.edition)) (refusal 3)
      ∷ check (ltb (length run.buffer) (header_size (edition_by run.edition))) (refusal 21)
      ∷ []

  -- A 23 found nothing wrong before, and reports the allowance, which is below 1.
  pub begin_spent : eqb t.number 23 ≡ true → Clear before × (run.allowance < 1) × (t ≡ refusal_at 23 run.allowance)
  unfolding begin_step begin_answer
  begin_spent e =
      let q = last_reported 23 before refl (ltb run.allowance 1) (refusal_at 23 run.allowance) 1 h e in
      (q.0, ltb-true run.allowance 1 q.1, q.2)

  no_stores : (b : Bool) → eqb t.number 23 ≡ b → take (cond b t.place 0) begin_stores ≡ []
  no_stores false e = refl
  no_stores true e =
      let q = begin_spent e in
      let z : t.place ≡ 0 = omega (arith, q.1, ap (λ (x : RefusalCode). x.place) q.2) in
      rw z

  pub none_stored : (run_begin run).stores ≡ []
  unfolding begin_step
  none_stored = rw h (no_stores (eqb t.number 23) refl)

  pub asleep : (run_begin run).writer.live ≡ false
  unfolding begin_step
  asleep = rw h (go (eqb t.number 23))
    where
      go : (b : Bool) → (cond b (stopped (fresh_writer run.edition (length run.buffer) run.form)) no_writer).live ≡ false
      go true = refl
      go false = refl

  pub none_run : run_stores run ≡ []
  none_run = ap₂ (λ (a b : List Store). a ++ b) none_stored (asleep_stores (run_start run) asleep run.calls)

  pub none_closed : run_closed run ≡ false
  none_closed = asleep_closed (run_start run) asleep run.calls
