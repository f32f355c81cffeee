-- Runs of examples: begin is accepted, the answers are those computed from the tree, and the stores are counted by them. Assumes nothing.
use mathlib.Core.Path.{◌≡◌, refl, ap, ◌∙◌, subst}
use mathlib.Core.Bool.{true, false}
use mathlib.Core.List.{List, []}
use Prim.Native.Nat.{ℕ, ◌+◌, ◌≤◌}
use native.Mathlib.Omega.{arith}
use lib.ListN.{length, length-append}
use lib.Seq.{take-length}
use borrow.Author.Tests.{eq-eqb, le-ltb}
use Rattle.aff_format.specs.Answer.{Answer, accepted}
use Rattle.aff_format.specs.Edition.{edition_number, is_written, header_size, edition_by}
use Rattle.aff_format.specs.Limits.{image_limit, text_area, tree_area}
use Rattle.aff_format.specs.Tree.{Tree}
use Rattle.aff_format.specs.declared.edition.Edition.{Edition}
use Rattle.aff_format.specs.declared.edition.Edition.TheVariants.{One, Two, Three}
use Rattle.aff_format.proofs.ClimbLaws.{absurd_bool}
use Rattle.aff_format.proofs.EditionLaws.{edition_by_number, written_named, length_number_form}
use Rattle.aff_areas.specs.Stores.{apply_stores}
use Rattle.aff_write.specs.Begin.{begin_lengths_wrong, begin_answer}
use Rattle.aff_run.specs.AnswersFromTree.{AnswersFromTree}
use Rattle.aff_run.specs.Run.{Call, begin_step, stores_of, Run, run_begin, run_start, run_answers, run_stores, run_tree, run_closed}
use Rattle.aff_read.specs.Shows.{Shows}
use Rattle.aff_run.proofs.AnswersFromTreeLaws.{run_from_tree, expected, answers_expected}
use Rattle.aff_run.proofs.BeginInvariantLaws.{begin_stores_lem}
use Rattle.aff_run.proofs.CutLaws.{stores_by, stores_counted}
use Rattle.aff_run.proofs.OrdersLaws.{length_answers}
use Rattle.aff.specs.Demand3.{buffer_at}
use Rattle.aff.specs.WorkedOrders.{run_in}
use Rattle.aff.proofs.Demand3Laws.{demand3}

-- Data begin at 168 in each written edition.
pub data_at : (e : Edition) → is_written e ≡ true → header_size e ≡ 168
data_at One w = absurd_bool w
data_at Two w = refl
data_at Three w = refl

-- ---- Runs with any areas of their lengths.

module _ (e : Edition) (w : is_written e ≡ true) (buffer text tree : List ℕ) (begins : ℕ) (calls : List Call) (x : length text ≡ text_area) (t : length tree ≡ tree_area) (b : 1 ≤ begins) where
  abbrev run : Run
  run = run_in e buffer text tree begins calls

  pub begin_accepted : 168 ≤ length buffer → length buffer ≤ image_limit → (run_begin run).answer ≡ accepted 1
  unfolding begin_step begin_answer begin_lengths_wrong
  begin_accepted lo hi =
      let place : header_size (edition_by (edition_number e)) ≡ 168 = ap header_size (edition_by_number e) ∙ data_at e w in
      rw (length_number_form e, written_named (edition_number e) (e, refl, w), place, eq-eqb (length text) text_area x, eq-eqb (length tree) tree_area t, le-ltb image_limit (length buffer) hi, le-ltb (length buffer) 168 lo, le-ltb begins 1 b)

  -- The answers are those expected in a buffer of that size.
  pub answers_are : (size : ℕ) → length buffer ≡ size → 168 ≤ size → size ≤ image_limit → run_answers run ≡ expected e size false (header_size e) [] calls
  answers_are size r lo hi =
      answers_expected calls e (length buffer) false (header_size e) [] (run_answers run) (length_answers (run_start run) calls)
      (subst (λ (d : Edition). AnswersFromTree d (length buffer) false (header_size d) [] calls (run_answers run)) (edition_by_number e)
      (run_from_tree run (begin_accepted (omega arith) (omega arith))))
      ∙ ap (λ (n : ℕ). expected e n false (header_size e) [] calls) r

-- The stores of a run, by its answers.
pub stores_are : (run : Run) {n : ℕ} → (run_begin run).answer ≡ accepted n → {answers : List (Answer ℕ)} → run_answers run ≡ answers → length (run_stores run) ≡ 1 + stores_by run.calls answers
stores_are run h {answers} is =
    let begun : length (run_begin run).stores ≡ 1 = ap length (begin_stores_lem run h) in
    let later = stores_counted (run_start run) run.calls ∙ ap (stores_by run.calls) is in
    length-append (run_begin run).stores (stores_of (run_start run) run.calls) ∙ omega (arith, begun, later)

-- Demand 3 of a run with a close accepted: the buffer after all its stores shows the tree described.
pub run_shows : (run : Run) (shown : Tree) → run_tree run ≡ shown → run_closed run ≡ true → Shows (apply_stores run.buffer (run_stores run)) run.form shown
run_shows run shown e c =
    let all = run_stores run in
    subst (λ (i : List ℕ). Shows i run.form shown) (ap (apply_stores run.buffer) (take-length all))
    (subst (λ (z : Tree). Shows (buffer_at run (length all)) run.form z) e ((demand3 run (length all) (omega arith)).all_made refl c))
