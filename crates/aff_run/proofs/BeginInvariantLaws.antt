-- An accepted begin leaves record, areas and buffer of the empty tree: no string, no node, no data, and both areas zero. From its checks: each
-- area has its own length, the form is 12 bytes, and the buffer holds a header. Assumes nothing.
use mathlib.Core.Path.{◌≡◌, refl, sym, ap, ◌∙◌}
use mathlib.Core.Bool.{false, not, ◌||◌}
use mathlib.Core.List.{List, [], ◌∷◌}
use Prim.Native.Nat.{ℕ, ◌-◌, ◌≤◌}
use native.Mathlib.Omega.{arith}
use lib.Dec.{eqb, ltb}
use lib.ListN.{length, take, replicate, length-replicate}
use borrow.Author.Tests.{eqb-true, ltb-false, not-false}
use Rattle.aff_format.specs.Answer.{accepted, Check, Clear}
use Rattle.aff_format.specs.Edition.{header_size, edition_by, names_written, NamesWritten}
use Rattle.aff_format.specs.Limits.{image_limit, text_area, tree_area}
use Rattle.aff_format.specs.Strings.{text_of}
use Rattle.aff_format.proofs.AnswerLaws.{passed, passed_value}
use Rattle.aff_format.proofs.EditionLaws.{names_written_lem}
use Rattle.aff_format.proofs.TestLaws.{or_false}
use Rattle.aff_areas.specs.Stores.{apply_stores, stores_from}
use Rattle.aff_areas.specs.Writer.{fresh_writer}
use Rattle.aff_areas.proofs.StoreLaws.{apply_length}
use Rattle.aff_write.specs.Begin.{begin_lengths_wrong, begin_stores, begin_checks, begin_answer}
use Rattle.aff_run.specs.TreeSizes.{names_from, entries_size, size_of}
use Rattle.aff_run.specs.Run.{no_data, begin_step, Run, run_begin, run_start}
use Rattle.aff_run.proofs.InvariantLaws.{Invariant, Blank, ZerosAfter}
use Rattle.aff_run.proofs.SlotsLaws.{slots_of}

-- What is passed is right where check 1 finds nothing.
pub lengths_right : (buffer form text tree : List ℕ) → begin_lengths_wrong buffer form text tree ≡ false
    → (length form ≡ 12) × (length text ≡ text_area) × (length tree ≡ tree_area) × (length buffer ≤ image_limit)
unfolding begin_lengths_wrong
lengths_right buffer form text tree h =
    let a = or_false (not (eqb (length form) 12)) (not (eqb (length text) text_area) || (not (eqb (length tree) tree_area) || ltb image_limit (length buffer))) h in
    let b = or_false (not (eqb (length text) text_area)) (not (eqb (length tree) tree_area) || ltb image_limit (length buffer)) a.1 in
    let c = or_false (not (eqb (length tree) tree_area)) (ltb image_limit (length buffer)) b.1 in (
      eqb-true (length form) 12 (not-false (eqb (length form) 12) a.0),
      eqb-true (length text) text_area (not-false (eqb (length text) text_area) b.0),
      eqb-true (length tree) tree_area (not-false (eqb (length tree) tree_area) c.0),
      ltb-false image_limit (length buffer) c.1,
    )

-- The empty tree adds nothing to header and data.
pub no_size : (end : ℕ) → size_of end [] ≡ end
unfolding size_of entries_size names_from text_of
no_size end = omega arith

blank_zeros : (n : ℕ) → Blank (replicate n 0)
blank_zeros n = ap (λ (k : ℕ). replicate k 0) (sym (length-replicate n 0))

-- The record of an accepted begin, over any areas of the right lengths.
pub empty_invariant : (edition size : ℕ) (buffer form text tree : List ℕ) → length buffer ≡ size → length form ≡ 12 → length text ≡ text_area → length tree ≡ tree_area → size ≤ image_limit
    → NamesWritten edition → header_size (edition_by edition) ≤ size → Invariant (record { writer = fresh_writer edition size form; text = text; tree = tree; buffer = buffer }) [] (no_data (header_size (edition_by edition)))
unfolding names_from text_of slots_of
empty_invariant edition size buffer form text tree n f x t few named large =
    record {
      entries = [];
      text_rest = text;
      tree_rest = tree;
      text_is = refl;
      tree_is = refl;
      text_area_is = x;
      tree_area_is = t;
      edition_written = named;
      buffer_length = n;
      buffer_allowed = few;
      form_length = f;
      strings_count = refl;
      strings_few = omega arith;
      text_count = refl;
      nodes_count = refl;
      nodes_few = omega arith;
      after_header = omega arith;
      live = refl;
      fits = rw (no_size (header_size (edition_by edition))) large;
      subkeys = tt;
      distinct = λ i k l m e. omega arith;
      each = tt;
      end_is = refl;
      offsets_are = refl;
      stored_are = let z : header_size (edition_by edition) - header_size (edition_by edition) ≡ 0 = omega arith in rw z;
      siblings = λ j k lo l hi p q. omega arith;
    }

module _ (run : Run) {n : ℕ} (h : (run_begin run).answer ≡ accepted n) where
  abbrev checks : List Check
  checks = begin_checks run.edition run.buffer run.form run.text run.tree run.allowance

  clear : Clear checks
  unfolding begin_step begin_answer
  clear = passed checks 1 h

  reported : 1 ≡ n
  unfolding begin_step begin_answer
  reported = passed_value checks 1 h

  pub begin_invariant : Invariant (run_start run) [] (no_data (header_size (edition_by run.edition)))
  unfolding begin_step
  begin_invariant =
      let a = lengths_right run.buffer run.form run.text run.tree clear.0 in
      let buffer = apply_stores run.buffer (take n begin_stores) in
      rw h
      (empty_invariant run.edition (length run.buffer) buffer run.form (replicate (length run.text) 0) (replicate (length run.tree) 0)
      (apply_length run.buffer (take n begin_stores)) a.0 (length-replicate (length run.text) 0 ∙ a.1) (length-replicate (length run.tree) 0 ∙ a.2)
      a.3 (names_written_lem run.edition (not-false (names_written run.edition) clear.1.0))
      (ltb-false (length run.buffer) (header_size (edition_by run.edition)) clear.1.1.0))

  pub begin_after : ZerosAfter (run_start run) []
  unfolding begin_step names_from text_of
  begin_after = rw h (record { text_blank = blank_zeros (length run.text); tree_blank = blank_zeros (length run.tree) })

  pub begin_edition : (run_begin run).writer.edition ≡ run.edition
  unfolding begin_step
  begin_edition = rw h

  pub begin_end : (run_begin run).writer.end ≡ header_size (edition_by run.edition)
  unfolding begin_step
  begin_end = rw h

  pub begin_form : (run_begin run).writer.form ≡ run.form
  unfolding begin_step
  begin_form = rw h

  pub begin_stores_lem : (run_begin run).stores ≡ record { at = 0; byte = 0 } ∷ []
  unfolding begin_step stores_from
  begin_stores_lem = rw (h, ← reported)
