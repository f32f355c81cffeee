-- What each call leaves: by cases on its answer in the definitions of what it leaves. Of opening, that no check but the first reports 1. Assumes nothing.
use mathlib.Core.Path.{◌≡◌, refl, sym, ap, ◌∙◌}
use mathlib.Core.Bool.{Bool, true, false, not}
use mathlib.Core.List.{List, [], ◌∷◌, ◌++◌}
use Prim.Native.Nat.{ℕ, ◌≤◌}
use native.Mathlib.Omega.{arith}
use lib.Dec.{eqb, ltb}
use lib.ListN.{length, take, drop, set}
use lib.Seq.{take-nil}
use borrow.Author.Tests.{eq-eqb, ne_eqb, not-false}
use Rattle.aff_format.specs.Answer.{accepted, refused, check, refusal}
use Rattle.aff_format.specs.declared.refusal.RefusalCode.{RefusalCode}
use Rattle.aff_format.proofs.AnswerLaws.{is_none, Others, others_reported, passed}
use Rattle.aff_open.specs.Opening.{lengths_wrong, header_checks, body_checks, nodes_checked, up_to_tables, open_checks, open_answer, reader_for, strings_after, entries_after}
use Rattle.aff_open.specs.Sections.{edition_in}
use Rattle.aff_reader.specs.declared.reader.Reader.{Reader}
use Rattle.aff_reader.specs.Belongs.{reader_belongs}
use Rattle.aff_reader.proofs.BelongsLaws.{belongs_record}
use Rattle.aff_open.proofs.NumbersLaws.{open_numbers_lem}
use Rattle.aff_nodes.specs.Answers.{exists_checks as numberChecks}
use Rattle.aff_read.specs.Paths.{path_answer}
use Rattle.aff_nodes.specs.Recall.{path_at}
use Rattle.aff_listing.proofs.ListedLaws.{order_length}
use Rattle.aff_areas.specs.Stores.{apply_stores}
use Rattle.aff_areas.specs.Writer.{stopped}
use Rattle.aff_run.specs.Run.{Call, make, put, close, State, next, begin_step, needed, completed, step, after_call, Run, run_begin, run_start}
use Rattle.aff_run.proofs.BeginInvariantLaws.{begin_stores_lem}
use Rattle.aff_run.proofs.BeginRefusedLaws.{none_stored}
use Rattle.aff_run.proofs.PutBufferLaws.{put_buffer}
use Rattle.aff_run.proofs.RunLaws.{needed_made, next_unchanged, step_end}
use Rattle.aff.specs.Leaves.{OpeningLeaves, ReadingLeaves, BeginLeaves, WritingLeaves}
use Rattle.aff_listing.specs.ListingOrder.{listing_order, listed_count, listing_answer}
use Rattle.aff_listing.specs.declared.choice.Choice.{Choice}
use Rattle.aff_read.proofs.OutputLaws.{text_fits, wrote}

-- ---- Opening.

-- The checks after the first report other numbers than 1.
later_others : (image form : List ℕ) (strings entries : ℕ)
    → Others 1 (header_checks image form ++ (body_checks (edition_in image) image ++ nodes_checked (edition_in image) image))
unfolding open_checks up_to_tables
later_others image form strings entries = ap (λ (ns : List ℕ). is_none 1 (drop 1 ns)) (open_numbers_lem image form strings entries)

-- So 1 is reported exactly where something passed has a wrong length.
first_alone : (image form : List ℕ) (strings entries : ℕ) {t : RefusalCode} → open_answer image form strings entries ≡ refused t → lengths_wrong image form strings entries ≡ eqb t.number 1
unfolding open_checks up_to_tables
first_alone image form strings entries {t} h = go (lengths_wrong image form strings entries) refl
  where
    go : (b : Bool) → lengths_wrong image form strings entries ≡ b → b ≡ eqb t.number 1
    go true w = let q : refused (refusal 1) ≡ refused t = rw w at h in let p : refusal 1 ≡ t = cc in ap (λ (x : RefusalCode). eqb x.number 1) p
    go false w =
        sym (others_reported 1 (header_checks image form ++ (body_checks (edition_in image) image ++ nodes_checked (edition_in image) image)) (later_others image form strings entries) (reader_for (edition_in image) image) (rw w at h))

passed_first : (image form : List ℕ) (strings entries : ℕ) {r : Reader} → open_answer image form strings entries ≡ accepted r → lengths_wrong image form strings entries ≡ false
unfolding open_checks up_to_tables
passed_first image form strings entries h = (passed (open_checks image form strings entries) (reader_for (edition_in image) image) h).0

pub opening_leaves : (image form strings entries : List ℕ) → OpeningLeaves image form strings entries
unfolding strings_after entries_after
opening_leaves image form strings entries =
    let n = length strings in
    let m = length entries in
    record {
      by_1 = λ t h e. let w = first_alone image form n m h ∙ eq-eqb t.number 1 e in (rw w, rw w);
      by_others = λ t h e. let w = first_alone image form n m h ∙ ne_eqb t.number 1 e in (rw (w, h), rw (w, h));
      by_acceptance = λ r h. let w = passed_first image form n m h in (rw (w, h), rw (w, h));
      zero_record = λ t h. rw h;
    }

-- ---- Outputs.

module _ (image : List ℕ) (r : Reader) (strings entries : List ℕ) where
  listing_fits : (choice : Choice) (size : ℕ) {n : ℕ} → listing_answer image r strings entries choice size ≡ accepted n
      → (n ≡ length (listing_order image r strings entries choice)) × (length (listing_order image r strings entries choice) ≤ size)
  unfolding listing_answer
  listing_fits choice size h =
      let checks = check (not (reader_belongs image r strings entries)) (refusal 24) ∷ [] in
      let count = listed_count image r strings entries choice in
      let (e, l) = text_fits checks size count h in
      let c = passed (checks ++ (check (ltb size count) (refusal 21) ∷ [])) count h in
      let k = order_length (belongs_record (not-false (reader_belongs image r strings entries) c.0)) choice in
      (e ∙ sym k, omega (arith, k))

  pub reading_leaves : ReadingLeaves image r strings entries
  unfolding path_answer
  reading_leaves =
      record {
        path = λ node out.
            wrote (path_answer image r strings entries node (length out)) (path_at image r strings entries node) out
            (λ n h. text_fits (numberChecks image r strings entries node) (length out) (length (path_at image r strings entries node)) h);
        listing = λ choice out.
            wrote (listing_answer image r strings entries choice (length out)) (listing_order image r strings entries choice) out
            (λ n h. listing_fits choice (length out) h);
        no_name = λ node t h. rw h;
        no_view = λ node t h. rw h;
      }

-- ---- Begin.

module _ (run : Run) where
  begin_buffer : {n : ℕ} → (run_begin run).answer ≡ accepted n → (run_start run).buffer ≡ set run.buffer 0 0
  unfolding apply_stores
  begin_buffer h = rw (begin_stores_lem run h)

  kept_buffer : (t : RefusalCode) → (run_begin run).answer ≡ refused t → (run_start run).buffer ≡ run.buffer
  unfolding apply_stores
  kept_buffer t h = rw (none_stored run t h)

  pub begin_leaves : BeginLeaves run
  unfolding begin_step
  begin_leaves =
      record {
        by_acceptance = λ n h. rw (begin_buffer h) (rw h);
        by_23 = λ t h e. rw (kept_buffer t h) (rw (h, eq-eqb t.number 23 e));
        by_others = λ t h e. rw (kept_buffer t h) (rw (h, ne_eqb t.number 23 e));
      }

-- ---- Make, put and close.

done : (s : State) (c : Call) (n : ℕ) → (step s c).answer ≡ accepted n → next (step s c) s.buffer ≡ completed s c
unfolding step apply_stores
done s (make parent name) n h = rw (h, take-nil n)
done s (put node type bytes allowance) n h = rw (needed_made s (put node type bytes allowance) h) (rw h)
done s (close allowance) n h = rw (needed_made s (close allowance) h) (rw h)

spent : (s : State) (c : Call) (t : RefusalCode) → (step s c).answer ≡ refused t → eqb t.number 23 ≡ true
    → after_call s c ≡ record { writer = stopped s.writer; text = s.text; tree = s.tree; buffer = apply_stores s.buffer (take t.place (needed s c)) }
unfolding step
spent s c t h e = rw (h, e)

pub writing_leaves : (s : State) (c : Call) → WritingLeaves s c
writing_leaves s c =
    record {
      by_acceptance = done s c;
      by_23 = λ t h e. spent s c t h (eq-eqb t.number 23 e);
      by_others = λ t h e. next_unchanged s c t (ne_eqb t.number 23 e) h;
      end_moved = step_end s c;
      put_buffer = λ node type bytes allowance e. rw e (put_buffer s node type bytes allowance);
    }
