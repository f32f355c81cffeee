-- What is decided before the first line, and what then holds: opening decides, then the paths. Assumes nothing.
use mathlib.Core.Path.{◌≡◌, refl, sym, ap, ◌∙◌}
use mathlib.Core.Bool.{Bool, true, false, not}
use mathlib.Core.Logic.{⊎_elim}
use mathlib.Core.List.{List, ◌++◌}
use Prim.Native.Nat.{ℕ, ◌≤◌, ◌<◌}
use native.Mathlib.Omega.{arith}
use lib.ListN.{length, take, drop, length-append}
use lib.Seq.{take_at}
use borrow.Author.Tests.{lt-ltb, le-ltb}
use Rattle.aff_format.specs.Answer.{Answer, accepted, refused, first_wrong}
use Rattle.aff_format.specs.Refusal.{code_of_refusal}
use Rattle.aff_format.specs.Verdict.{answer_of}
use Rattle.aff_format.specs.declared.refusal.Refusal.{Refusal}
use Rattle.std.specs.Prelude.{Option, Some, None, Result, Ok, Err, IsErrAnd}
use Rattle.aff_format.proofs.AnswerLaws.{not_both, passed, passed_value}
use Rattle.aff_format.proofs.LowestLaws.{none_at}
use Rattle.aff_format.proofs.VerdictLaws.{verdict_refuses, verdict_accepts}
use Rattle.aff_reader.specs.Belongs.{ReaderBelongs, reader_belongs}
use Rattle.aff_open.specs.Opening.{open_answer, strings_after, entries_after}
use Rattle.aff_open.specs.Sections.{form_for}
use Rattle.aff_reader.specs.declared.reader.Reader.{Reader}
use Rattle.aff_reader.proofs.BelongsLaws.{belongs_record}
use Rattle.aff_open.proofs.OpenedLaws.{opened_belongs}
use Rattle.aff_listing.specs.ListingOrder.{listing_order, listed_count}
use Rattle.aff_nodes.specs.Recall.{path_at}
use Rattle.aff_listing.specs.declared.choice.Choice.{Choice}
use Rattle.aff_spelling.specs.Within.{within}
use Rattle.aff_spelling.proofs.WithinLaws.{within_some, within_none}
use Rattle.aff_format.proofs.ClimbLaws.{le_or_lt}
use Rattle.std.specs.Option.{is_some}
use Rattle.aff_listing.proofs.ListedLaws.{order_exist, order_length, count_most}
use Rattle.aff_list.specs.Lister.{path_limit, path_too_long, path_checks, Ready, with_paths, judged, answer_of_prepared, lines_of, lines_by, lines_after, with_order, order_after}
use Rattle.aff_list.specs.declared.blocks.Prepared.{Prepared}

opposite : (b : Bool) {x : Bool} → x ≡ not b → not x ≡ b
opposite true e = ap not e
opposite false e = ap not e

-- Whether a path is too long, by its length where it is within the limit.
module _ (image : List ℕ) (reader : Reader) (strings entries : List ℕ) (k : ℕ) where
  pub path_measured : {o : Option ℕ} (b : Bool) → o ≡ within path_limit (length (path_at image reader strings entries k)) → is_some o ≡ not b
      → path_too_long image reader strings entries k ≡ b
  unfolding path_too_long
  path_measured b is some =
      let n : ℕ = length (path_at image reader strings entries k) in
      let decided = ap (λ (o : Option ℕ). not (is_some o)) (sym is) ∙ opposite b some in
      ⊎_elim (λ (h : n ≤ path_limit). le-ltb _ _ h ∙ ap (λ (o : Option ℕ). not (is_some o)) (within_some path_limit n h) ∙ decided)
      (λ (h : path_limit < n). lt-ltb _ _ h ∙ ap (λ (o : Option ℕ). not (is_some o)) (within_none path_limit n h) ∙ decided)
      (le_or_lt n path_limit)

-- After an accepted opening: the paths of the nodes listed decide.
module _ (image : List ℕ) (reader : Reader) (strings entries : List ℕ) (choice : Choice) where
  abbrev order : List ℕ
  order = listing_order image reader strings entries choice

  paths_ready : ReaderBelongs image reader strings entries → (a : Reader) → first_wrong (path_checks image reader strings entries order) reader ≡ accepted a
      → Ready image a strings entries (listing_order image a strings entries choice)
  paths_ready b a h =
      rw (sym (passed_value (path_checks image reader strings entries order) reader h))
      (record { belongs = b; exist = order_exist b choice; fits = none_at _ (passed (path_checks image reader strings entries order) reader h).0 })

  -- Listing order at the front of an area: as many numbers as are listed, and these.
  module _ (b : ReaderBelongs image reader strings entries) (o : List ℕ) where
    pub order_front : {lines : ℕ} {ns : List ℕ} → lines ≡ listed_count image reader strings entries choice → ns ≡ order ++ drop (length order) o
        → (lines ≤ length ns) × (take lines ns ≡ order)
    order_front {lines} {ns} l n = (
      omega (arith, l, order_length b choice, ap length n, length-append order (drop (length order) o)),
      rw (n, l) (take_at order (drop (length order) o) (listed_count image reader strings entries choice) (order_length b choice)),
    )

    -- The nodes measured are those listed, and so they decide.
    module _ (v : Result (Unit {0}) Refusal) {lines : ℕ} {ns : List ℕ} (l : lines ≡ listed_count image reader strings entries choice) (n : ns ≡ order ++ drop (length order) o)
        (m : answer_of v ≡ first_wrong (path_checks image reader strings entries (take lines ns)) (tt {0})) where
      measured : answer_of v ≡ first_wrong (path_checks image reader strings entries order) (tt {0})
      measured = m ∙ ap (λ (nodes : List ℕ). first_wrong (path_checks image reader strings entries nodes) (tt {0})) (order_front l n).1

      pub paths_refuse : (q : Refusal) → v ≡ Err q → refused (code_of_refusal q) ≡ with_paths image strings entries choice (accepted reader)
      paths_refuse q h = verdict_refuses (path_checks image reader strings entries order) v measured reader q h

      pub paths_accept : v ≡ Ok tt → accepted reader ≡ with_paths image strings entries choice (accepted reader)
      paths_accept h = verdict_accepts (path_checks image reader strings entries order) v measured reader reader h refl

    pub order_few : listed_count image reader strings entries choice ≤ 2049
    order_few = omega (arith, count_most b choice, b.few_nodes)

-- What `?` hands on of a refusal.
pub refused_on : (o : Result Prepared Refusal) (q : Refusal) → IsErrAnd o (λ p. p ≡ q) → (answer_of_prepared o ≡ refused (code_of_refusal q)) × (lines_of o ≡ 0)
refused_on (Ok a) q h = absurd h
refused_on (Err p) q h = (ap (λ (x : Refusal). refused (code_of_refusal x)) h, refl)

-- What is returned and left before the first line: the answer and the number of lines, the two areas, and listing order.
abbrev pub Decided : List ℕ → Choice → List ℕ → List ℕ → List ℕ → Answer Reader → ℕ → List ℕ → List ℕ → List ℕ → Type 0
Decided image choice strings entries numbers reported lines ss es ns =
    (reported ≡ judged image choice strings entries) × ((lines ≡ lines_after image choice strings entries)
    × ((ss ≡ strings_after image (form_for image) strings entries) × ((es ≡ entries_after image (form_for image) strings entries) × (ns ≡ order_after image choice strings entries numbers))))

-- What opening answered.
module _ (image : List ℕ) (choice : Choice) (strings entries numbers : List ℕ) {form ss es : List ℕ} (f : form ≡ form_for image) {a : Answer Reader}
    (reported : a ≡ open_answer image form (length strings) (length entries))
    (s : ss ≡ strings_after image form strings entries) (e : es ≡ entries_after image form strings entries) where
  pub judged_is : with_paths image ss es choice a ≡ judged image choice strings entries
  unfolding judged
  judged_is = rw (s, e, reported, f)

  pub order_is : with_order image ss es choice numbers a ≡ order_after image choice strings entries numbers
  unfolding order_after
  order_is = rw (s, e, reported, f)

  pub lines_is : (b : Answer Reader) → b ≡ with_paths image ss es choice a → lines_by image ss es choice b ≡ lines_after image choice strings entries
  unfolding lines_after
  lines_is b j = rw (s, e, j ∙ judged_is, f)

  pub opened_ready : (r : Reader) → a ≡ accepted r → reader_belongs image r ss es ≡ true
  opened_ready r h = rw (s, e) (opened_belongs image form strings entries (sym reported ∙ h))

  -- The two areas are as opening leaves them.
  pub strings_left_lem : ss ≡ strings_after image (form_for image) strings entries
  strings_left_lem = s ∙ ap (λ (l : List ℕ). strings_after image l strings entries) f

  pub entries_left_lem : es ≡ entries_after image (form_for image) strings entries
  entries_left_lem = e ∙ ap (λ (l : List ℕ). entries_after image l strings entries) f

-- Accepted: the nodes listed are at the front of the area, and all is ready for their lines.
pub record Listed (image : List ℕ) (reader : Reader) (strings entries : List ℕ) (choice : Choice) (lines : ℕ) (numbers : List ℕ) : Type 0 where
  pub ordered : take lines numbers ≡ listing_order image reader strings entries choice
  pub few : lines ≤ length numbers
  pub ready : Ready image reader strings entries (listing_order image reader strings entries choice)

module _ (image : List ℕ) (choice : Choice) (strings entries numbers : List ℕ) where
  abbrev ss : List ℕ
  ss = strings_after image (form_for image) strings entries

  abbrev es : List ℕ
  es = entries_after image (form_for image) strings entries

  by_opening : (o : Answer Reader) → open_answer image (form_for image) (length strings) (length entries) ≡ o → (a : Reader) → with_paths image ss es choice o ≡ accepted a
      → Listed image a ss es choice (listed_count image a ss es choice) (with_order image ss es choice numbers o)
  by_opening (refused t) e a h = not_both h
  by_opening (accepted r) e a h =
      let b : ReaderBelongs image r ss es = belongs_record (opened_belongs image (form_for image) strings entries e) in
      let same : r ≡ a = passed_value (path_checks image r ss es (listing_order image r ss es choice)) r h in
      record {
        ordered = rw (sym same) (order_front image r ss es choice b numbers refl refl).1;
        few = rw (sym same) (order_front image r ss es choice b numbers refl refl).0;
        ready = paths_ready image r ss es choice b a h;
      }

  pub judged_ready : (a : Reader) → judged image choice strings entries ≡ accepted a
      → Listed image a ss es choice (listed_count image a ss es choice) (order_after image choice strings entries numbers)
  unfolding judged order_after
  judged_ready a h = by_opening (open_answer image (form_for image) (length strings) (length entries)) refl a h

  pub prepared_ready : (o : Result Prepared Refusal) {ss' es' ns : List ℕ} → Decided image choice strings entries numbers (answer_of_prepared o) (lines_of o) ss' es' ns
      → (p : Prepared) → o ≡ Ok p → Listed image p.reader ss' es' choice p.lines ns
  unfolding lines_after
  prepared_ready o (j, (l, (s, (e, n)))) p h =
      let a : judged image choice strings entries ≡ accepted p.reader = sym j ∙ ap answer_of_prepared h in
      rw (s, e, n, sym (ap lines_of h) ∙ l, a) (judged_ready p.reader a)
