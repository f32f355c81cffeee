-- Each call answers by its rules: each of its checks finds something wrong exactly when its rule fails (`AskFor`), so the rules settle the answer. The 21
-- of a make and a put is checked against the recorded length, which is the buffer's where the record belongs. Assumes nothing.
use mathlib.Core.Path.{◌≡◌, refl, sym, ap, ap₂, subst, ◌∙◌}
use mathlib.Core.Bool.{Bool, true, false, not, ◌&&◌, ◌||◌, true≢false}
use mathlib.Core.List.{List, [], ◌∷◌, ◌++◌}
use mathlib.Core.Logic.{◌↔◌}
use Prim.Native.Nat.{ℕ, ◌+◌, ◌%◌, ◌≤◌}
use native.Mathlib.Omega.{arith}
use lib.Dec.{eqb, ltb}
use lib.ListN.{length}
use borrow.Author.Tests.{eqb-true, eqb-false, eq-eqb, ne_eqb, ltb-false, le-ltb, not-false}
use Rattle.aff_format.specs.Edition.{header_size, edition_by, names_written, NamesWritten}
use Rattle.aff_format.specs.Align.{padding}
use Rattle.aff_format.specs.Answer.{Check, check, refusal}
use Rattle.aff_format.specs.Bytes.{same_bytes}
use Rattle.aff_format.specs.Element.{count_in, element_at, decoded}
use Rattle.aff_format.specs.Kind.{kind_code, kind_of, element_size, is_void}
use Rattle.aff_format.specs.Limits.{image_limit, string_limit, node_limit, text_area, tree_area}
use Rattle.aff_format.specs.Lowest.{is_at}
use Rattle.aff_format.specs.Path.{is_path}
use Rattle.aff_format.specs.Subkey.{is_subkey}
use Rattle.aff_format.specs.declared.kind.Kind.{Kind}
use Rattle.aff_format.specs.declared.kind.Kind.TheVariants.{Void, Char, Int, Double, Complex}
use Rattle.std.specs.Prelude.{Option, Some, None}
use Rattle.aff_format.proofs.KindLaws.{kind_of_code, code_of_kind}
use Rattle.aff_format.proofs.LowestLaws.{none_holds, holds_none, lowest_is, none_at}
use Rattle.aff_format.proofs.PathLaws.{path_sound, path_complete}
use Rattle.aff_format.proofs.SameLaws.{same_refl, same_eq, same_ne}
use Rattle.aff_format.proofs.TestLaws.{both, or_false}
use Rattle.aff_reader.specs.Belongs.{reader_belongs, ReaderBelongs}
use Rattle.aff_format.specs.Rule.{Rule, By, Is}
use Rattle.aff_open.specs.Faults.{rules}
use Rattle.aff_open.specs.Opening.{open_answer, reader_for}
use Rattle.aff_open.specs.Sections.{edition_in}
use Rattle.aff_reader.specs.declared.reader.Reader.{Reader}
use Rattle.aff_reader.proofs.BelongsLaws.{belongs_record as reader-clauses, record_belongs as reader-belongs}
use Rattle.aff_open.proofs.FaultLaws.{opening_settled}
use Rattle.aff_format.proofs.RuleLaws.{AskFor, none, one, settled_by, by_checks, at_most, is_below, is_true}
use Rattle.aff_nodes.specs.Answers.{exists_checks, name_answer, kind_answer, count_answer, view_answer, element_answer}
use Rattle.aff_read.specs.Paths.{found, lookup_checks, path_answer, lookup_answer}
use Rattle.aff_read.specs.Lookup.{LowestWith}
use Rattle.aff_nodes.specs.Recall.{count_at, path_at}
use Rattle.aff_read.proofs.LookupLaws.{lookup_accepts}
use Rattle.aff_format.proofs.EditionLaws.{names_written_lem, written_named}
use Rattle.aff_areas.specs.Areas.{slot_entry, name_of}
use Rattle.aff_areas.specs.Belongs.{writer_belongs, WriterBelongs, writer_checks}
use Rattle.aff_areas.specs.declared.writer.Writer.{Writer}
use Rattle.aff_areas.proofs.BelongsLaws.{belongs_record as writer-clauses, record_belongs as writer-belongs}
use Rattle.aff_write.specs.Begin.{begin_lengths_wrong, begin_checks, begin_answer}
use Rattle.aff_write.specs.Close.{close_stores, store_checks, close_answer}
use Rattle.aff_make.specs.Make.{added_strings, added_text, too_many, is_child, child_exists, child_checks, make_answer}
use Rattle.aff_write.specs.Put.{takes_none, wrong_data, put_stores, data_checks, put_answer}
use Rattle.aff_write.proofs.PutLaws.{length_put_stores}
use Rattle.aff_run.proofs.BeginInvariantLaws.{lengths_right}
use Rattle.aff_run.proofs.InvariantLaws.{is_void_lem}
use Rattle.aff.specs.Rules.{fits, decode_rules, exists_rules, lookup_rules, ReadingByRules, begin_rules, DataFits, writer_rules, NoSuchChild, Few, make_rules, put_rules, close_rules, WritingByRules}
use Rattle.aff_listing.specs.ListingOrder.{listed_count, listing_answer}

-- ---- Tests and what they ask.

fits_asks : (size limit : ℕ) → AskFor (check (ltb limit size) (refusal 21) ∷ []) (fits size limit)
fits_asks size limit = one (at_most limit size) (λ _. none)

-- ---- Opening and reading.

pub opening_by : (image form : List ℕ) (strings entries : ℕ)
    → By (rules image form strings entries) (Is (reader_for (edition_in image) image)) (open_answer image form strings entries)
opening_by image form strings entries =
    settled_by (reader_for (edition_in image) image) (open_answer image form strings entries) (opening_settled image form strings entries)

pub decode_by : (kind : Kind) (bytes : List ℕ) (index : ℕ) → By (decode_rules kind bytes index) (Is (element_at kind bytes index)) (decoded kind bytes index)
unfolding decoded
decode_by kind bytes index = by_checks (element_at kind bytes index) (one (is_below (count_in kind bytes) index) (λ _. none))

module _ (image : List ℕ) (r : Reader) (strings entries : List ℕ) where
  reader_asks : (not (reader_belongs image r strings entries) ≡ false) ↔ ReaderBelongs image r strings entries
  reader_asks = (λ h. reader-clauses (not-false (reader_belongs image r strings entries) h), λ b. ap not (reader-belongs b))

  node_asks : (node : ℕ) {cs : List Check} {rs : List Rule} → AskFor cs rs
      → AskFor (exists_checks image r strings entries node ++ cs) (exists_rules image r strings entries node rs)
  node_asks node more = one reader_asks (λ _. one (at_most r.nodes node) (λ _. more))

  -- 15 of a lookup.
  found_asks : (path : List ℕ)
      → (not (is_at (found image r strings entries path)) ≡ false) ↔ ((node : ℕ) × (node ≤ r.nodes) × (path_at image r strings entries node ≡ path))
  unfolding found
  found_asks path = go (found image r strings entries path) refl
    where
      has_path : ℕ → Bool
      has_path k = same_bytes (path_at image r strings entries k) path

      go : (l : Option ℕ) → found image r strings entries path ≡ l
          → (not (is_at l) ≡ false) ↔ ((node : ℕ) × (node ≤ r.nodes) × (path_at image r strings entries node ≡ path))
      go (Some n) h = let l = lowest_is has_path (r.nodes + 1) 0 n h in (λ _. (n, omega (arith, l.most), same_eq _ _ l.holds), λ _. refl)
      go None h = (
        λ e. absurd (true≢false e),
        λ (k, l, e). absurd (same_ne _ _ (none_holds has_path (r.nodes + 1) 0 h k (omega arith) (omega arith)) e),
      )

  lookup_asks : (path : List ℕ)
      → AskFor
      (check (not (reader_belongs image r strings entries)) (refusal 24) ∷ lookup_checks image r strings entries path)
      (lookup_rules image r strings entries path)
  lookup_asks path =
      one reader_asks
      (λ _. one (λ h. path_sound (edition_by r.edition) path (not-false (is_path (edition_by r.edition) path) h), λ w. ap not (path_complete (edition_by r.edition) path w))
      (λ _. one (found_asks path) (λ _. none)))

  lookup_by : (path : List ℕ)
      → By (lookup_rules image r strings entries path) (LowestWith image r strings entries path) (lookup_answer image r strings entries path)
  unfolding lookup_answer
  lookup_by path =
      let by = by_checks _ (lookup_asks path) in
      record {
        accepts = λ n. (
          λ h.
              let hold = ((by.accepts n).0 h).0 in
              (hold, (lookup_accepts image r strings entries path hold.0 (path_complete (edition_by r.edition) path hold.1.0) n).0 h),
          λ (hold, low). (lookup_accepts image r strings entries path hold.0 (path_complete (edition_by r.edition) path hold.1.0) n).1 low,
        );
        refuses = by.refuses;
      }

  pub reading_by : ReadingByRules image r strings entries
  unfolding name_answer kind_answer count_answer view_answer element_answer path_answer listing_answer
  reading_by =
      record {
        name = λ node. by_checks _ (node_asks node none);
        kind = λ node. by_checks _ (node_asks node none);
        count = λ node. by_checks _ (node_asks node none);
        view = λ node. by_checks _ (node_asks node none);
        element = λ node index. by_checks _ (node_asks node (one (is_below (count_at image entries node) index) (λ _. none)));
        path = λ node buffer. by_checks _ (node_asks node (fits_asks (length (path_at image r strings entries node)) buffer));
        lookup = lookup_by;
        listing = λ choice buffer. by_checks _ (one reader_asks (λ _. fits_asks (listed_count image r strings entries choice) buffer));
      }

-- ---- Writing.

module _ (edition : ℕ) (buffer form text tree : List ℕ) (allowance : ℕ) where
  lengths_asks : (begin_lengths_wrong buffer form text tree ≡ false)
      ↔ ((length form ≡ 12) × (length text ≡ text_area) × (length tree ≡ tree_area) × (length buffer ≤ image_limit))
  unfolding begin_lengths_wrong
  lengths_asks = (
    lengths_right buffer form text tree,
    λ (f, x, t, r). rw (eq-eqb (length form) 12 f, eq-eqb (length text) text_area x, eq-eqb (length tree) tree_area t, le-ltb image_limit (length buffer) r),
  )

  written_asks : (not (names_written edition) ≡ false) ↔ NamesWritten edition
  written_asks = (λ h. names_written_lem edition (not-false (names_written edition) h), λ w. ap not (written_named edition w))

  begin_asks : AskFor (begin_checks edition buffer form text tree allowance) (begin_rules edition buffer form text tree allowance)
  begin_asks =
      one lengths_asks
      (λ _. one written_asks (λ _. one (at_most (length buffer) (header_size (edition_by edition))) (λ _. one (at_most allowance 1) (λ _. none))))

  pub begin_by : By (begin_rules edition buffer form text tree allowance) (Is 1) (begin_answer edition buffer form text tree allowance)
  unfolding begin_answer
  begin_by = by_checks 1 begin_asks

-- 18.
takes_asks : (tree : List ℕ) (node : ℕ) → (takes_none tree node ≡ false) ↔ ((node ≡ 0 → ⊥) × ((slot_entry tree node).kind ≡ Void))
unfolding takes_none
takes_asks tree node = (
  λ h.
      let p = or_false (eqb node 0) (not (is_void (slot_entry tree node).kind)) h in
      (eqb-false node 0 p.0, is_void_lem (slot_entry tree node).kind (not-false (is_void (slot_entry tree node).kind) p.1)),
  λ (n, v). rw (ne_eqb node 0 n, v),
)

-- 19.
data_codes : (k : Kind) → is_void k ≡ false → 2 ≤ kind_code k
data_codes Void h = absurd (true≢false h)
data_codes Char h = omega arith
data_codes Int h = omega arith
data_codes Double h = omega arith
data_codes Complex h = omega arith

codes_data : (k : Kind) → 2 ≤ kind_code k → is_void k ≡ false
codes_data Void h = absurd (omega arith)
codes_data Char h = refl
codes_data Int h = refl
codes_data Double h = refl
codes_data Complex h = refl

data_asks : (type size : ℕ) → (wrong_data (kind_of type) size ≡ false) ↔ DataFits type size
data_asks type size = (
  λ h. found_fits (kind_of type) refl h,
  λ (k, c, l, m). rw (sym c, kind_of_code k, codes_data k (rw c l), m),
)
  where
    found_fits : (f : Option Kind) → kind_of type ≡ f → wrong_data f size ≡ false → DataFits type size
    found_fits None e h = absurd (true≢false h)
    found_fits (Some k) e h =
        let p = or_false (is_void k) (not (eqb (size % element_size k) 0)) h in
        let c = code_of_kind type k e in
        (k, c, omega (arith, c, data_codes k p.0), eqb-true (size % element_size k) 0 (not-false (eqb (size % element_size k) 0) p.1))

module _ (buffer : List ℕ) (w : Writer) (text tree : List ℕ) where
  abbrev Here : Type 0
  Here = WriterBelongs (length buffer) w text tree

  writer_asks : {cs : List Check} {rs : List Rule} → (Here → AskFor cs rs)
      → AskFor (writer_checks (length buffer) w text tree ++ cs) (writer_rules buffer w text tree rs)
  writer_asks more =
      one (λ h. writer-clauses (not-false (writer_belongs (length buffer) w text tree) h), λ b. ap not (writer-belongs b))
      (λ b. one (is_true w.live) (λ _. more b))

  -- 21: the recorded length is the buffer's.
  buffer_asks : Here → (size : ℕ) → (ltb w.length size ≡ false) ↔ (size ≤ length buffer)
  buffer_asks b size = (
    λ h. omega (arith, b.length_recorded, ltb-false w.length size h),
    λ h. le-ltb w.length size (omega (arith, b.length_recorded)),
  )

  -- 17.
  child_test : (parent : ℕ) (name : List ℕ) (k : ℕ)
      → (is_child w text tree parent name k ≡ false) ↔ ((slot_entry tree k).parent ≡ parent → name_of w text tree k ≡ name → ⊥)
  child_test parent name k = (
    λ h p n.
        true≢false
        (sym (ap₂ ◌&&◌ (eq-eqb (slot_entry tree k).parent parent p) (ap (λ (x : List ℕ). same_bytes x name) n ∙ same_refl name)) ∙ h),
    λ f. go f (is_child w text tree parent name k) refl,
  )
    where
      go : ((slot_entry tree k).parent ≡ parent → name_of w text tree k ≡ name → ⊥) → (b : Bool) → is_child w text tree parent name k ≡ b → b ≡ false
      go f false e = refl
      go f true e =
          let p = both (eqb (slot_entry tree k).parent parent) (same_bytes (name_of w text tree k) name) e in
          absurd (f (eqb-true (slot_entry tree k).parent parent p.0) (same_eq (name_of w text tree k) name p.1))

  child_asks : (parent : ℕ) (name : List ℕ) → (child_exists w text tree parent name ≡ false) ↔ NoSuchChild buffer w text tree parent name
  unfolding child_exists
  child_asks parent name = (
    λ h k lo hi.
        (child_test parent name k).0
        (none_holds (is_child w text tree parent name) w.nodes 1 (none_at _ h) k (omega arith) (omega arith)),
    λ f.
        ap is_at
        (holds_none (is_child w text tree parent name) w.nodes 1
        (λ k lo hi. (child_test parent name k).1 (f k (omega arith) (omega arith)))),
  )

  -- 20.
  few_asks : (name : List ℕ) → (too_many w text name ≡ false) ↔ Few buffer w text tree name
  unfolding too_many
  few_asks name = (
    λ h.
        let strings = ltb string_limit (w.strings + added_strings w text name) in
        let bytes = ltb text_area (w.text + added_text w text name) in
        let p = or_false (ltb node_limit (w.nodes + 1)) (strings || bytes) h in
        let q = or_false strings bytes p.1 in
        (ltb-false _ _ p.0, ltb-false _ _ q.0, ltb-false _ _ q.1),
    λ (n, s, t).
        rw (
          le-ltb node_limit (w.nodes + 1) n,
          le-ltb string_limit (w.strings + added_strings w text name) s,
          le-ltb text_area (w.text + added_text w text name) t,
        ),
  )

  make_asks : (parent : ℕ) (name : List ℕ)
      → AskFor (writer_checks (length buffer) w text tree ++ child_checks w text tree parent name) (make_rules buffer w text tree parent name)
  make_asks parent name =
      writer_asks
      (λ b. one (at_most w.nodes parent)
      (λ _. one (is_true (is_subkey _ name))
      (λ _. one (child_asks parent name)
      (λ _. one (few_asks name)
      (λ _. one (buffer_asks b _) (λ _. none))))))

  stores_ask : (bytes : List ℕ) (allowance : ℕ) → (ltb allowance (length (put_stores w bytes)) ≡ false) ↔ (padding w.end + length bytes ≤ allowance)
  stores_ask bytes allowance = rw (length_put_stores w bytes) (at_most allowance (padding w.end + length bytes))

  put_asks : (node type : ℕ) (bytes : List ℕ) (allowance : ℕ)
      → AskFor (writer_checks (length buffer) w text tree ++ data_checks w tree node type bytes allowance) (put_rules buffer w text tree node type bytes allowance)
  put_asks node type bytes allowance =
      writer_asks
      (λ b. one (at_most w.nodes node)
      (λ _. one (takes_asks tree node)
      (λ _. one (data_asks type (length bytes))
      (λ _. one (buffer_asks b _)
      (λ _. one (stores_ask bytes allowance) (λ _. none))))))

  close_asks : (allowance : ℕ)
      → AskFor (writer_checks (length buffer) w text tree ++ store_checks buffer w text tree allowance) (close_rules buffer w text tree allowance)
  close_asks allowance = writer_asks (λ _. one (at_most allowance (length (close_stores buffer w text tree))) (λ _. none))

  pub writing_by : WritingByRules buffer w text tree
  unfolding make_answer put_answer close_answer
  writing_by =
      record {
        make = λ parent name. by_checks (w.nodes + 1) (make_asks parent name);
        put = λ node type bytes allowance.
            subst
            (λ (n : ℕ). By (put_rules buffer w text tree node type bytes allowance) (Is n) (put_answer (length buffer) w text tree node type bytes allowance))
            (length_put_stores w bytes) (by_checks (length (put_stores w bytes)) (put_asks node type bytes allowance));
        close = λ allowance. by_checks (length (close_stores buffer w text tree)) (close_asks allowance);
      }
