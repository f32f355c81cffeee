-- How the passes of an opening up to its tables join: a refusal of one is the answer, and what one passes the next decides; and what holds of an image
-- that passes these. Assumes nothing.
use mathlib.Core.Path.{◌≡◌, sym, ap, ◌∙◌}
use mathlib.Core.Bool.{true, false, not}
use mathlib.Core.List.{List, ◌++◌}
use Prim.Native.Nat.{ℕ, ◌+◌, ◌≤◌, ◌<◌}
use native.Mathlib.Omega.{arith}
use lib.Dec.{eqb}
use lib.ListN.{length, replicate, length-replicate}
use borrow.Author.Tests.{eqb-true, ltb-false, not-false}
use Rattle.aff_format.specs.Answer.{Answer, accepted, refused, first_wrong, Clear}
use Rattle.aff_format.specs.Bytes.{part, laid_over}
use Rattle.aff_format.specs.Edition.{header_size}
use Rattle.aff_format.specs.Strings.{strings_of}
use Rattle.aff_format.specs.declared.section.Section.{Section}
use Rattle.aff_format.specs.declared.section.Section.TheVariants.{Symbol, Tree}
use Rattle.aff_format.specs.declared.edition.Edition.{Edition}
use Rattle.aff_format.specs.declared.refusal.Refusal.TheVariants.{WrongLength}
use Rattle.aff_format.proofs.AnswerLaws.{not_both, passed, same_refusal, refused_before, passed_value, passed_before, clear_both, clear_accepts}
use Rattle.aff_format.proofs.TestLaws.{or_false}
use Rattle.aff_tables.specs.Tables.{entries_in}
use Rattle.aff_tables.proofs.LinkLaws.{distinct_by_repeats}
use Rattle.aff_tables.proofs.SymbolLaws.{places_inside, string_recorded, symbols_clear, symbols_reported}
use Rattle.aff_tables.proofs.TreeTableLaws.{TableOfTree, entries_few, entries_are}
use Rattle.aff_open.specs.Opening.{lengths_wrong, header_checks, section_checks, symbols_checked, tree_checked, table_checks, body_checks, up_to_tables, span_of, sizes_in, tables_answer, area_filled, string_places, node_places, strings_filled, entries_filled}
use Rattle.aff_open.specs.passes.Opening.{symbols_in, IsReadable, StringsLaid, EntriesLaid}
use Rattle.aff_open.specs.Sections.{edition_in, section_offset, section_size, section_records, section_bytes, ends_past, strings_in, nodes_in}
use Rattle.aff_reader.specs.declared.reader.Span.{Span}
use Rattle.std.specs.Prelude.{Result, Ok, Err, IsErrAnd}
use Rattle.aff_format.specs.Refusal.{code_of_refusal}
use Rattle.aff_format.specs.declared.refusal.RefusalCode.{RefusalCode}
use Rattle.aff_open.specs.declared.tables.TableSizes.{TableSizes}
use Rattle.aff_open.proofs.SectionLaws.{section_clear, header_clear}
use Rattle.aff_format.specs.Verdict.{answer_of}
use Rattle.aff_format.specs.declared.refusal.Refusal.{Refusal}

-- ---- A section of a readable image.

pub section_inside : {e : Edition} {image : List ℕ} (s : Section) → IsReadable e image → section_offset e s image + section_size e s image ≤ length image
unfolding ends_past
section_inside s r = ltb-false _ _ (r.inside s)

pub span_inside_lem : {e : Edition} {image : List ℕ} {t : Span} (s : Section) → IsReadable e image → t ≡ span_of e s image → t.offset + t.size ≤ length image
span_inside_lem s r is = rw is (section_inside s r)

-- Sections that pass their checks can be read.
pub readable_by : (e : Edition) (image : List ℕ) → header_size e ≤ length image → length image < 2147483648
    → first_wrong (section_checks e image) (tt {0}) ≡ accepted (tt {0}) → IsReadable e image
readable_by e image whole short h = record { whole = whole; inside = λ s. (section_clear image (tt {0}) e h s).0; short = short }

-- ---- The tables of the two sections.

-- An accepted tree table: its entries are laid into the area.
pub entries_laid : (e : Edition) (image area entries : List ℕ) (n : ℕ) → first_wrong (tree_checked e image) (length (nodes_in e image)) ≡ accepted n
    → length area ≡ 2048 → entries ≡ laid_over area (node_places e image) → EntriesLaid e image entries n
unfolding section_bytes
entries_laid e image area entries n h long is =
    let l : List ℕ = part (section_offset e Tree image) (section_size e Tree image) image in
    let c : length (entries_in 2048 l) ≡ n = passed_value (tree_checked e image) (length (nodes_in e image)) h in
    let f : length (entries_in 2048 l) ≤ 2048 = entries_few 2048 l in
    record {
      counted = sym c;
      few = omega arith;
      are = λ k lo hi. rw is (entries_are image 2048 (section_offset e Tree image) (section_size e Tree image) area (omega arith) k lo (omega arith));
    }

-- An accepted symbol table: its strings are laid into the area, and no two are equal.
pub strings_laid : (e : Edition) (image area strings : List ℕ) (n : ℕ) → IsReadable e image → first_wrong (symbols_checked e image) (length (strings_in e image)) ≡ accepted n
    → length area ≡ 2048 → strings ≡ laid_over area (string_places e image) → StringsLaid e image strings n
unfolding section_bytes
strings_laid e image area strings n r h long is =
    let from = section_offset e Symbol image in
    let size = section_size e Symbol image in
    let l : List ℕ = part from size image in
    let (f, distinct) = symbols_clear e (section_records e Symbol image) l (passed (symbols_checked e image) (length (strings_in e image)) h) in
    let c : length (strings_of l) ≡ n = passed_value (symbols_checked e image) (length (strings_in e image)) h in
    record {
      counted = sym c;
      placed = rw (is, sym c) (places_inside image from size area (omega arith) f (section_inside Symbol r) r.short);
      are = λ i hi. rw is (string_recorded image from size area (omega arith) i (omega arith));
      distinct = λ i j hi hj e. distinct_by_repeats (strings_of l) distinct i j (omega arith) (omega arith) e;
    }

-- What the tree table reports and lays is what its section says.
module _ (e : Edition) (image : List ℕ) {t : Span} {records : ℕ} (area₀ area : List ℕ) where
  pub tree_by_lem : t ≡ span_of e Tree image → records ≡ section_records e Tree image → (r : Result ℕ Refusal)
      → TableOfTree e records image t.offset t.size area₀ area r
      → (answer_of r ≡ first_wrong (tree_checked e image) (length (nodes_in e image)))
      × ((n : ℕ) → answer_of r ≡ accepted n → area ≡ laid_over area₀ (node_places e image))
  unfolding section_bytes
  tree_by_lem is ir r h = rw (is, ir) at h

-- What the symbol table reports decides its checks.
pub symbols_decide : (e : Edition) (image : List ℕ) {s : Result ℕ Refusal} → s ≡ symbols_in e image
    → first_wrong (symbols_checked e image) (length (strings_in e image)) ≡ answer_of s
symbols_decide e image is = sym (ap answer_of is ∙ symbols_reported e (section_records e Symbol image) (section_bytes e Symbol image))

-- A refused symbol table refuses the opening with its own refusal, and no area is filled.
pub symbols_refuse : {X : Type 0} (r : Refusal) (e : Edition) (image : List ℕ) {s : Result ℕ Refusal} → s ≡ symbols_in e image
    → answer_of s ≡ refused (code_of_refusal r)
    → (answer_of {A = TableSizes} (Err r) ≡ first_wrong (table_checks e image) (sizes_in e image)) × ((a : TableSizes) → answer_of {A = TableSizes} (Err r) ≡ accepted a → X)
symbols_refuse r e image is bad = (
  sym (refused_before (symbols_checked e image) (tree_checked e image) (length (strings_in e image)) (sizes_in e image) (symbols_decide e image is ∙ bad)),
  λ a q. not_both q,
)

-- ---- After the header.

-- What a stage reports, where its result is known.
pub told : {A : Type 0} {r q : Result A Refusal} {a : Answer A} → answer_of r ≡ a → r ≡ q → a ≡ answer_of q
told h e = sym h ∙ ap answer_of e

-- What `?` hands on.
pub handed_on : {A : Type 0} (r : Result A Refusal) (q : Refusal) → IsErrAnd r (λ p. p ≡ q) → answer_of r ≡ refused (code_of_refusal q)
handed_on (Ok a) q h = absurd h
handed_on (Err p) q h = ap (λ (x : Refusal). refused (code_of_refusal x)) h

-- A refusal of the header is the answer.
pub header_refused : (image form : List ℕ) {t : RefusalCode} → first_wrong (header_checks image form) (edition_in image) ≡ refused t
    → refused t ≡ first_wrong (header_checks image form ++ body_checks (edition_in image) image) (sizes_in (edition_in image) image)
header_refused image form h =
    sym (refused_before (header_checks image form) (body_checks (edition_in image) image) (edition_in image) (sizes_in (edition_in image) image) h)

-- Each stage: where it refuses, that is the answer; where it passes, the next one decides.
module _ (image form : List ℕ) {e : Edition} (headed : first_wrong (header_checks image form) (edition_in image) ≡ accepted e) where
  abbrev whole : Answer TableSizes
  whole = first_wrong (header_checks image form ++ body_checks (edition_in image) image) (sizes_in (edition_in image) image)

  pub edition_is : edition_in image ≡ e
  edition_is = passed_value (header_checks image form) (edition_in image) headed

  with_header : {a : Answer TableSizes} → a ≡ first_wrong (body_checks e image) (sizes_in e image) → a ≡ whole
  with_header reported =
      reported ∙ ap (λ (d : Edition). first_wrong (body_checks d image) (sizes_in d image)) (sym edition_is)
      ∙ sym (passed_before (header_checks image form) (body_checks (edition_in image) image) (edition_in image) (sizes_in (edition_in image) image) headed)

  pub sections_refused : {t : RefusalCode} → first_wrong (section_checks e image) (tt {0}) ≡ refused t → refused t ≡ whole
  sections_refused h = with_header (sym (refused_before (section_checks e image) (table_checks e image) (tt {0}) (sizes_in e image) h))

  module _ (sound : first_wrong (section_checks e image) (tt {0}) ≡ accepted (tt {0})) where
    with_sections : {a : Answer TableSizes} → a ≡ first_wrong (table_checks e image) (sizes_in e image) → a ≡ whole
    with_sections reported = with_header (reported ∙ sym (passed_before (section_checks e image) (table_checks e image) (tt {0}) (sizes_in e image) sound))

    pub symbols_refused : {s : Result ℕ Refusal} (r : Refusal) → s ≡ symbols_in e image → s ≡ Err r → refused (code_of_refusal r) ≡ whole
    symbols_refused r is bad = with_sections (symbols_refuse {X = ⊥} r e image is (ap answer_of bad)).0

    module _ {n : ℕ} (counted : first_wrong (symbols_checked e image) (length (strings_in e image)) ≡ accepted n) where
      with_symbols : {a : Answer TableSizes} → a ≡ first_wrong (tree_checked e image) (sizes_in e image) → a ≡ whole
      with_symbols reported =
          with_sections (reported ∙ sym (passed_before (symbols_checked e image) (tree_checked e image) (length (strings_in e image)) (sizes_in e image) counted))

      pub tree_refused : {t : RefusalCode} → first_wrong (tree_checked e image) (length (nodes_in e image)) ≡ refused t → refused t ≡ whole
      tree_refused h = with_symbols (sym (same_refusal (tree_checked e image) (length (nodes_in e image)) (sizes_in e image) h))

      pub tables_found : {m : ℕ} → first_wrong (tree_checked e image) (length (nodes_in e image)) ≡ accepted m
          → accepted (record { edition = e; strings = n; nodes = m }) ≡ whole
      tables_found {m} h =
          let p : length (strings_in e image) ≡ n = passed_value (symbols_checked e image) (length (strings_in e image)) counted in
          let q : length (nodes_in e image) ≡ m = passed_value (tree_checked e image) (length (nodes_in e image)) h in
          with_symbols (rw (← p, ← q) (sym (clear_accepts (tree_checked e image) (sizes_in e image) (passed (tree_checked e image) (length (nodes_in e image)) h))))

-- ---- The areas.

-- What is passed has the right lengths.
pub lengths_right : (image form : List ℕ) (strings entries : ℕ) → lengths_wrong image form strings entries ≡ false
    → (length form ≡ 12) × (strings ≡ 2048) × (entries ≡ 2048) × (length image < 2147483648)
unfolding lengths_wrong
lengths_right image form strings entries h =
    let (a, b) = or_false (not (eqb (length form) 12)) _ h in
    let (c, d) = or_false (not (eqb strings 2048)) _ b in
    let (e, f) = or_false (not (eqb entries 2048)) _ d in
    (eqb-true _ _ (not-false _ a), eqb-true _ _ (not-false _ c), eqb-true _ _ (not-false _ e), omega (arith, ltb-false 2147483647 (length image) f))

pub area_length : {A : Type 0} (answer : Answer A) (a b places : List ℕ) → length a ≡ length b → area_filled answer a places ≡ area_filled answer b places
area_length (accepted r) a b places h = rw h
area_length (refused t) a b places h = rw h

-- The whole of it: 1 changes nothing; else the areas are cleared first.
abbrev pub TablesOpen : List ℕ → List ℕ → Result TableSizes Refusal → List ℕ → List ℕ → List ℕ → List ℕ → Type 0
TablesOpen image form o strings₀ strings entries₀ entries =
    (answer_of o ≡ tables_answer image form (length strings₀) (length entries₀))
    × ((strings ≡ strings_filled image form strings₀ entries₀) × (entries ≡ entries_filled image form strings₀ entries₀))

pub lengths_opens : (image form strings entries : List ℕ) → lengths_wrong image form (length strings) (length entries) ≡ true
    → TablesOpen image form (Err WrongLength) strings strings entries entries
unfolding up_to_tables strings_filled entries_filled
lengths_opens image form strings entries wrong = (rw wrong, (rw wrong, rw wrong))

pub cleared_opens : (image form : List ℕ) (o : Result TableSizes Refusal) (strings₀ s strings entries₀ e entries : List ℕ)
    → lengths_wrong image form (length strings₀) (length entries₀) ≡ false → length s ≡ length strings₀ → length e ≡ length entries₀
    → answer_of o ≡ first_wrong (header_checks image form ++ body_checks (edition_in image) image) (sizes_in (edition_in image) image)
    → strings ≡ area_filled (answer_of o) s (string_places (edition_in image) image)
    → entries ≡ area_filled (answer_of o) e (node_places (edition_in image) image)
    → TablesOpen image form o strings₀ strings entries₀ entries
unfolding up_to_tables strings_filled entries_filled
cleared_opens image form o strings₀ s strings entries₀ e entries right ls le reported ss es =
    let t : answer_of o ≡ tables_answer image form (length strings₀) (length entries₀) = reported ∙ rw right in (
      t,
      (
        ss ∙ area_length (answer_of o) s strings₀ _ ls ∙ ap (λ (x : Answer TableSizes). area_filled x strings₀ (string_places (edition_in image) image)) t ∙ rw right,
        es ∙ area_length (answer_of o) e entries₀ _ le ∙ ap (λ (x : Answer TableSizes). area_filled x entries₀ (node_places (edition_in image) image)) t ∙ rw right,
      ),
    )

-- ---- What holds of an image that passes them all, and of its areas.

abbrev zeros : List ℕ → List ℕ
zeros area = replicate (length area) 0

module _ (image form strings entries : List ℕ) {s : TableSizes} (h : tables_answer image form (length strings) (length entries) ≡ accepted s) where
  abbrev e : Edition
  e = edition_in image

  -- No check found anything wrong, group by group.
  clear : Clear (up_to_tables image form (length strings) (length entries))
  clear = passed (up_to_tables image form (length strings) (length entries)) (sizes_in e image) h

  pub tables_sizes : sizes_in e image ≡ s
  tables_sizes = passed_value (up_to_tables image form (length strings) (length entries)) (sizes_in e image) h

  pub tables_lengths : lengths_wrong image form (length strings) (length entries) ≡ false
  unfolding up_to_tables
  tables_lengths = clear.0

  headers : Clear (header_checks image form) × Clear (body_checks e image)
  unfolding up_to_tables
  headers = clear_both (header_checks image form) (body_checks e image) clear.1

  sections : Clear (section_checks e image) × Clear (table_checks e image)
  sections = clear_both (section_checks e image) (table_checks e image) headers.1

  symbols : Clear (symbols_checked e image) × Clear (tree_checked e image)
  symbols = clear_both (symbols_checked e image) (tree_checked e image) sections.1

  pub tables_readable : IsReadable e image
  tables_readable =
      readable_by e image (header_clear image e form (clear_accepts (header_checks image form) e headers.0)).1
      (lengths_right image form (length strings) (length entries) tables_lengths).3 (clear_accepts (section_checks e image) (tt {0}) sections.0)

  strings_long : length (zeros strings) ≡ 2048
  strings_long = length-replicate {A = ℕ} (length strings) 0 ∙ (lengths_right image form (length strings) (length entries) tables_lengths).1

  entries_long : length (zeros entries) ≡ 2048
  entries_long = length-replicate {A = ℕ} (length entries) 0 ∙ (lengths_right image form (length strings) (length entries) tables_lengths).2

  pub strings_filled_lem : strings_filled image form strings entries ≡ laid_over (zeros strings) (string_places e image)
  unfolding strings_filled
  strings_filled_lem = rw (tables_lengths, h)

  pub entries_filled_lem : entries_filled image form strings entries ≡ laid_over (zeros entries) (node_places e image)
  unfolding entries_filled
  entries_filled_lem = rw (tables_lengths, h)

  pub tables_strings : StringsLaid e image (strings_filled image form strings entries) (length (strings_in e image))
  tables_strings =
      strings_laid e image (zeros strings) _ (length (strings_in e image)) tables_readable
      (clear_accepts (symbols_checked e image) (length (strings_in e image)) symbols.0) strings_long strings_filled_lem

  pub tables_entries : EntriesLaid e image (entries_filled image form strings entries) (length (nodes_in e image))
  tables_entries =
      entries_laid e image (zeros entries) _ (length (nodes_in e image))
      (clear_accepts (tree_checked e image) (length (nodes_in e image)) symbols.1) entries_long entries_filled_lem
