-- 24 as a test and as document 01's clauses: each says what the other says. And what a call that passes 24 knows of strings, entries and
-- climbs. Assumes nothing.
use mathlib.Core.Path.{◌≡◌, refl, sym, ◌∙◌}
use mathlib.Core.Bool.{true, false, not, ◌&&◌, false≢true, and_assoc, and-false}
use mathlib.Core.List.{List}
use Prim.Native.Nat.{ℕ, zero, suc, ◌+◌, ◌≤◌, ◌<◌}
use native.Mathlib.Omega.{arith}
use lib.Dec.{eqb, leb}
use lib.ListN.{length, get_or}
use borrow.Author.Tests.{eqb-true, leb-true, eq-eqb, le-leb, not-true, not-false}
use Rattle.aff_format.specs.Edition.{edition_of, is_known}
use Rattle.aff_format.specs.Limits.{image_limit, string_limit, node_limit}
use Rattle.aff_format.specs.Lowest.{lowest_from, is_at, none_from}
use Rattle.aff_format.specs.Tree.{reaches_by}
use Rattle.aff_format.specs.declared.edition.Edition.{Edition}
use Rattle.std.specs.Prelude.{Option, Some, None}
use Rattle.aff_format.proofs.LowestLaws.{none_holds, holds_none, none_at}
use Rattle.aff_format.proofs.TestLaws.{both, all_seven}
use Rattle.aff_reader.specs.Belongs.{reader_belongs, ReaderBelongs, sizes_belong, span_inside, string_lost, strings_belong, node_lost, climbs_belong}
use Rattle.aff_reader.specs.passes.Belongs.{sections_inside, nodes_belong, tables_belong, ParentsCopied}
use Rattle.aff_tables.specs.passes.Climb.{copied_parent, ParentsExist}
use Rattle.aff_tables.specs.Nodes.{climb_endless}
use Rattle.aff_reader.specs.Reader.{no_reader}
use Rattle.aff_format.specs.Recorded.{found_entry, recorded_entry, recorded_string}
use Rattle.aff_reader.specs.declared.reader.Reader.{Reader}
use Rattle.aff_reader.proofs.LostLaws.{Kept, string_asks, entry_kept, kept_entry}
use Rattle.aff_format.proofs.RecordedLaws.{recorded_found, name_ends}
use Rattle.aff_tables.proofs.ParentLaws.{copied_climbs, copied_linked}

known : (f : Option Edition) → is_known f ≡ true → (e : Edition) × (f ≡ Some e)
known (Some e) h = (e, refl)
known None h = absurd (false≢true h)

module _ (image : List ℕ) (reader : Reader) (strings entries : List ℕ) where
  -- The test in the order of the passes.
  pub belongs_parts : reader_belongs image reader strings entries
      ≡ (sizes_belong image reader strings entries && (sections_inside image reader && tables_belong image reader strings entries))
  unfolding reader_belongs sections_inside nodes_belong tables_belong
  belongs_parts = simp and_assoc

  pub sizes_decide : sizes_belong image reader strings entries ≡ false → reader_belongs image reader strings entries ≡ false
  sizes_decide h = belongs_parts ∙ rw h

  pub sections_decide : sections_inside image reader ≡ false → reader_belongs image reader strings entries ≡ false
  sections_decide h = belongs_parts ∙ rw (h, and-false)

  pub tables_decide : sizes_belong image reader strings entries ≡ true → sections_inside image reader ≡ true
      → reader_belongs image reader strings entries ≡ tables_belong image reader strings entries
  tables_decide h g = belongs_parts ∙ rw (h, g)

  pub edition_decides : length image ≡ reader.length → reader.length ≤ image_limit → length strings ≡ string_limit → length entries ≡ node_limit
      → reader.strings ≤ string_limit → reader.nodes ≤ node_limit → sizes_belong image reader strings entries ≡ is_known (edition_of reader.edition)
  unfolding sizes_belong
  edition_decides a b c d e f =
      rw (
        eq-eqb (length image) reader.length a,
        le-leb reader.length image_limit b,
        eq-eqb (length strings) string_limit c,
        eq-eqb (length entries) node_limit d,
        le-leb reader.strings string_limit e,
        le-leb reader.nodes node_limit f,
      )

  pub sizes_hold : sizes_belong image reader strings entries ≡ true
      → (length image ≡ reader.length) × (reader.length ≤ image_limit) × (length strings ≡ string_limit) × (length entries ≡ node_limit)
      × (reader.strings ≤ string_limit) × (reader.nodes ≤ node_limit) × (is_known (edition_of reader.edition) ≡ true)
  unfolding sizes_belong
  sizes_hold h =
      let p = all_seven (eqb (length image) reader.length) (leb reader.length image_limit) (eqb (length strings) string_limit)
      (eqb (length entries) node_limit) (leb reader.strings string_limit) (leb reader.nodes node_limit) (is_known (edition_of reader.edition)) h in
      (eqb-true _ _ p.0, leb-true _ _ p.1, eqb-true _ _ p.2, eqb-true _ _ p.3, leb-true _ _ p.4, leb-true _ _ p.5, p.6)

pub sections_hold : (image : List ℕ) (reader : Reader) → sections_inside image reader ≡ true
    → (reader.symbols.offset + reader.symbols.size ≤ length image)
    × (reader.tree.offset + reader.tree.size ≤ length image)
    × (reader.«data».offset + reader.«data».size ≤ length image)
unfolding sections_inside span_inside
sections_hold image reader h =
    let p = both (span_inside image reader.symbols) (span_inside image reader.tree && span_inside image reader.«data») h in
    let q = both (span_inside image reader.tree) (span_inside image reader.«data») p.1 in
    (leb-true _ _ p.0, leb-true _ _ q.0, leb-true _ _ q.1)

-- ---- Strings and nodes, where the lowest that is lost is none.

strings_kept : (from end : ℕ) (strings : List ℕ) (count : ℕ) → lowest_from (string_lost from end strings) count 0 ≡ None
    → (i : ℕ) → i < count → (from ≤ get_or strings i 0) × (get_or strings i 0 < end)
strings_kept from end strings count none i l =
    (string_asks from end strings i).0 (none_holds (string_lost from end strings) count 0 none i (omega arith) (omega arith))

module _ (image : List ℕ) (strings nodes : ℕ) (entries : List ℕ) (none : lowest_from (node_lost image strings nodes entries) nodes 1 ≡ None) where
  -- Each entry is whole and has no fault.
  pub nodes_kept : (k : ℕ) → 0 < k → k ≤ nodes
      → (found_entry image entries k ≡ Some (recorded_entry image entries k)) × Kept (length image) strings nodes (recorded_entry image entries k)
  unfolding node_lost
  nodes_kept k l h =
      rw (recorded_found image entries k l)
      (entry_kept (length image) strings nodes (found_entry image entries k)
      (none_holds (node_lost image strings nodes entries) nodes 1 none k (omega arith) (omega arith)))

  parents_kept : (k : ℕ) → 0 < k → k ≤ nodes → (recorded_entry image entries k).parent ≤ nodes
  parents_kept k l h = (nodes_kept k l h).1.parent

  pub nodes_linked : {parents : List ℕ} → ParentsCopied (recorded_entry image entries) nodes parents → nodes ≤ node_limit → nodes < length parents → ParentsExist parents nodes
  nodes_linked {parents} copied = copied_linked (recorded_entry image entries) nodes parents copied.parent parents_kept

-- The climbs by copied parents decide.
pub climbs_decide : (image : List ℕ) (reader : Reader) (entries : List ℕ) {parents : List ℕ}
    → lowest_from (node_lost image reader.strings reader.nodes entries) reader.nodes 1 ≡ None
    → ParentsCopied (recorded_entry image entries) reader.nodes parents
    → (l : Option ℕ) → lowest_from (λ k. not (reaches_by (copied_parent parents) reader.nodes k)) reader.nodes 1 ≡ l
    → nodes_belong image reader entries ≡ not (is_at l)
unfolding nodes_belong
climbs_decide image reader entries {parents} none copied l e =
    rw (
      none,
      ← copied_climbs (recorded_entry image entries) reader.nodes parents copied.parent
          (parents_kept image reader.strings reader.nodes entries none),
      e,
    )

-- ---- The test and the clauses.

pub belongs_record : {image : List ℕ} {reader : Reader} {strings entries : List ℕ}
    → reader_belongs image reader strings entries ≡ true → ReaderBelongs image reader strings entries
unfolding climb_endless nodes_belong tables_belong
belongs_record {image} {reader} {strings} {entries} h =
    let p = both (sizes_belong image reader strings entries) (sections_inside image reader && tables_belong image reader strings entries)
    (sym (belongs_parts image reader strings entries) ∙ h) in
    let q = both (sections_inside image reader) (tables_belong image reader strings entries) p.1 in
    let t = both (strings_belong reader strings) (nodes_belong image reader entries) q.1 in
    let n = both (none_from (node_lost image reader.strings reader.nodes entries) reader.nodes 1) (climbs_belong image reader entries) t.1 in
    let s = sizes_hold image reader strings entries p.0 in
    let e = known (edition_of reader.edition) s.6 in
    let d = sections_hold image reader q.0 in
    let string = strings_kept reader.symbols.offset (reader.symbols.offset + reader.symbols.size) strings reader.strings (none_at _ (not-true _ t.0)) in
    let node = nodes_kept image reader.strings reader.nodes entries (none_at _ (not-true _ n.0)) in
    record {
      length_recorded = s.0;
      length_allowed = s.1;
      strings_area = s.2;
      entries_area = s.3;
      few_strings = s.4;
      few_nodes = s.5;
      edition = e.0;
      edition_recorded = e.1;
      symbols_inside = d.0;
      tree_inside = d.1;
      data_inside = d.2;
      string_begins = λ i l. (string i l).0;
      string_before_end = λ i l. (string i l).1;
      entry_whole = λ k l m. (node k l m).0;
      parent_exists = λ k l m. (node k l m).1.parent;
      string_exists = λ k l m. (node k l m).1.string;
      node_data = λ k l m. (node k l m).1.inside;
      climb_ends = λ k l m.
          not-false _ (none_holds (climb_endless reader.nodes (recorded_entry image entries)) reader.nodes 1 (none_at _ (not-true _ n.1)) k (omega arith) (omega arith));
    }

module _ {image : List ℕ} {reader : Reader} {strings entries : List ℕ} (b : ReaderBelongs image reader strings entries) where
  sizes_true : sizes_belong image reader strings entries ≡ true
  sizes_true =
      edition_decides image reader strings entries b.length_recorded b.length_allowed b.strings_area b.entries_area b.few_strings b.few_nodes
      ∙ rw b.edition_recorded

  sections_true : sections_inside image reader ≡ true
  unfolding sections_inside span_inside
  sections_true = rw (le-leb _ _ b.symbols_inside, le-leb _ _ b.tree_inside, le-leb _ _ b.data_inside)

  strings_none : lowest_from (string_lost reader.symbols.offset (reader.symbols.offset + reader.symbols.size) strings) reader.strings 0 ≡ None
  strings_none =
      holds_none _ reader.strings 0
      (λ i l m. (string_asks _ _ strings i).1 (b.string_begins i (omega arith), b.string_before_end i (omega arith)))

  nodes_none : lowest_from (node_lost image reader.strings reader.nodes entries) reader.nodes 1 ≡ None
  unfolding node_lost
  nodes_none =
      holds_none _ reader.nodes 1
      (λ k l m.
      let h : k ≤ reader.nodes = omega arith in
      kept_entry (length image) reader.strings reader.nodes (recorded_entry image entries k) (found_entry image entries k) (b.entry_whole k l h)
      (record { parent = b.parent_exists k l h; string = b.string_exists k l h; inside = b.node_data k l h }))

  climbs_none : lowest_from (climb_endless reader.nodes (recorded_entry image entries)) reader.nodes 1 ≡ None
  unfolding climb_endless
  climbs_none = holds_none _ reader.nodes 1 (λ k l m. rw (b.climb_ends k l (omega arith)))

  pub record_belongs : reader_belongs image reader strings entries ≡ true
  unfolding nodes_belong tables_belong
  record_belongs = tables_decide image reader strings entries sizes_true sections_true ∙ rw (strings_none, nodes_none, climbs_none)

-- The all-zero record never belongs: there is no edition 0.
pub none_belongs : (image strings entries : List ℕ) → reader_belongs image no_reader strings entries ≡ false
unfolding sizes_belong
none_belongs image strings entries = sizes_decide image no_reader strings entries (simp and-false)

-- ---- What a call that passes 24 knows.

module _ {image : List ℕ} {reader : Reader} {strings entries : List ℕ} (b : ReaderBelongs image reader strings entries) where
  -- A string ends no later than the symbol section, which is inside the image (`symbols_inside`).
  pub string_within : (i : ℕ) → i < reader.strings
      → get_or strings i 0 + length (recorded_string image (reader.symbols.offset + reader.symbols.size) strings i) ≤ reader.symbols.offset + reader.symbols.size
  string_within i l =
      name_ends image (reader.symbols.offset + reader.symbols.size) (get_or strings i 0) (omega (arith, b.string_before_end i l)) b.symbols_inside

  -- A climb stays among the nodes.
  pub parent_within : (k : ℕ) → k ≤ reader.nodes → (recorded_entry image entries k).parent ≤ reader.nodes
  unfolding recorded_entry
  parent_within zero h = omega arith
  parent_within (suc k) h = b.parent_exists (suc k) (omega arith) h

-- Bounds by the test itself, for an attribute to name.
module _ (image : List ℕ) (reader : Reader) (strings entries : List ℕ) (belongs : reader_belongs image reader strings entries ≡ true) where
  pub nodes_few : reader.nodes ≤ node_limit
  nodes_few = (belongs_record belongs).few_nodes

  pub symbols_within : reader.symbols.offset + reader.symbols.size ≤ length image
  symbols_within = (belongs_record belongs).symbols_inside

  pub image_short : length image ≤ image_limit
  image_short = let b = belongs_record belongs in omega (arith, b.length_recorded, b.length_allowed)
