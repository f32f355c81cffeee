-- 24 for the reader: document 01, 'Numbers handed back', the paragraph after the table, with request C-13. All that is recorded is judged, and
-- nothing else.
use Rattle.std.specs.Prelude.{◌≡◌, Bool, true, false, ◌&&◌, ◌||◌, List, ℕ, ◌+◌, ◌*◌, ◌≤◌, ◌<◌, eqb, ltb, leb, length, get_or, Option, Some, None}
use Rattle.aff_format.specs.Edition.{edition_of, is_known}
use Rattle.aff_format.specs.Kind.{element_size, is_void}
use Rattle.aff_format.specs.Limits.{image_limit, string_limit, node_limit}
use Rattle.aff_format.specs.Lowest.{none_from}
use Rattle.aff_format.specs.Tree.{reaches_by}
use Rattle.aff_format.specs.declared.edition.Edition.{Edition}
use Rattle.aff_format.specs.declared.entry.Entry.{Entry}
use Rattle.aff_format.specs.Entry.{no_parent, no_string, outside}
use Rattle.aff_tables.specs.Nodes.{climb_endless}
use Rattle.aff_format.specs.Recorded.{found_entry, recorded_entry}
use Rattle.aff_reader.specs.declared.reader.Span.{Span}
use Rattle.aff_reader.specs.declared.reader.Reader.{Reader}

-- ---- As a test.

-- The image's length is the recorded one, each area has its size, no count passes its size, and the recorded edition exists.
unfoldable pub sizes_belong : List ℕ → Reader → List ℕ → List ℕ → Bool
sizes_belong image reader strings entries =
    eqb (length image) reader.length
    && (leb reader.length image_limit
    && (eqb (length strings) string_limit
    && (eqb (length entries) node_limit
    && (leb reader.strings string_limit
    && (leb reader.nodes node_limit && is_known (edition_of reader.edition))))))

-- A section lies inside the image.
unfoldable pub span_inside : List ℕ → Span → Bool
span_inside image span = leb (span.offset + span.size) (length image)

-- String i does not begin inside a symbol section that begins at `from` and ends at `end`. It ends at its first zero from there on, or at the section's
-- end (`recorded_string`).
unfoldable pub string_lost : ℕ → ℕ → List ℕ → ℕ → Bool
string_lost from end strings i = ltb (get_or strings i 0) from || leb end (get_or strings i 0)

-- Each recorded string begins inside the recorded symbol section.
abbrev pub strings_belong : Reader → List ℕ → Bool
strings_belong reader strings =
    none_from (string_lost reader.symbols.offset (reader.symbols.offset + reader.symbols.size) strings) reader.strings 0

-- An entry falls outside the image or its type does not exist; its parent or string number does not exist; its data fall outside the image.
abbrev pub entry_lost : ℕ → ℕ → ℕ → Option Entry → Bool
entry_lost size strings nodes None = true
entry_lost size strings nodes (Some e) = no_parent nodes e || (no_string strings e || outside 0 size e)

unfoldable pub node_lost : List ℕ → ℕ → ℕ → List ℕ → ℕ → Bool
node_lost image strings nodes entries k = entry_lost (length image) strings nodes (found_entry image entries k)

-- Sections, strings and entries.
abbrev pub places_belong : List ℕ → Reader → List ℕ → List ℕ → Bool
places_belong image reader strings entries =
    span_inside image reader.symbols
    && (span_inside image reader.tree
    && (span_inside image reader.«data»
    && (strings_belong reader strings
    && none_from (node_lost image reader.strings reader.nodes entries) reader.nodes 1)))

-- No climb takes more steps than there are nodes.
abbrev pub climbs_belong : List ℕ → Reader → List ℕ → Bool
climbs_belong image reader entries = none_from (climb_endless reader.nodes (recorded_entry image entries)) reader.nodes 1

unfoldable pub reader_belongs : List ℕ → Reader → List ℕ → List ℕ → Bool
reader_belongs image reader strings entries =
    sizes_belong image reader strings entries && (places_belong image reader strings entries && climbs_belong image reader entries)

-- ---- As document 01's clauses: the test is true exactly when this holds (`belongs_record`, `record_belongs`).

pub record ReaderBelongs (image : List ℕ) (reader : Reader) (strings entries : List ℕ) : Type 0 where
  -- Both sides: the image's length, the areas' sizes, the counts.
  pub length_recorded : length image ≡ reader.length
  pub length_allowed : reader.length ≤ image_limit
  pub strings_area : length strings ≡ string_limit
  pub entries_area : length entries ≡ node_limit
  pub few_strings : reader.strings ≤ string_limit
  pub few_nodes : reader.nodes ≤ node_limit
  -- The recorded edition exists.
  pub edition : Edition
  pub edition_recorded : edition_of reader.edition ≡ Some edition
  -- Each section lies inside the image.
  pub symbols_inside : reader.symbols.offset + reader.symbols.size ≤ length image
  pub tree_inside : reader.tree.offset + reader.tree.size ≤ length image
  pub data_inside : reader.«data».offset + reader.«data».size ≤ length image
  -- Each string begins inside the symbol section: not before its start, and before its end.
  pub string_begins : (i : ℕ) → i < reader.strings → reader.symbols.offset ≤ get_or strings i 0
  pub string_before_end : (i : ℕ) → i < reader.strings → get_or strings i 0 < reader.symbols.offset + reader.symbols.size
  -- Each entry is one of the image, with a type that exists; its parent and its string exist; its data lie inside the image.
  pub entry_whole : (k : ℕ) → 0 < k → k ≤ reader.nodes → found_entry image entries k ≡ Some (recorded_entry image entries k)
  pub parent_exists : (k : ℕ) → 0 < k → k ≤ reader.nodes → (recorded_entry image entries k).parent ≤ reader.nodes
  pub string_exists : (k : ℕ) → 0 < k → k ≤ reader.nodes → (recorded_entry image entries k).string < reader.strings
  pub node_data : (k : ℕ) → 0 < k → k ≤ reader.nodes → is_void (recorded_entry image entries k).kind ≡ false
      → (recorded_entry image entries k).offset + (recorded_entry image entries k).count * element_size (recorded_entry image entries k).kind ≤ length image
  -- A climb takes no more steps than there are nodes.
  pub climb_ends : (k : ℕ) → 0 < k → k ≤ reader.nodes → reaches_by (λ j. (recorded_entry image entries j).parent) reader.nodes k ≡ true
