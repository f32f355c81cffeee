-- 24 for the writer: document 01, 'Numbers handed back', the paragraph after the table. All that is recorded is judged, and nothing else.
use Rattle.std.specs.Prelude.{◌≡◌, Bool, true, false, not, ◌&&◌, ◌||◌, List, [], ◌∷◌, ℕ, ◌+◌, ◌*◌, ◌≤◌, ◌<◌, eqb, leb, length, Option, Some, None}
use Rattle.aff_format.specs.Answer.{Check, check, refusal}
use Rattle.aff_format.specs.Edition.{names_written, NamesWritten}
use Rattle.aff_format.specs.Kind.{element_size, is_void}
use Rattle.aff_format.specs.Limits.{image_limit, string_limit, node_limit, text_area, tree_area}
use Rattle.aff_format.specs.Strings.{ends_in_zero}
use Rattle.aff_format.specs.Lowest.{none_from}
use Rattle.aff_format.specs.declared.entry.Entry.{Entry}
use Rattle.aff_format.specs.Entry.{no_string, outside}
use Rattle.aff_areas.specs.Areas.{used_text, names_in, found_slot, slot_entry, finished_size}
use Rattle.aff_areas.specs.Writer.{data_place, data_size}
use Rattle.aff_areas.specs.declared.writer.Writer.{Writer}

-- ---- As a test.

-- The buffer's length is the recorded one, each area has its size, and no count passes its size.
unfoldable pub writer_sizes_belong : ℕ → Writer → List ℕ → List ℕ → Bool
writer_sizes_belong size writer text tree =
    eqb size writer.length
    && (leb writer.length image_limit
    && (eqb (length text) text_area
    && (eqb (length tree) tree_area
    && (leb writer.strings string_limit
    && (leb writer.text text_area && leb writer.nodes node_limit)))))

-- The text area holds the recorded number of strings in the recorded length.
unfoldable pub text_belongs : Writer → List ℕ → Bool
text_belongs writer text = ends_in_zero (used_text writer text) && eqb (length (names_in writer text)) writer.strings

-- The entry of node k: its type does not exist, its parent is not lower, its string does not exist, or its data fall outside what was put.
abbrev pub slot_lost : ℕ → ℕ → ℕ → ℕ → Option Entry → Bool
slot_lost strings from size k None = true
slot_lost strings from size k (Some e) = leb k e.parent || (no_string strings e || outside from size e)

unfoldable pub writer_node_lost : ℕ → ℕ → ℕ → List ℕ → ℕ → Bool
writer_node_lost strings from size tree k = slot_lost strings from size k (found_slot tree k)

-- What was put begins after the header, so the data do not end inside it; then the nodes, and the finished size, which has to fit.
unfoldable pub writer_nodes_belong : Writer → List ℕ → Bool
writer_nodes_belong writer tree =
    leb (data_place writer) writer.end
    && (none_from (writer_node_lost writer.strings (data_place writer) (data_size writer) tree) writer.nodes 1
    && leb (finished_size writer tree) writer.length)

-- For a buffer of so many bytes.
unfoldable pub writer_belongs : ℕ → Writer → List ℕ → List ℕ → Bool
writer_belongs size writer text tree =
    names_written writer.edition && (writer_sizes_belong size writer text tree && (text_belongs writer text && writer_nodes_belong writer tree))

-- ---- As document 01's clauses: the test is true exactly when this holds (`belongs_record`, `record_belongs`).

pub record WriterBelongs (size : ℕ) (writer : Writer) (text tree : List ℕ) : Type 0 where
  -- Its edition exists and is written (request C-15).
  pub edition_written : NamesWritten writer.edition
  -- Both sides: the buffer's length, the areas' sizes, the counts.
  pub length_recorded : size ≡ writer.length
  pub length_allowed : writer.length ≤ image_limit
  pub text_area_is : length text ≡ text_area
  pub tree_area_is : length tree ≡ tree_area
  pub few_strings : writer.strings ≤ string_limit
  pub text_inside : writer.text ≤ text_area
  pub few_nodes : writer.nodes ≤ node_limit
  -- The text area holds the recorded number of strings, each with its zero, in the recorded length.
  pub text_ends : ends_in_zero (used_text writer text) ≡ true
  pub text_strings : length (names_in writer text) ≡ writer.strings
  -- The data do not end inside the header (request C-22).
  pub end_after_header : data_place writer ≤ writer.end
  -- Each entry has a type that exists, a parent lower than the node, a string that exists, and data inside what was put.
  pub slot_whole : (k : ℕ) → 0 < k → k ≤ writer.nodes → found_slot tree k ≡ Some (slot_entry tree k)
  pub parent_lower : (k : ℕ) → 0 < k → k ≤ writer.nodes → (slot_entry tree k).parent < k
  pub string_exists : (k : ℕ) → 0 < k → k ≤ writer.nodes → (slot_entry tree k).string < writer.strings
  pub data_begins : (k : ℕ) → 0 < k → k ≤ writer.nodes → is_void (slot_entry tree k).kind ≡ false → data_place writer ≤ (slot_entry tree k).offset
  pub data_ends : (k : ℕ) → 0 < k → k ≤ writer.nodes → is_void (slot_entry tree k).kind ≡ false
      → (slot_entry tree k).offset + (slot_entry tree k).count * element_size (slot_entry tree k).kind ≤ writer.end
  -- The finished size fits.
  pub size_fits : finished_size writer tree ≤ writer.length

-- ---- 24 and 22: what make, put and close judge first.

abbrev pub writer_checks : ℕ → Writer → List ℕ → List ℕ → List Check
writer_checks size writer text tree =
    check (not (writer_belongs size writer text tree)) (refusal 24)
    ∷ check (not writer.live) (refusal 22)
    ∷ []
