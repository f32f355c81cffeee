-- What the record and the two areas of a run hold: document 01, 'Writing keys': 'The text area then holds the strings so far, each with its zero; the
-- tree area holds node n's entry at place 25(n − 1), 25 bytes, the last 12 zero while Void; zeros behind.'
use Rattle.std.specs.Prelude.{◌≡◌, true, false, List, [], ◌++◌, ℕ, ◌+◌, ◌-◌, ◌*◌, ◌%◌, ◌≤◌, ◌<◌, length, get_or, drop, replicate}
use Rattle.aff_format.specs.Bytes.{part}
use Rattle.aff_format.specs.Edition.{header_size, edition_by}
use Rattle.aff_format.specs.Element.{count_in}
use Rattle.aff_format.specs.Entry.{slot_bytes, Storable}
use Rattle.aff_format.specs.Kind.{is_void}
use Rattle.aff_format.specs.Limits.{text_area, tree_area}
use Rattle.aff_format.specs.Strings.{text_of}
use Rattle.aff_format.specs.Tree.{Node, Tree, tree_node}
use Rattle.aff_format.specs.declared.edition.Edition.{Edition}
use Rattle.aff_format.specs.declared.entry.Entry.{Entry}
use Rattle.aff_areas.specs.Areas.{slot_at}
use Rattle.aff_run.specs.TreeSizes.{names_of}
use Rattle.aff_run.specs.Run.{State, DataLayout}

-- The 25 bytes of a node, over the strings so far, where the data so far end at `end` and those of the node begin at `offset`.
pub record SlotOf (e : Edition) (names : List (List ℕ)) (end offset : ℕ) (t : Node) (slot : List ℕ) : Type 0 where
  -- They are an entry that its fields can hold, count and offset 0 while Void.
  pub entry : Entry
  pub bytes : slot ≡ slot_bytes entry
  pub fits : Storable entry
  pub kind : entry.kind ≡ t.kind
  pub parent : entry.parent ≡ t.parent
  pub string : entry.string < length names
  pub name : get_or names entry.string [] ≡ t.name
  pub count : entry.count ≡ count_in t.kind t.bytes
  -- The data begin there, at a multiple of 8, and lie inside what was put.
  pub offset_is : entry.offset ≡ offset
  pub offset_aligned : entry.offset % 8 ≡ 0
  pub begins : is_void t.kind ≡ false → header_size e ≤ entry.offset
  pub ends : is_void t.kind ≡ false → entry.offset + length t.bytes ≤ end
  pub last : is_void t.kind ≡ true → drop 13 slot ≡ replicate 12 0

-- Of a run that describes this tree, with its data so laid out.
pub record AreasHold (edition : ℕ) (tree : Tree) (layout : DataLayout) (s : State) : Type 0 where
  -- The strings so far, each with its zero; zeros after them, 32,768 bytes in all.
  pub text : s.text ≡ text_of (names_of tree) ++ replicate (text_area - length (text_of (names_of tree))) 0
  pub text_long : length s.text ≡ text_area
  -- Node n's entry at place 25(n − 1); zeros after them, 51,200 bytes in all.
  pub slots : (n : ℕ) → 0 < n → n ≤ length tree → SlotOf (edition_by edition) (names_of tree) layout.end (get_or layout.offsets (n - 1) 0) (tree_node tree n) (part (slot_at n) 25 s.tree)
  pub rest : drop (25 * length tree) s.tree ≡ replicate (tree_area - 25 * length tree) 0
  pub tree_long : length s.tree ≡ tree_area
  -- The record's edition, counts and end of data.
  pub edition_kept : s.writer.edition ≡ edition
  pub strings_count : s.writer.strings ≡ length (names_of tree)
  pub text_count : s.writer.text ≡ length (text_of (names_of tree))
  pub nodes_count : s.writer.nodes ≡ length tree
  pub end_recorded : s.writer.end ≡ layout.end
