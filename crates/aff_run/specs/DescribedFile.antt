-- The file that a run describes, byte for byte: what is in it by the tree and the layout of its data, and by nothing else. So nothing that the caller's buffer held
-- before is part of a finished file, in the padding either.
use Rattle.std.specs.Prelude.{List, [], ◌∷◌, ℕ}
use Rattle.aff_format.specs.Element.{count_in}
use Rattle.aff_format.specs.Strings.{index_in}
use Rattle.aff_format.specs.Tree.{Node, Tree}
use Rattle.aff_format.specs.declared.entry.Entry.{Entry}
use Rattle.aff_file.specs.File.{FileContents}
use Rattle.aff_run.specs.TreeSizes.{names_of, non_void_count}
use Rattle.aff_run.specs.Run.{DataLayout}

-- The entry of a node whose data begin at `offset`.
abbrev pub entry_for : List (List ℕ) → Node → ℕ → Entry
entry_for names t offset =
    record { kind = t.kind; parent = t.parent; string = index_in t.name names; count = count_in t.kind t.bytes; offset = offset }

abbrev pub entries_for : List (List ℕ) → Tree → List ℕ → List Entry
entries_for names [] offsets = []
entries_for names (t ∷ ts) [] = []
entries_for names (t ∷ ts) (offset ∷ offsets) = entry_for names t offset ∷ entries_for names ts offsets

-- The data section as it is laid out, the number of nodes that are not Void, the names in order of first use, and the entries.
abbrev pub described_contents : Tree → DataLayout → FileContents
described_contents tree l =
    record { stored = l.stored; records = non_void_count tree; names = names_of tree; entries = entries_for (names_of tree) tree l.offsets }
