-- What the record and the two areas say of the strings and the nodes so far, whatever they hold: document 01, 'Writing keys'.
use Rattle.std.specs.Prelude.{cond, List, [], ◌++◌, ℕ, zero, suc, ◌+◌, ◌-◌, ◌*◌, eqb, get_or, take, drop, Option}
use Rattle.aff_format.specs.Entry.{entry_of, no_entry, or_none}
use Rattle.aff_format.specs.Kind.{entry_size, is_void}
use Rattle.aff_format.specs.Strings.{strings_of}
use Rattle.aff_format.specs.declared.entry.Entry.{Entry}
use Rattle.aff_areas.specs.declared.writer.Writer.{Writer}

-- The used part of the text area, and the strings in it.
abbrev pub used_text : Writer → List ℕ → List ℕ
used_text writer text = take writer.text text

abbrev pub names_in : Writer → List ℕ → List (List ℕ)
names_in writer text = strings_of (used_text writer text)

-- Where node k's entry begins in the tree area: 25 bytes a node.
abbrev pub slot_at : ℕ → ℕ
slot_at k = 25 * (k - 1)

-- Its content.
abbrev pub found_slot : List ℕ → ℕ → Option Entry
found_slot tree k = entry_of (drop (slot_at k) tree)

-- The entry of node k; the root has none of its own.
unfoldable pub slot_entry : List ℕ → ℕ → Entry
slot_entry tree k = cond (eqb k 0) no_entry (or_none (found_slot tree k))

-- The name of node k.
abbrev pub name_of : Writer → List ℕ → List ℕ → ℕ → List ℕ
name_of writer text tree k = get_or (names_in writer text) (slot_entry tree k).string []

-- Bytes of the entries of the nodes 1 to n in a file: 13 or 25 each.
unfoldable pub entry_sizes : List ℕ → ℕ → ℕ
entry_sizes tree zero = 0
entry_sizes tree (suc n) = entry_sizes tree n + entry_size (slot_entry tree (n + 1)).kind

-- These bytes: the first 13 or 25 of each node's 25.
unfoldable pub entries_out : List ℕ → ℕ → List ℕ
entries_out tree zero = []
entries_out tree (suc n) = entries_out tree n ++ take (entry_size (slot_entry tree (n + 1)).kind) (drop (slot_at (n + 1)) tree)

-- How many of the nodes 1 to n are not Void.
unfoldable pub data_nodes : List ℕ → ℕ → ℕ
data_nodes tree zero = 0
data_nodes tree (suc n) = data_nodes tree n + cond (is_void (slot_entry tree (n + 1)).kind) 0 1

-- Finished size: header and data up to their end, padding included; string bytes with their zeros; 13 for each Void node, 25 for each other.
unfoldable pub finished_size : Writer → List ℕ → ℕ
finished_size writer tree = writer.end + writer.text + entry_sizes tree writer.nodes
