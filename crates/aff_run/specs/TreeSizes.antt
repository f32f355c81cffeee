-- The tree that calls describe, and its sizes: document 01, 'Writing keys'.
use Rattle.std.specs.Prelude.{cond, List, [], ◌∷◌, ◌++◌, ℕ, ◌+◌, ◌-◌, length, set}
use Rattle.aff_format.specs.Kind.{entry_size, is_void}
use Rattle.aff_format.specs.Strings.{is_in, text_of}
use Rattle.aff_format.specs.Tree.{Tree, tree_node}
use Rattle.aff_format.specs.declared.kind.Kind.{Kind}
use Rattle.aff_format.specs.declared.kind.Kind.TheVariants.{Void}

-- The tree with the next number, Void, with its parent and name.
abbrev pub with_child : Tree → ℕ → List ℕ → Tree
with_child tree parent name = tree ++ (record { parent = parent; name = name; kind = Void; bytes = [] } ∷ [])

-- The tree in which a node has a type and bytes.
abbrev pub with_data : Tree → ℕ → Kind → List ℕ → Tree
with_data tree node kind bytes =
    set tree (node - 1) (record { parent = (tree_node tree node).parent; name = (tree_node tree node).name; kind = kind; bytes = bytes })

-- Some names and one more, unless it is one of them.
unfoldable pub add_name : List (List ℕ) → List ℕ → List (List ℕ)
add_name names name = cond (is_in name names) names (names ++ (name ∷ []))

-- The names of a tree in order of first use, each once: the strings of its file.
unfoldable pub names_from : List (List ℕ) → Tree → List (List ℕ)
names_from names [] = names
names_from names (t ∷ ts) = names_from (add_name names t.name) ts

abbrev pub names_of : Tree → List (List ℕ)
names_of tree = names_from [] tree

-- Bytes of the entries.
unfoldable pub entries_size : Tree → ℕ
entries_size [] = 0
entries_size (t ∷ ts) = entry_size t.kind + entries_size ts

-- How many nodes are not Void.
unfoldable pub non_void_count : Tree → ℕ
non_void_count [] = 0
non_void_count (t ∷ ts) = cond (is_void t.kind) 0 1 + non_void_count ts

-- Finished size where the data end at a place: header and data up to there, string bytes with their zeros, entries.
unfoldable pub size_of : ℕ → Tree → ℕ
size_of end tree = end + length (text_of (names_of tree)) + entries_size tree
