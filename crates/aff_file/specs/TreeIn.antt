-- The numbered tree of an image by its own tables: of each entry its parent, its name, its kind and the bytes that it names. An accepted opening shows
-- it (`opened_shows` in proofs/OpenedShowsLaws.antt).
use Rattle.std.specs.Prelude.{cond, List, [], map, ℕ, ◌*◌, get_or}
use Rattle.aff_format.specs.Bytes.{part}
use Rattle.aff_format.specs.Kind.{element_size, is_void}
use Rattle.aff_format.specs.Tree.{Node, Tree}
use Rattle.aff_format.specs.declared.edition.Edition.{Edition}
use Rattle.aff_format.specs.declared.entry.Entry.{Entry}
use Rattle.aff_open.specs.Sections.{strings_in, nodes_in}

module _ (e : Edition) (image : List ℕ) where
  abbrev pub node_by : Entry → Node
  node_by n =
      record {
        parent = n.parent;
        name = get_or (strings_in e image) n.string [];
        kind = n.kind;
        bytes = cond (is_void n.kind) [] (part n.offset (n.count * element_size n.kind) image);
      }

  unfoldable pub tree_in : Tree
  tree_in = map node_by (nodes_in e image)
