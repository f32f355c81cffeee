-- An opened file shows a tree: document 01, 'Writing keys': each of the tree's numbers answers with its name, path (output long enough),
-- type, count and bytes, and any other number with 15.
use Rattle.std.specs.Prelude.{◌≡◌, List, ◌++◌, ℕ, ◌≤◌, ◌<◌, length, drop}
use Rattle.aff_format.specs.Answer.{Answer, accepted, refused, refusal}
use Rattle.aff_format.specs.Limits.{string_limit, node_limit}
use Rattle.aff_format.specs.Tree.{Tree, tree_node, tree_count, path_in}
use Rattle.aff_open.specs.Opening.{open_answer, strings_after, entries_after}
use Rattle.aff_reader.specs.declared.reader.Reader.{Reader}
use Rattle.aff_nodes.specs.Answers.{part_of, name_answer, kind_answer, count_answer, view_answer, element_answer}
use Rattle.aff_read.specs.Paths.{front_written, path_answer}
use Rattle.aff_nodes.specs.Recall.{path_at}
use Rattle.aff_reader.specs.declared.reader.Span.{Span}

-- A call that shows a part accepts, and the part is these bytes.
pub record PartIs (image : List ℕ) (answer : Answer Span) (bytes : List ℕ) : Type 0 where
  pub span : Span
  pub answers : answer ≡ accepted span
  pub bytes_are : part_of image answer ≡ bytes

module _ (image : List ℕ) (r : Reader) (strings entries : List ℕ) where
  -- A definition, of this record and this memory.
  abbrev here : {A : Type 0} → (List ℕ → Reader → List ℕ → List ℕ → A) → A
  here f = f image r strings entries

  -- Number n of a tree, as the reading calls answer it.
  pub record NodeShown (tree : Tree) (n : ℕ) : Type 0 where
    pub name : PartIs image (here name_answer n) (tree_node tree n).name
    pub kind : here kind_answer n ≡ accepted (tree_node tree n).kind
    pub count : here count_answer n ≡ accepted (tree_count tree n)
    pub view : PartIs image (here view_answer n) (tree_node tree n).bytes
    -- In every output long enough the front is the path, and the rest stays.
    pub path_length : (out : List ℕ) → length (path_in tree n) ≤ length out → here path_answer n (length out) ≡ accepted (length (path_in tree n))
    pub path : (out : List ℕ) → length (path_in tree n) ≤ length out
        → front_written (here path_answer n (length out)) (here path_at n) out ≡ path_in tree n ++ drop (length (path_in tree n)) out

  -- Every other number.
  pub record Absent (n : ℕ) : Type 0 where
    pub name : here name_answer n ≡ refused (refusal 15)
    pub kind : here kind_answer n ≡ refused (refusal 15)
    pub count : here count_answer n ≡ refused (refusal 15)
    pub view : here view_answer n ≡ refused (refusal 15)
    pub element : (index : ℕ) → here element_answer n index ≡ refused (refusal 15)
    pub path : (size : ℕ) → here path_answer n size ≡ refused (refusal 15)

-- With that form and any areas of 2,048 numbers, opening accepts, and its record and areas show the tree.
pub record Shows (image form : List ℕ) (tree : Tree) : Type 0 where
  pub reader : Reader
  pub opens : open_answer image form string_limit node_limit ≡ accepted reader
  pub nodes : (strings entries : List ℕ) → length strings ≡ string_limit → length entries ≡ node_limit → (n : ℕ) → n ≤ length tree
      → NodeShown image reader (strings_after image form strings entries) (entries_after image form strings entries) tree n
  pub others : (strings entries : List ℕ) → length strings ≡ string_limit → length entries ≡ node_limit → (n : ℕ) → length tree < n
      → Absent image reader (strings_after image form strings entries) (entries_after image form strings entries) n
