-- The bytes of a finished file by what is in it: document 01, 'Layout of a file' and 'Writing keys'. Header, data, strings, entries, one after the other. No
-- writer, area or record is part of it.
use Rattle.std.specs.Prelude.{◌≡◌, false, cond, List, [], ◌++◌, map, ℕ, ◌+◌, ◌-◌, ◌*◌, ◌≤◌, ◌<◌, length, get_or}
use Rattle.aff_format.specs.Bytes.{part}
use Rattle.aff_format.specs.Edition.{header_size}
use Rattle.aff_format.specs.Entry.{Storable}
use Rattle.aff_format.specs.Kind.{element_size, is_void}
use Rattle.aff_format.specs.Limits.{image_limit, string_limit, node_limit}
use Rattle.aff_format.specs.Path.{Subkeys}
use Rattle.aff_format.specs.Strings.{text_of}
use Rattle.aff_format.specs.Tree.{Node, Tree}
use Rattle.aff_format.specs.declared.edition.Edition.{Edition}
use Rattle.aff_format.specs.declared.entry.Entry.{Entry}
use Rattle.aff_format.specs.declared.section.Section.{Section}
use Rattle.aff_format.specs.declared.section.Section.TheVariants.{Symbol, Data}
use Rattle.aff_format.specs.declared.section.Section.TheVariants as section
use Rattle.aff_header.specs.Header.{section_header, header_front, with_sum}
use Rattle.aff_tables.specs.Tables.{node_entry, tree_bytes}
use Rattle.aff_open.specs.Rules.{Distinct, Climbs, NameFree, EachNode}

-- What is in a file: the bytes of its data section with the record count of their header, the strings in order, and the entries in order. Data offsets
-- of the entries count from the start of the file, as document 01 has it.
pub record FileContents : Type 0 where
  pub stored : List ℕ
  pub records : ℕ
  pub names : List (List ℕ)
  pub entries : List Entry

module _ (e : Edition) (c : FileContents) where
  -- The bytes of each section, where it begins, and the record count of its header.
  abbrev pub bytes_of : Section → List ℕ
  bytes_of Symbol = text_of c.names
  bytes_of section.Tree = tree_bytes c.entries
  bytes_of Data = c.stored

  abbrev pub place_of : Section → ℕ
  place_of Symbol = header_size e + length c.stored
  place_of section.Tree = header_size e + length c.stored + length (text_of c.names)
  place_of Data = header_size e

  abbrev pub count_of : Section → ℕ
  count_of Symbol = length c.names
  count_of section.Tree = length c.entries
  count_of Data = c.records

  abbrev pub header_of : Section → List ℕ
  header_of s = section_header e (place_of s) (count_of s) (bytes_of s)

  -- The header of the file, and the file.
  unfoldable pub file_header : List ℕ → List ℕ
  file_header form = with_sum (header_front e form header_of)

  unfoldable pub file_of : List ℕ → List ℕ
  file_of form = file_header form ++ (c.stored ++ (text_of c.names ++ tree_bytes c.entries))

  -- The tree that the contents describe: of each entry its parent, its name, its kind and its bytes.
  abbrev pub node_in : Entry → Node
  node_in n =
      record {
        parent = n.parent;
        name = get_or c.names n.string [];
        kind = n.kind;
        bytes = cond (is_void n.kind) [] (part (n.offset - header_size e) (n.count * element_size n.kind) c.stored);
      }

  unfoldable pub contents_tree : Tree
  contents_tree = map node_in c.entries

  -- Node k has its data inside the data section.
  abbrev pub DataStored : ℕ → Type 0
  DataStored k = is_void (node_entry c.entries k).kind ≡ false
      → (header_size e ≤ (node_entry c.entries k).offset)
      × ((node_entry c.entries k).offset + (node_entry c.entries k).count * element_size (node_entry c.entries k).kind ≤ header_size e + length c.stored)

  -- The conditions under which a file of these contents, with `after` more bytes after it, obeys the format and shows the tree of its contents.
  pub record Lawful (form : List ℕ) (after : ℕ) : Type 0 where
    pub form_length : length form ≡ 12
    pub size : length (file_of form) + after ≤ image_limit
    -- Names are subkeys of the edition and differ.
    pub few_names : length c.names ≤ string_limit
    pub subkeys : Subkeys e c.names
    pub distinct : Distinct c.names
    -- The numbers of each entry fit its fields. Parents and strings exist, climbs end, siblings differ, data lie inside.
    pub few_nodes : length c.entries ≤ node_limit
    pub storable : EachNode c.entries (λ k. Storable (node_entry c.entries k))
    pub parent_exists : EachNode c.entries (λ k. (node_entry c.entries k).parent ≤ length c.entries)
    pub string_exists : EachNode c.entries (λ k. (node_entry c.entries k).string < length c.names)
    pub climbs : EachNode c.entries (Climbs c.entries)
    pub name_free : EachNode c.entries (NameFree c.names c.entries)
    pub data_inside : EachNode c.entries DataStored
    -- The record count of the data header fits its field.
    pub records_fit : c.records ≤ image_limit
