-- Demand 2. Opening accepts a file exactly when it obeys the format, and else reports the first rule that it breaks; lookup names the node with the
-- path; name, view and element are the bytes that the node's entry names. So no opener that accepts or refuses all, and no lookup that always
-- names the root, can pass. All is said of the definitions that the contracts cite. `Obeys`, in crates/aff_open/specs, is document 01's rules with no
-- trace of how they are checked; `rules`, there in Faults.antt, is the same rules in document 01's order, of the strings and entries into which the
-- tables split from the front (`strings_in`, `nodes_in`, `bytes_after_nodes`).
use Rattle.std.specs.Prelude.{◌≡◌, true, false, cond, not, List, [], ◌∷◌, ◌++◌, ◌↔◌, ℕ, ◌+◌, ◌*◌, ◌≤◌, ◌<◌, eqb, length, get_or, take}
use Rattle.aff_format.specs.Answer.{accepted, refused, refusal, refusal_at}
use Rattle.aff_format.specs.Breaks.{Breaks}
use Rattle.aff_format.specs.Bytes.{Octets, part}
use Rattle.aff_format.specs.Edition.{edition_by, edition_number}
use Rattle.aff_format.specs.Layouts.{Layouts}
use Rattle.aff_format.specs.Element.{element_at}
use Rattle.aff_format.specs.Kind.{element_size, is_void}
use Rattle.aff_format.specs.Limits.{string_limit, node_limit}
use Rattle.aff_format.specs.Path.{WellFormed}
use Rattle.aff_format.specs.Tree.{path_by}
use Rattle.aff_format.specs.declared.entry.Entry.{Entry}
use Rattle.aff_format.specs.declared.refusal.RefusalCode.{RefusalCode}
use Rattle.aff_format.specs.declared.section.Section.TheVariants.{Data}
use Rattle.aff_reader.specs.Belongs.{ReaderBelongs}
use Rattle.aff_format.specs.Rule.{FirstFails}
use Rattle.aff_open.specs.Faults.{rules}
use Rattle.aff_tables.specs.Tables.{node_entry}
use Rattle.aff_open.specs.Obeys.{Obeys}
use Rattle.aff_open.specs.Opening.{open_answer, strings_after, entries_after}
use Rattle.aff_format.specs.Recorded.{recorded_entry}
use Rattle.aff_open.specs.Sections.{section_records}
use Rattle.aff_reader.specs.declared.reader.Reader.{Reader}
use Rattle.aff_nodes.specs.Answers.{name_answer, kind_answer, count_answer, view_answer, element_answer}
use Rattle.aff_read.specs.Paths.{lookup_answer}
use Rattle.aff_read.specs.Lookup.{LowestWith, NoneWith}
use Rattle.aff_listing.specs.Once.{occurrences}
use Rattle.aff_nodes.specs.Recall.{name_at, path_at}
use Rattle.aff_read.specs.Shows.{PartIs, Absent}
use Rattle.aff.specs.Cases.{EachHolds, case_table, wide_table, NameBytes}
use Rattle.aff_listing.specs.ListingOrder.{lists, preorder, kept, kept_below, listing_order, listing_answer}
use Rattle.aff_listing.specs.declared.choice.Choice.{Choice}
use Rattle.aff_listing.specs.declared.choice.Choice.TheVariants.{AllNodes, NotVoid}

-- The bytes that an entry names: its count of elements, from its offset on; none where it is Void.
abbrev pub data_named : List ℕ → Entry → List ℕ
data_named image e = cond (is_void e.kind) [] (part e.offset (e.count * element_size e.kind) image)

module _ {image form : List ℕ} (file : Obeys image form) where
  -- The entry, the name, the parent and the path of a node by the file's own tables. Node 0 is the root, whose name is empty.
  abbrev pub its_entry : ℕ → Entry
  its_entry node = node_entry file.entries node

  abbrev pub its_name : ℕ → List ℕ
  its_name node = cond (eqb node 0) [] (get_or file.strings (its_entry node).string [])

  abbrev pub its_parent : ℕ → ℕ
  its_parent node = (its_entry node).parent

  abbrev pub its_path : ℕ → List ℕ
  its_path node = path_by its_parent its_name (length file.entries) node

  -- Node n has the path, and no other node has it.
  pub record ItsNode (path : List ℕ) (n : ℕ) : Type 0 where
    pub exists : n ≤ length file.entries
    pub has : its_path n ≡ path
    pub only : (k : ℕ) → k ≤ length file.entries → its_path k ≡ path → k ≡ n

  -- No node has the path.
  abbrev pub NoNode : List ℕ → Type 0
  NoNode path = (k : ℕ) → k ≤ length file.entries → its_path k ≡ path → ⊥

module _ (image : List ℕ) (r : Reader) (strings entries : List ℕ) where
  -- A definition, of this record and this memory.
  abbrev here {ℓ} : {A : Type ℓ} → (List ℕ → Reader → List ℕ → List ℕ → A) → A
  here f = f image r strings entries

  -- The entry of a node as the areas show it.
  abbrev shown : ℕ → Entry
  shown node = recorded_entry image entries node

  -- What is read with a record that belongs to the memory passed, also where a caller has altered some of it since opening.
  pub record Reads : Type 0 where
    -- Lookup answers 14 with place p exactly when p is where the path breaks; a path breaks exactly when it is not well-formed. For a well-formed one it
    -- answers n exactly when n is the lowest node with that path, and 15 exactly when no node has it.
    pub malformed : (path : List ℕ) (p : ℕ) → (here lookup_answer path ≡ refused (refusal_at 14 p)) ↔ Breaks (WellFormed (edition_by r.edition)) path p
    pub malformed_path : (path : List ℕ) → ((p : ℕ) × (here lookup_answer path ≡ refused (refusal_at 14 p))) ↔ (WellFormed (edition_by r.edition) path → ⊥)
    pub lowest : (path : List ℕ) → WellFormed (edition_by r.edition) path → (n : ℕ) → (here lookup_answer path ≡ accepted n) ↔ here LowestWith path n
    pub absent : (path : List ℕ) → WellFormed (edition_by r.edition) path → (here lookup_answer path ≡ refused (refusal 15)) ↔ here NoneWith path
    -- A node's name is the string of its entry's number, empty for the root; its view is the bytes that its entry names.
    pub name : (node : ℕ) → node ≤ r.nodes → PartIs image (here name_answer node) (here name_at node)
    pub view : (node : ℕ) → node ≤ r.nodes → PartIs image (here view_answer node) (data_named image (shown node))
    -- An element below the count is the decoding of these bytes; any other is 16.
    pub element : (node index : ℕ) → node ≤ r.nodes → index < (shown node).count
        → here element_answer node index ≡ accepted (element_at (shown node).kind (data_named image (shown node)) index)
    pub element_past : (node index : ℕ) → node ≤ r.nodes → (shown node).count ≤ index → here element_answer node index ≡ refused (refusal 16)
    -- Listing order of all nodes begins with the root and has each node exactly once, and nothing else.
    pub order_begins : take 1 (here listing_order AllNodes) ≡ 0 ∷ []
    pub order_once : (node : ℕ) → node ≤ r.nodes → occurrences node (here listing_order AllNodes) ≡ 1
    pub order_only : (n : ℕ) → r.nodes < n → occurrences n (here listing_order AllNodes) ≡ 0
    pub order_length : length (here listing_order AllNodes) ≡ r.nodes + 1
    -- The short order is exactly that order without its Void nodes. It has each node that is not Void exactly once, and no other number; so it is as long
    -- as there are nodes that are not Void.
    pub short_order : here listing_order NotVoid ≡ kept (λ node. not (is_void (shown node).kind)) (here listing_order AllNodes)
    pub short_once : (node : ℕ) → node ≤ r.nodes → is_void (shown node).kind ≡ false → occurrences node (here listing_order NotVoid) ≡ 1
    pub short_void : (node : ℕ) → is_void (shown node).kind ≡ true → occurrences node (here listing_order NotVoid) ≡ 0
    pub short_only : (n : ℕ) → r.nodes < n → occurrences n (here listing_order NotVoid) ≡ 0
    pub short_length : length (here listing_order NotVoid) ≡ kept_below (λ node. not (is_void (shown node).kind)) (r.nodes + 1)
    -- Listing returns the length of the order, and needs an output of that many places and no more.
    pub listing_length : (choice : Choice) (size : ℕ) → length (here listing_order choice) ≤ size
        → here listing_answer choice size ≡ accepted (length (here listing_order choice))
    pub listing_short : (choice : Choice) (size : ℕ) → size < length (here listing_order choice) → here listing_answer choice size ≡ refused (refusal 21)

  -- What is read right after an accepted opening: the file's own strings and entries, as `Obeys` has them.
  pub record ReadsFile {form : List ℕ} (file : Obeys image form) : Type 0 where
    -- The record: the file's edition, the sizes of its tables, and the data header's count as the header has it.
    pub edition : r.edition ≡ edition_number file.edition
    pub string_count : r.strings ≡ length file.strings
    pub nodes : r.nodes ≡ length file.entries
    pub records : r.records ≡ section_records file.edition Data image
    pub name : (node : ℕ) → node ≤ r.nodes → PartIs image (here name_answer node) (its_name file node)
    pub kind : (node : ℕ) → node ≤ r.nodes → here kind_answer node ≡ accepted (its_entry file node).kind
    pub count : (node : ℕ) → node ≤ r.nodes → here count_answer node ≡ accepted (its_entry file node).count
    pub view : (node : ℕ) → node ≤ r.nodes → PartIs image (here view_answer node) (data_named image (its_entry file node))
    pub element : (node index : ℕ) → node ≤ r.nodes → index < (its_entry file node).count
        → here element_answer node index ≡ accepted (element_at (its_entry file node).kind (data_named image (its_entry file node)) index)
    pub path : (node : ℕ) → node ≤ r.nodes → here path_at node ≡ its_path file node
    -- Root first: the root's path is `/`; that of a child of the root is `/` and its name; that of another node is its parent's path, `/` and its name.
    pub path_root : its_path file 0 ≡ 47 ∷ []
    pub path_top : (node : ℕ) → 0 < node → node ≤ r.nodes → its_parent file node ≡ 0 → its_path file node ≡ 47 ∷ its_name file node
    pub path_below : (node : ℕ) → 0 < node → node ≤ r.nodes → 0 < its_parent file node
        → its_path file node ≡ its_path file (its_parent file node) ++ (47 ∷ its_name file node)
    -- Every other number is 15.
    pub others : (n : ℕ) → r.nodes < n → here Absent n
    -- Lookup answers 14 with place p exactly when p is where the path breaks in the file's edition; so it answers 14 exactly when the path is malformed. For
    -- a well-formed one it answers n exactly when n is the one node with that path, and 15 exactly when no node has it. So it finds each node by its path.
    pub lookup_malformed : (path : List ℕ) (p : ℕ) → (here lookup_answer path ≡ refused (refusal_at 14 p)) ↔ Breaks (WellFormed file.edition) path p
    pub lookup_malformed_path : (path : List ℕ)
        → ((p : ℕ) × (here lookup_answer path ≡ refused (refusal_at 14 p))) ↔ (WellFormed file.edition path → ⊥)
    pub lookup : (path : List ℕ) → WellFormed file.edition path → (n : ℕ) → (here lookup_answer path ≡ accepted n) ↔ ItsNode file path n
    pub lookup_absent : (path : List ℕ) → WellFormed file.edition path → (here lookup_answer path ≡ refused (refusal 15)) ↔ NoNode file path
    pub lookup_path : (node : ℕ) → node ≤ r.nodes → here lookup_answer (its_path file node) ≡ accepted node
    -- An output for all nodes is accepted, and their number returned, the root included. Listing order: the root, then its children in number order, each
    -- followed by its subtree, by the file's own parents; of these the nodes that the choice lists, by the file's own types.
    pub listing : (size : ℕ) → length file.entries < size → here listing_answer AllNodes size ≡ accepted (length file.entries + 1)
    pub listing_order_is : (choice : Choice) → here listing_order choice
        ≡ preorder (λ node. lists choice (its_entry file node).kind) (its_parent file) (length file.entries + 1) (length file.entries + 1) 0

pub record Demand2 : Type 0 where
  -- Opening accepts an image of bytes, with areas of 2,048 numbers, exactly when it obeys the format.
  pub accepts : (image form : List ℕ) → Octets image
      → ((r : Reader) × (open_answer image form string_limit node_limit ≡ accepted r)) ↔ Obeys image form
  -- It refuses with the number and the place of the first rule, in document 01's order, that fails; the areas are of any length.
  pub refuses : (image form : List ℕ) (strings entries : ℕ) (t : RefusalCode)
      → (open_answer image form strings entries ≡ refused t) ↔ FirstFails (rules image form strings entries) t
  -- After an accepted opening the record belongs to the image and the areas as it left them, and they read as the file's own tables.
  pub opened_belongs : (image form strings entries : List ℕ) {r : Reader} → open_answer image form (length strings) (length entries) ≡ accepted r
      → ReaderBelongs image r (strings_after image form strings entries) (entries_after image form strings entries)
  pub opened_reads : (image form strings entries : List ℕ) {r : Reader} → open_answer image form (length strings) (length entries) ≡ accepted r
      → (file : Obeys image form) → ReadsFile image r (strings_after image form strings entries) (entries_after image form strings entries) file
  -- Whatever a record belongs to is read so.
  pub reads : (image : List ℕ) (r : Reader) (strings entries : List ℕ) → ReaderBelongs image r strings entries → Reads image r strings entries
  -- Document 01's table of cases, P1 to P10.
  pub cases : EachHolds case_table
  -- The layouts of the three editions in numbers, as the papers have them (crates/aff_format/specs/Layouts.antt).
  pub layouts : Layouts
  -- The same for edition 3, and which bytes a name may have in each edition.
  pub wide_cases : EachHolds wide_table
  pub name_bytes : NameBytes
