-- Demand 2 from the laws of opening (`accepted_obeys`, `obeys_accepted`, `refused_first`, `first_refused`, `opened_belongs`, `opened_shape`), of lookup
-- (`lookup_accepts`, `lookup_absent`, `lookup_only`, `lookup_path`), of listing order and of the cases. What is new here: the answers of name and data by
-- the definitions under them, and that record and areas of an opened file show its own tables. Assumes nothing.
use mathlib.Core.Path.{◌≡◌, refl, sym, ap, subst, ◌∙◌}
use mathlib.Core.Bool.{Bool, true, false, cond, not}
use mathlib.Core.List.{List, [], ◌∷◌, ◌++◌}
use mathlib.Core.Logic.Iff
use mathlib.Core.Logic.{◌↔◌}
use Prim.Native.Nat.{ℕ, zero, suc, ◌+◌, ◌*◌, ◌≤◌, ◌<◌}
use native.Mathlib.Numerals.{add-one}
use native.Mathlib.Omega.{arith}
use lib.Dec.{eqb, ltb}
use lib.ListN.{length, get_or, take}
use borrow.Author.Tests.{ne_eqb, lt-ltb, le-ltb, le-leb, lt-leb}
use Rattle.aff_format.specs.Answer.{accepted, refused, refusal, refusal_at}
use Rattle.aff_format.specs.Breaks.{Breaks}
use Rattle.aff_format.specs.Bytes.{part}
use Rattle.aff_format.specs.Edition.{edition_number, edition_by}
use Rattle.aff_format.specs.Element.{element_at}
use Rattle.aff_format.specs.Kind.{element_size, is_void}
use Rattle.aff_format.specs.Path.{is_path, WellFormed}
use Rattle.aff_format.specs.Tree.{reaches_by, front_by}
use Rattle.aff_format.specs.declared.edition.Edition.{Edition}
use Rattle.aff_format.specs.declared.entry.Entry.{Entry}
use Rattle.aff_format.specs.declared.section.Section.TheVariants.{Data}
use Rattle.aff_format.proofs.BreaksLaws.{path_breaks, no_path_breaks}
use Rattle.aff_format.proofs.EditionLaws.{edition_by_number, layouts}
use Rattle.aff_format.proofs.PathLaws.{path_complete}
use Rattle.aff_format.proofs.ClimbLaws.{reaches_within}
use Rattle.aff_format.proofs.TreeLaws.{front_root, front_step, path_other, front_same}
use Rattle.aff_reader.specs.Belongs.{ReaderBelongs, reader_belongs}
use Rattle.aff_tables.specs.Tables.{node_entry}
use Rattle.aff_open.specs.Obeys.{Obeys}
use Rattle.aff_open.specs.Opening.{open_answer, reader_for, strings_after, entries_after}
use Rattle.aff_format.specs.Recorded.{recorded_entry}
use Rattle.aff_reader.specs.Reader.{no_span}
use Rattle.aff_open.specs.Sections.{edition_in, section_records, strings_in, nodes_in}
use Rattle.aff_reader.specs.declared.reader.Reader.{Reader}
use Rattle.aff_reader.proofs.BelongsLaws.{belongs_record, record_belongs}
use Rattle.aff_open.proofs.FaultLaws.{refused_first, first_refused}
use Rattle.aff_open.proofs.ObeysLaws.{accepted_obeys, obeys_accepted, edition_found, strings_found, entries_found}
use Rattle.aff_open.proofs.OpenedLaws.{OpenedShape, opened_shape, opened_belongs}
use Rattle.aff_nodes.specs.Answers.{name_answer, kind_answer, count_answer, view_answer, element_answer}
use Rattle.aff_read.specs.Paths.{lookup_answer}
use Rattle.aff_read.specs.Lookup.{NoneWith, OnlyWith}
use Rattle.aff_nodes.specs.Recall.{kind_at, parent_at, name_at, data_span, span_bytes, bytes_at, path_at}
use Rattle.aff_read.proofs.FrontLaws.{name_bytes}
use Rattle.aff_listing.proofs.ListingLaws.{preorder_same}
use Rattle.aff_read.proofs.LookupLaws.{lookup_malformed, lookup_accepts, lookup_absent}
use Rattle.aff_listing.proofs.KeptLaws.{preorder_kept, kept_count, every_below}
use Rattle.aff_listing.proofs.ListedLaws.{order_count, order_only, order_length}
use Rattle.aff_read.proofs.UniqueLaws.{lookup_only, lookup_path}
use Rattle.aff_read.specs.Shows.{PartIs}
use Rattle.aff_file.proofs.OpenedShowsLaws.{name_part, view_part, number_absent}
use Rattle.aff.specs.Demand2.{data_named, Reads, its_entry, its_name, its_parent, its_path, ItsNode, NoNode, ReadsFile, Demand2}
use Rattle.aff.proofs.CasesLaws.{cases_hold, wide_cases_hold, bytes_of_names}
use Rattle.aff_listing.specs.ListingOrder.{lists, own, preorder, kept, is_listed, listing_order, listed_count, listing_answer}
use Rattle.aff_listing.specs.Once.{occurrences}
use Rattle.aff_listing.specs.declared.choice.Choice.{Choice}
use Rattle.aff_listing.specs.declared.choice.Choice.TheVariants.{AllNodes, NotVoid}

-- ---- What is read with a record that belongs.

-- The bytes of a node's data are those that its entry names.
data_named_lem : (image entries : List ℕ) (node : ℕ) → bytes_at image entries node ≡ data_named image (recorded_entry image entries node)
unfolding data_span
data_named_lem image entries node = go (recorded_entry image entries node) (is_void (recorded_entry image entries node).kind)
  where
    go : (e : Entry) (v : Bool)
        → span_bytes image (cond v no_span (record { offset = e.offset; size = e.count * element_size e.kind }))
        ≡ cond v [] (part e.offset (e.count * element_size e.kind) image)
    go e true = refl
    go e false = refl

module _ (image : List ℕ) (r : Reader) (strings entries : List ℕ) (b : ReaderBelongs image r strings entries) where
  it : reader_belongs image r strings entries ≡ true
  it = record_belongs b

  malformed : (path : List ℕ) (p : ℕ) → (lookup_answer image r strings entries path ≡ refused (refusal_at 14 p)) ↔ Breaks (WellFormed (edition_by r.edition)) path p
  malformed path p = Iff.trans (lookup_malformed image r strings entries path b p) (path_breaks (edition_by r.edition) path p)

  malformed_path : (path : List ℕ) → ((p : ℕ) × (lookup_answer image r strings entries path ≡ refused (refusal_at 14 p))) ↔ (WellFormed (edition_by r.edition) path → ⊥)
  malformed_path path = (
    λ (p, h). ((malformed path p).0 h).not_in,
    λ n. let (p, at) = no_path_breaks (edition_by r.edition) path n in (p, (malformed path p).1 at),
  )

  module _ (node : ℕ) (there : node ≤ r.nodes) where
    passes : ltb r.nodes node ≡ false
    passes = le-ltb r.nodes node there

    name_read : PartIs image (name_answer image r strings entries node) (name_at image r strings entries node)
    name_read = name_part image r strings entries it node there _ (name_bytes image r strings entries b node there)

    view_read : PartIs image (view_answer image r strings entries node) (data_named image (recorded_entry image entries node))
    view_read = view_part image r strings entries it node there _ (data_named_lem image entries node)

    element_read : (index : ℕ) → index < (recorded_entry image entries node).count
        → element_answer image r strings entries node index
        ≡ accepted (element_at (recorded_entry image entries node).kind (data_named image (recorded_entry image entries node)) index)
    unfolding element_answer
    element_read index h =
        rw (it, passes, lt-leb (recorded_entry image entries node).count index h)
        (ap (λ (l : List ℕ). accepted (element_at (kind_at image entries node) l index)) (data_named_lem image entries node))

    element_past : (index : ℕ) → (recorded_entry image entries node).count ≤ index → element_answer image r strings entries node index ≡ refused (refusal 16)
    unfolding element_answer
    element_past index h = rw (it, passes, le-leb (recorded_entry image entries node).count index h)

  order_begins : take 1 (listing_order image r strings entries AllNodes) ≡ 0 ∷ []
  unfolding preorder own
  order_begins = rw (add-one r.nodes)

  -- Both answers of listing, by the length of the order.
  listing_length : (choice : Choice) (size : ℕ) → length (listing_order image r strings entries choice) ≤ size
      → listing_answer image r strings entries choice size ≡ accepted (length (listing_order image r strings entries choice))
  unfolding listing_answer
  listing_length choice size h =
      let few : listed_count image r strings entries choice ≤ size = omega (arith, order_length b choice) in
      rw (it, le-ltb size (listed_count image r strings entries choice) few) (ap accepted (sym (order_length b choice)))

  listing_short : (choice : Choice) (size : ℕ) → size < length (listing_order image r strings entries choice)
      → listing_answer image r strings entries choice size ≡ refused (refusal 21)
  unfolding listing_answer
  listing_short choice size h =
      let many : size < listed_count image r strings entries choice = omega (arith, order_length b choice) in
      rw (it, lt-ltb size (listed_count image r strings entries choice) many)

  -- The short order.
  short_order : listing_order image r strings entries NotVoid
      ≡ kept (λ node. not (is_void (recorded_entry image entries node).kind)) (listing_order image r strings entries AllNodes)
  short_order = preorder_kept (is_listed image entries NotVoid) (parent_at image entries) (r.nodes + 1) (r.nodes + 1) 0

  short_once : (node : ℕ) → node ≤ r.nodes → is_void (recorded_entry image entries node).kind ≡ false → occurrences node (listing_order image r strings entries NotVoid) ≡ 1
  short_once node h e = order_count b NotVoid node h ∙ rw e

  short_void : (node : ℕ) → is_void (recorded_entry image entries node).kind ≡ true → occurrences node (listing_order image r strings entries NotVoid) ≡ 0
  short_void node e =
      ap (occurrences node) short_order
      ∙ kept_count (is_listed image entries NotVoid) node (listing_order image r strings entries AllNodes)
      ∙ rw e

  reads : Reads image r strings entries
  reads =
      record {
        malformed = malformed;
        malformed_path = malformed_path;
        lowest = λ path w. lookup_accepts image r strings entries path b (path_complete (edition_by r.edition) path w);
        absent = λ path w. lookup_absent image r strings entries path b (path_complete (edition_by r.edition) path w);
        name = name_read;
        view = view_read;
        element = λ node index there. element_read node there index;
        element_past = λ node index there. element_past node there index;
        order_begins = order_begins;
        order_once = order_count b AllNodes;
        order_only = order_only b AllNodes;
        order_length = order_length b AllNodes ∙ every_below (r.nodes + 1);
        short_order = short_order;
        short_once = short_once;
        short_void = short_void;
        short_only = order_only b NotVoid;
        short_length = order_length b NotVoid;
        listing_length = listing_length;
        listing_short = listing_short;
      }

-- ---- What is read right after an accepted opening.

module _ (image form strings entries : List ℕ) {r : Reader} (h : open_answer image form (length strings) (length entries) ≡ accepted r) (file : Obeys image form) where
  abbrev ss : List ℕ
  ss = strings_after image form strings entries

  abbrev es : List ℕ
  es = entries_after image form strings entries

  shape : OpenedShape image form strings entries r
  shape = opened_shape image form strings entries h

  shown : ReaderBelongs image r ss es
  shown = belongs_record (opened_belongs image form strings entries h)

  -- The tables by the text's edition are the file's.
  strings_are : strings_in (edition_in image) image ≡ file.strings
  strings_are = ap (λ (e : Edition). strings_in e image) (edition_found file) ∙ strings_found file

  entries_are : nodes_in (edition_in image) image ≡ file.entries
  entries_are = ap (λ (e : Edition). nodes_in e image) (edition_found file) ∙ entries_found file

  strings_count : r.strings ≡ length file.strings
  strings_count = ap (λ (x : Reader). x.strings) shape.reader ∙ ap length strings_are

  nodes_count : r.nodes ≡ length file.entries
  nodes_count = ap (λ (x : Reader). x.nodes) shape.reader ∙ ap length entries_are

  edition_is : edition_by r.edition ≡ file.edition
  edition_is = ap (λ (x : Reader). edition_by x.edition) shape.reader ∙ edition_by_number (edition_in image) ∙ edition_found file

  formed : {path : List ℕ} → WellFormed file.edition path → is_path (edition_by r.edition) path ≡ true
  formed {path} w = path_complete (edition_by r.edition) path (rw edition_is w)

  -- What the areas show of a node.
  entry_is : (node : ℕ) → node ≤ r.nodes → recorded_entry image es node ≡ its_entry file node
  unfolding recorded_entry
  entry_is zero l = refl
  entry_is (suc k) l = shape.entries_are (suc k) (omega arith) l ∙ ap (λ (x : List Entry). node_entry x (suc k)) entries_are

  name_is : (node : ℕ) → node ≤ r.nodes → name_at image r ss es node ≡ its_name file node
  unfolding name_at
  name_is zero l = refl
  name_is (suc k) l =
      rw (ne_eqb (suc k) 0 (λ q. omega arith), entry_is (suc k) l)
      (shape.strings_are (its_entry file (suc k)).string (omega (arith, strings_count, (file.linked (suc k) (omega arith) (omega (arith, nodes_count))).1))
      ∙ ap (λ (x : List (List ℕ)). get_or x (its_entry file (suc k)).string []) strings_are)

  parent_is : (node : ℕ) → node ≤ r.nodes → parent_at image es node ≡ its_parent file node
  parent_is node l = ap (λ (e : Entry). e.parent) (entry_is node l)

  path_is : (node : ℕ) → node ≤ r.nodes → path_at image r ss es node ≡ its_path file node
  path_is node l =
      ap (λ (f : List ℕ). cond (eqb node 0) (47 ∷ []) f)
      (front_same (parent_at image es) (its_parent file) (name_at image r ss es) (its_name file) r.nodes
      (λ k lo hi. parent_is k hi) (λ k lo hi. name_is k hi) shown.parent_exists r.nodes node l
      ∙ ap (λ (steps : ℕ). front_by (its_parent file) (its_name file) steps node) nodes_count)

  -- A node's path is its parent's front, a slash and its name.
  climb_is : (node : ℕ) → 0 < node → node ≤ r.nodes → reaches_by (its_parent file) (length file.entries) node ≡ true
  climb_is node lo l =
      let here : node ≤ length file.entries = omega (arith, nodes_count) in
      let (steps, reached) = file.climbs node lo here in
      reaches_within (its_parent file) (length file.entries) (λ k lo hi. (file.linked k lo hi).0) steps node here reached

  front_is : (node : ℕ) → 0 < node → node ≤ r.nodes
      → its_path file node ≡ front_by (its_parent file) (its_name file) (length file.entries) (its_parent file node) ++ (47 ∷ its_name file node)
  front_is node lo l =
      let f : node ≡ 0 → ⊥ = λ q. omega arith in
      path_other (its_parent file) (its_name file) (length file.entries) node f
      ∙ front_step (its_parent file) (its_name file) (length file.entries) node f (climb_is node lo l)

  path_top : (node : ℕ) → 0 < node → node ≤ r.nodes → its_parent file node ≡ 0 → its_path file node ≡ 47 ∷ its_name file node
  path_top node lo l e =
      front_is node lo l
      ∙ ap (λ (p : ℕ). front_by (its_parent file) (its_name file) (length file.entries) p ++ (47 ∷ its_name file node)) e
      ∙ ap (λ (x : List ℕ). x ++ (47 ∷ its_name file node)) (front_root (its_parent file) (its_name file) (length file.entries))

  path_below : (node : ℕ) → 0 < node → node ≤ r.nodes → 0 < its_parent file node → its_path file node ≡ its_path file (its_parent file node) ++ (47 ∷ its_name file node)
  path_below node lo l up =
      front_is node lo l
      ∙ ap (λ (x : List ℕ). x ++ (47 ∷ its_name file node))
      (sym (path_other (its_parent file) (its_name file) (length file.entries) (its_parent file node) (λ q. omega arith)))

  -- A node with a path, by the areas and by the file.
  its_node : (path : List ℕ) (n : ℕ) → OnlyWith image r ss es path n ↔ ItsNode file path n
  its_node path n = (
    λ o. record {
      exists = rw (sym nodes_count) o.exists;
      has = sym (path_is n o.exists) ∙ o.has;
      only = λ k l e. let here : k ≤ r.nodes = omega (arith, nodes_count) in o.only k here (path_is k here ∙ e);
    },
    λ o. let there : n ≤ r.nodes = omega (arith, nodes_count, o.exists) in record {
      exists = there;
      has = path_is n there ∙ o.has;
      only = λ k l e. o.only k (omega (arith, nodes_count)) (sym (path_is k l) ∙ e);
    },
  )

  no_node : (path : List ℕ) → NoneWith image r ss es path ↔ NoNode file path
  no_node path = (
    λ o k l e. let here : k ≤ r.nodes = omega (arith, nodes_count) in o k here (path_is k here ∙ e),
    λ o k l e. o k (omega (arith, nodes_count)) (sym (path_is k l) ∙ e),
  )

  -- Listing order by the file's types and parents.
  order_is : (choice : Choice) → listing_order image r ss es choice
      ≡ preorder (λ node. lists choice (its_entry file node).kind) (its_parent file) (length file.entries + 1) (length file.entries + 1) 0
  order_is choice =
      let keep : ℕ → Bool = λ node. lists choice (its_entry file node).kind in
      preorder_same (parent_at image es) (its_parent file) (is_listed image es choice) keep (r.nodes + 1) (λ k lo hi. parent_is k (omega arith))
      (λ k hi. ap (λ (e : Entry). lists choice e.kind) (entry_is k (omega arith))) (r.nodes + 1) 0 (omega arith)
      ∙ ap (λ (n : ℕ). preorder keep (its_parent file) (n + 1) (n + 1) 0) nodes_count

  listing_is : (size : ℕ) → length file.entries < size → listing_answer image r ss es AllNodes size ≡ accepted (length file.entries + 1)
  unfolding listing_answer
  listing_is size l =
      let all : listed_count image r ss es AllNodes ≡ length file.entries + 1 = every_below (r.nodes + 1) ∙ ap (λ (n : ℕ). n + 1) nodes_count in
      rw (record_belongs shown, all, le-ltb size (length file.entries + 1) (omega arith))

  reads_file : ReadsFile image r ss es file
  unfolding name_at kind_answer count_answer
  reads_file =
      let here = record_belongs shown in
      record {
        edition = ap (λ (x : Reader). x.edition) shape.reader ∙ ap edition_number (edition_found file);
        string_count = strings_count;
        nodes = nodes_count;
        records = ap (λ (x : Reader). x.records) shape.reader ∙ ap (λ (e : Edition). section_records e Data image) (edition_found file);
        name = λ node l. subst (PartIs image (name_answer image r ss es node)) (name_is node l) (name_read image r ss es shown node l);
        kind = λ node l. rw (here, le-ltb r.nodes node l) (ap (λ (e : Entry). accepted e.kind) (entry_is node l));
        count = λ node l. rw (here, le-ltb r.nodes node l) (ap (λ (e : Entry). accepted e.count) (entry_is node l));
        view = λ node l. subst (λ (e : Entry). PartIs image (view_answer image r ss es node) (data_named image e)) (entry_is node l) (view_read image r ss es shown node l);
        element = λ node index l.
            subst
            (λ (e : Entry). index < e.count → element_answer image r ss es node index ≡ accepted (element_at e.kind (data_named image e) index))
            (entry_is node l) (element_read image r ss es shown node l index);
        path = path_is;
        path_root = refl;
        path_top = path_top;
        path_below = path_below;
        others = number_absent image r ss es here;
        lookup_malformed = λ path p. rw (← edition_is) (malformed image r ss es shown path p);
        lookup_malformed_path = λ path. rw (← edition_is) (malformed_path image r ss es shown path);
        lookup = λ path w n. Iff.trans (lookup_only image form strings entries h path (formed w) n) (its_node path n);
        lookup_absent = λ path w. Iff.trans (lookup_absent image r ss es path shown (formed w)) (no_node path);
        lookup_path = λ node l. rw (sym (path_is node l)) (lookup_path image form strings entries h node l);
        listing = listing_is;
        listing_order_is = order_is;
      }

-- ---- The demand.

pub demand2 : Demand2
demand2 =
    record {
      accepts = λ image form o. (λ (r, h). accepted_obeys image form o h, λ f. (reader_for (edition_in image) image, obeys_accepted image form f));
      refuses = λ image form strings entries t. (refused_first image form strings entries, first_refused image form strings entries);
      opened_belongs = λ image form strings entries h. belongs_record (opened_belongs image form strings entries h);
      opened_reads = reads_file;
      reads = reads;
      cases = cases_hold;
      layouts = layouts;
      wide_cases = wide_cases_hold;
      name_bytes = bytes_of_names;
    }
