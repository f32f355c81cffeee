-- An accepted opening shows the tree of the image's own tables: the areas hold its strings and entries, and the record belongs to them, so that every
-- answer about a node is read off the tree. Assumes nothing.
use mathlib.Core.Path.{◌≡◌, refl, sym, ap, ◌∙◌}
use mathlib.Core.Bool.{Bool, true, false, cond}
use mathlib.Core.List.{List, [], ◌∷◌, map}
use Prim.Native.Nat.{ℕ, zero, suc, ◌*◌, ◌≤◌, ◌<◌}
use native.Mathlib.Omega.{arith}
use lib.Dec.{eqb}
use lib.ListN.{length, get_or, length-map}
use borrow.Author.Tests.{ne_eqb, le-ltb, lt-ltb, ltb-false}
use Rattle.aff_format.specs.Answer.{accepted}
use Rattle.aff_format.specs.Bytes.{part}
use Rattle.aff_format.specs.Element.{count_in}
use Rattle.aff_format.specs.Kind.{element_size, is_void}
use Rattle.aff_format.specs.Limits.{string_limit, node_limit}
use Rattle.aff_format.specs.Recorded.{recorded_entry}
use Rattle.aff_format.specs.Tree.{Node, Tree, tree_node, front_by, path_in}
use Rattle.aff_format.specs.declared.edition.Edition.{Edition}
use Rattle.aff_format.specs.declared.entry.Entry.{Entry}
use Rattle.aff_format.proofs.AnswerLaws.{passed, passed_value}
use Rattle.aff_format.proofs.TreeLaws.{front_same}
use Rattle.aff_tables.specs.Tables.{node_entry}
use Rattle.aff_reader.specs.Belongs.{reader_belongs, ReaderBelongs}
use Rattle.aff_reader.specs.Reader.{no_span}
use Rattle.aff_reader.specs.declared.reader.Reader.{Reader}
use Rattle.aff_reader.specs.declared.reader.Span.{Span}
use Rattle.aff_reader.proofs.BelongsLaws.{belongs_record}
use Rattle.aff_open.specs.Opening.{open_answer, strings_after, entries_after}
use Rattle.aff_open.specs.Sections.{edition_in, strings_in, nodes_in}
use Rattle.aff_open.proofs.OpenedLaws.{OpenedShape, opened_shape, opened_belongs}
use Rattle.aff_nodes.specs.Answers.{exists_checks, name_answer, kind_answer, count_answer, view_answer, element_answer}
use Rattle.aff_nodes.specs.Recall.{kind_at, parent_at, name_at, name_span, data_span, span_bytes, bytes_at, path_at}
use Rattle.aff_nodes.proofs.ElementLaws.{count_in_lem}
use Rattle.aff_read.specs.Paths.{path_answer}
use Rattle.aff_read.specs.Shows.{PartIs, NodeShown, Absent, Shows}
use Rattle.aff_read.proofs.FrontLaws.{name_bytes}
use Rattle.aff_file.specs.TreeIn.{node_by, tree_in}

-- ---- Answers with a record that belongs.

module _ (image : List ℕ) (r : Reader) (strings entries : List ℕ) (here : reader_belongs image r strings entries ≡ true) (n : ℕ) where
  -- The part of a node's name, or of its data.
  pub name_part : n ≤ r.nodes → (bytes : List ℕ) → span_bytes image (name_span image r strings entries n) ≡ bytes
      → PartIs image (name_answer image r strings entries n) bytes
  unfolding name_answer
  name_part l bytes e =
      let passes = le-ltb r.nodes n l in
      record { span = name_span image r strings entries n; answers = rw (here, passes); bytes_are = rw (here, passes) e }

  pub view_part : n ≤ r.nodes → (bytes : List ℕ) → span_bytes image (data_span image entries n) ≡ bytes → PartIs image (view_answer image r strings entries n) bytes
  unfolding view_answer
  view_part l bytes e =
      let passes = le-ltb r.nodes n l in
      record { span = data_span image entries n; answers = rw (here, passes); bytes_are = rw (here, passes) e }

  -- A number of no node.
  pub number_absent : r.nodes < n → Absent image r strings entries n
  unfolding name_answer kind_answer count_answer view_answer element_answer path_answer
  number_absent l =
      let absent = lt-ltb r.nodes n l in
      record {
        name = rw (here, absent);
        kind = rw (here, absent);
        count = rw (here, absent);
        view = rw (here, absent);
        element = λ index. rw (here, absent);
        path = λ buffer. rw (here, absent);
      }

-- The bytes of a node's data are those that its entry names.
pub data_named_lem : (image entries : List ℕ) (node : ℕ) {e : Entry} → recorded_entry image entries node ≡ e
    → bytes_at image entries node ≡ cond (is_void e.kind) [] (part e.offset (e.count * element_size e.kind) image)
unfolding data_span
data_named_lem image entries node is =
    go (recorded_entry image entries node) (is_void (recorded_entry image entries node).kind)
    ∙ ap (λ (e : Entry). cond (is_void e.kind) [] (part e.offset (e.count * element_size e.kind) image)) is
  where
    go : (e : Entry) (v : Bool) → span_bytes image (cond v no_span (record { offset = e.offset; size = e.count * element_size e.kind }))
        ≡ cond v [] (part e.offset (e.count * element_size e.kind) image)
    go e true = refl
    go e false = refl

-- They begin where it says, and at 0 where there are none.
span_named : (image entries : List ℕ) (node : ℕ) {e : Entry} → recorded_entry image entries node ≡ e
    → (data_span image entries node).offset ≡ cond (is_void e.kind) 0 e.offset
unfolding data_span
span_named image entries node is =
    go (recorded_entry image entries node) (is_void (recorded_entry image entries node).kind) ∙ ap (λ (e : Entry). cond (is_void e.kind) 0 e.offset) is
  where
    go : (e : Entry) (v : Bool) → (cond v no_span (record { offset = e.offset; size = e.count * element_size e.kind })).offset ≡ cond v 0 e.offset
    go e true = refl
    go e false = refl

-- ---- A tree made entry by entry.

-- Node k is made of entry k.
pub node_of_entry : (f : Entry → Node) (es : List Entry) (k : ℕ) → 0 < k → k ≤ length es → tree_node (map f es) k ≡ f (node_entry es k)
node_of_entry f es zero lo hi = absurd (omega arith)
node_of_entry f [] (suc k) lo hi = absurd (omega arith)
node_of_entry f (e ∷ es) (suc zero) lo hi = refl
node_of_entry f (e ∷ es) (suc (suc k)) lo hi = node_of_entry f es (suc k) (omega arith) (omega arith)

-- ---- An accepted opening.

module _ (image form : List ℕ) {r : Reader} (h : open_answer image form string_limit node_limit ≡ accepted r) where
  abbrev e : Edition
  e = edition_in image

  abbrev tree : Tree
  tree = tree_in e image

  module _ (strings entries : List ℕ) (a : length strings ≡ string_limit) (b : length entries ≡ node_limit) where
    abbrev ss : List ℕ
    ss = strings_after image form strings entries

    abbrev es : List ℕ
    es = entries_after image form strings entries

    accepts : open_answer image form (length strings) (length entries) ≡ accepted r
    accepts = rw (a, b) h

    shape : OpenedShape image form strings entries r
    shape = opened_shape image form strings entries accepts

    it : reader_belongs image r ss es ≡ true
    it = opened_belongs image form strings entries accepts

    belongs : ReaderBelongs image r ss es
    belongs = belongs_record it

    -- The tree has the nodes of the tree table, and the areas hold their entries and names.
    nodes_many : r.nodes ≡ length (nodes_in e image)
    nodes_many = ap (λ (x : Reader). x.nodes) shape.reader

    nodes_count : r.nodes ≡ length tree
    unfolding tree_in
    nodes_count = nodes_many ∙ sym (length-map (nodes_in e image) (node_by e image))

    entry_is : (k : ℕ) → 0 < k → k ≤ r.nodes → recorded_entry image es k ≡ node_entry (nodes_in e image) k
    entry_is = shape.entries_are

    name_is : (k : ℕ) → 0 < k → k ≤ r.nodes → name_at image r ss es k ≡ get_or (strings_in e image) (node_entry (nodes_in e image) k).string []
    unfolding name_at
    name_is k lo hi =
        rw (ne_eqb k 0 (λ q. omega arith), ← entry_is k lo hi)
        (shape.strings_are (recorded_entry image es k).string (belongs.string_exists k lo hi))

    -- A node as the areas recall it is the node of the tree.
    abbrev recalled : ℕ → Node
    recalled n = record { parent = parent_at image es n; name = name_at image r ss es n; kind = kind_at image es n; bytes = bytes_at image es n }

    made_of_entry : (k : ℕ) → 0 < k → k ≤ r.nodes → tree_node tree k ≡ node_by e image (node_entry (nodes_in e image) k)
    unfolding tree_in
    made_of_entry k lo hi = node_of_entry (node_by e image) (nodes_in e image) k lo (omega (arith, nodes_many))

    other_recalled : (k : ℕ) → 0 < k → k ≤ r.nodes → tree_node tree k ≡ recalled k
    other_recalled k lo hi =
        let is = entry_is k lo hi in
        made_of_entry k lo hi
        ∙ sym (rw (ap (λ (x : Entry). x.parent) is, name_is k lo hi, ap (λ (x : Entry). x.kind) is, data_named_lem image es k is))

    node_recalled : (n : ℕ) → n ≤ r.nodes → tree_node tree n ≡ recalled n
    unfolding recorded_entry name_at data_span
    node_recalled zero l = refl
    node_recalled (suc k) l = other_recalled (suc k) (omega arith) l

    path_is : (n : ℕ) → n ≤ r.nodes → path_at image r ss es n ≡ path_in tree n
    path_is n l =
        ap (λ (f : List ℕ). cond (eqb n 0) (47 ∷ []) f)
        (front_same (parent_at image es) (λ k. (tree_node tree k).parent) (name_at image r ss es) (λ k. (tree_node tree k).name) r.nodes
        (λ k lo hi. sym (ap (λ (t : Node). t.parent) (node_recalled k hi)))
        (λ k lo hi. sym (ap (λ (t : Node). t.name) (node_recalled k hi)))
        belongs.parent_exists r.nodes n l
        ∙ ap (λ (steps : ℕ). front_by (λ k. (tree_node tree k).parent) (λ k. (tree_node tree k).name) steps n) nodes_count)

    -- An accepted view begins where the entry of its node says; that of the root is empty.
    view_is : (n : ℕ) {view : Span} → view_answer image r ss es n ≡ accepted view → (n ≤ r.nodes) × (data_span image es n ≡ view)
    unfolding view_answer
    view_is n h =
        let checks = exists_checks image r ss es n in
        (ltb-false r.nodes n (passed checks (data_span image es n) h).1.0, passed_value checks (data_span image es n) h)

    pub view_begins : (n : ℕ) {view : Span} → view_answer image r ss es n ≡ accepted view → 0 < n
        → (n ≤ length (nodes_in e image))
        × (view.offset ≡ cond (is_void (node_entry (nodes_in e image) n).kind) 0 (node_entry (nodes_in e image) n).offset)
    view_begins n h lo =
        let (l, is) = view_is n h in
        (omega (arith, l, nodes_many), ap (λ (v : Span). v.offset) (sym is) ∙ span_named image es n (entry_is n lo l))

    pub view_of_root : {view : Span} → view_answer image r ss es 0 ≡ accepted view → view.offset ≡ 0
    unfolding recorded_entry data_span
    view_of_root h = ap (λ (v : Span). v.offset) (sym (view_is 0 h).1)

    node_shown : (n : ℕ) → n ≤ length tree → NodeShown image r ss es tree n
    unfolding kind_answer count_answer path_answer
    node_shown n m =
        let l : n ≤ r.nodes = omega (arith, nodes_count) in
        let passes = le-ltb r.nodes n l in
        let is = node_recalled n l in
        record {
          name = name_part image r ss es it n l (tree_node tree n).name (name_bytes image r ss es belongs n l ∙ sym (ap (λ (t : Node). t.name) is));
          kind = rw (it, passes) (ap (λ (t : Node). accepted t.kind) (sym is));
          count = rw (it, passes) (ap accepted (sym (count_in_lem belongs n l)) ∙ ap (λ (t : Node). accepted (count_in t.kind t.bytes)) (sym is));
          view = view_part image r ss es it n l (tree_node tree n).bytes (sym (ap (λ (t : Node). t.bytes) is));
          path_length = λ out fits. rw (it, passes, path_is n l, le-ltb (length out) (length (path_in tree n)) fits);
          path = λ out fits. rw (it, passes, path_is n l, le-ltb (length out) (length (path_in tree n)) fits);
        }

    other_absent : (n : ℕ) → length tree < n → Absent image r ss es n
    other_absent n m = number_absent image r ss es it n (omega (arith, nodes_count))

  pub opened_shows : Shows image form (tree_in (edition_in image) image)
  opened_shows = record { reader = r; opens = h; nodes = node_shown; others = other_absent }
