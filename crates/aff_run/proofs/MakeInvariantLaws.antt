-- An accepted make leaves record and areas of the tree with the child. From its checks: the parent exists, the name is a subkey that no child
-- of it has, and there is room. Assumes nothing.
use mathlib.Core.Path.{◌≡◌, refl, sym, ap, ◌∙◌}
use mathlib.Core.Bool.{Bool, true, false, cond, true≢false}
use mathlib.Core.List.{List, [], ◌∷◌, ◌++◌}
use mathlib.Core.Logic.{⊎_elim}
use Prim.Native.Nat.{ℕ, zero, suc, ◌+◌, ◌-◌, ◌*◌, ◌≤◌, ◌<◌}
use native.Mathlib.Nat.{eq-or-lt_of_le}
use native.Mathlib.Numerals.{one-add}
use native.Mathlib.Omega.{arith}
use lib.ListN.{length, drop, length-append, get_or-append}
use lib.Seq.{get_or-append_seam, take-nil}
use borrow.Author.Tests.{eq-eqb, ltb-false, not-false}
use Rattle.aff_format.specs.Answer.{accepted, Clear}
use Rattle.aff_format.specs.Bytes.{spliced}
use Rattle.aff_format.specs.Entry.{slot_bytes}
use Rattle.aff_format.specs.Kind.{entry_size}
use Rattle.aff_format.specs.Limits.{string_limit, node_limit, text_area, tree_area}
use Rattle.aff_format.specs.Lowest.{lowest_from}
use Rattle.aff_format.specs.Strings.{is_in, text_of}
use Rattle.aff_format.specs.Subkey.{is_subkey}
use Rattle.aff_format.specs.Tree.{Node, Tree, root, tree_node}
use Rattle.aff_format.specs.declared.entry.Entry.{Entry}
use Rattle.aff_format.specs.declared.kind.Kind.TheVariants.{Void}
use Rattle.aff_format.proofs.BytesLaws.{length_spliced}
use Rattle.aff_format.proofs.EntryLaws.{length_slot_bytes}
use Rattle.aff_format.proofs.LowestLaws.{none_holds, none_at}
use Rattle.aff_format.proofs.SameLaws.{same_refl}
use Rattle.aff_format.proofs.TestLaws.{or_false}
use Rattle.aff_areas.specs.Areas.{names_in, slot_at, slot_entry, finished_size}
use Rattle.aff_areas.specs.Stores.{apply_stores}
use Rattle.aff_areas.specs.Writer.{writer_edition}
use Rattle.aff_make.specs.Make.{added_strings, added_text, too_many, is_child, child_exists, child_checks, made_text, made_entry, made_tree}
use Rattle.aff_run.specs.TreeSizes.{with_child, add_name, names_of, entries_size, size_of}
use Rattle.aff_run.specs.Run.{make, State, DataLayout, call_layout, completed, step, after_call}
use Rattle.aff_run.proofs.InvariantLaws.{Stored, Each, Invariant, ZerosAfter, offsets_snoc, blank_drop, each_snoc, each_kept, names_in_lem, count_same, entry_in_lem, stored_in, name_in, size_in, text_after, tree_after_lem}
use Rattle.aff_run.proofs.NamesLaws.{index_in_lem, index_name, length_add, text_add, add_longer, add_old, text_stored, subkeys_add, distinct_add, names_snoc}
use Rattle.aff_run.proofs.SlotsLaws.{slots_of, slot_added}
use Rattle.aff_run.proofs.StepLaws.{accepted_clear}

-- ---- One node more.

abbrev pub child : ℕ → List ℕ → Node
child parent name = record { parent = parent; name = name; kind = Void; bytes = [] }

entries_snoc : (tree : Tree) (t : Node) → entries_size (tree ++ (t ∷ [])) ≡ entries_size tree + entry_size t.kind
unfolding entries_size
entries_snoc [] t = omega arith
entries_snoc (s ∷ tree) t = omega (arith, entries_snoc tree t)

pub size_child : (end : ℕ) (tree : Tree) (parent : ℕ) (name : List ℕ) → size_of end (with_child tree parent name) ≡ size_of end tree + 13 + cond (is_in name (names_of tree)) 0 (length name + 1)
unfolding size_of
size_child end tree parent name =
    let t = child parent name in
    rw (entries_snoc tree t, names_snoc tree t, text_add (names_of tree) name) (omega arith)

pub length_snoc : (tree : Tree) (t : Node) → length (tree ++ (t ∷ [])) ≡ length tree + 1
length_snoc tree t = length-append tree (t ∷ [])

pub node_old : (tree : Tree) (t : Node) (k : ℕ) → k ≤ length tree → tree_node (tree ++ (t ∷ [])) k ≡ tree_node tree k
node_old tree t zero h = refl
node_old tree t (suc k) h = get_or-append tree (t ∷ []) root k (omega arith)

pub node_new : (tree : Tree) (t : Node) → tree_node (tree ++ (t ∷ [])) (suc (length tree)) ≡ t
node_new tree t = get_or-append_seam tree t [] root

-- The counts with one name more.
module _ (s : State) (tree : Tree) {layout : DataLayout} (g : Invariant s tree layout) (name : List ℕ) where
  pub strings_now : s.writer.strings + added_strings s.writer s.text name ≡ length (add_name (names_of tree) name)
  strings_now = rw (names_in_lem s tree g, g.strings_count) (sym (length_add (names_of tree) name))

  pub text_now : s.writer.text + added_text s.writer s.text name ≡ length (text_of (add_name (names_of tree) name))
  text_now = rw (names_in_lem s tree g, g.text_count) (sym (text_add (names_of tree) name))

-- ---- What an accepted make found.

module _ (s : State) (tree : Tree) {layout : DataLayout} (g : Invariant s tree layout) (parent : ℕ) (name : List ℕ) {n : ℕ} (h : (step s (make parent name)).answer ≡ accepted n) where
  abbrev names : List (List ℕ)
  names = names_of tree

  clear : Clear (child_checks s.writer s.text s.tree parent name)
  clear = (accepted_clear s (make parent name) h).0

  parent_there : parent ≤ length tree
  parent_there = omega (arith, ltb-false s.writer.nodes parent clear.0, g.nodes_count)

  is_subkey_lem : is_subkey (writer_edition s.writer) name ≡ true
  is_subkey_lem = not-false (is_subkey (writer_edition s.writer) name) clear.1.0

  -- No child of the parent has the name.
  free : (j : ℕ) → 0 < j → j ≤ length tree → (tree_node tree j).parent ≡ parent → (tree_node tree j).name ≡ name → ⊥
  unfolding child_exists
  free j lo hi p q =
      let none = none_at (lowest_from (is_child s.writer s.text s.tree parent name) s.writer.nodes 1) clear.1.1.0 in
      let f : is_child s.writer s.text s.tree parent name j ≡ false =
      none_holds (is_child s.writer s.text s.tree parent name) s.writer.nodes 1 none j (omega arith) (omega (arith, g.nodes_count)) in
      let e : (slot_entry s.tree j).parent ≡ parent = ap (λ (x : Entry). x.parent) (entry_in_lem s tree g j hi) ∙ (stored_in s tree g j lo hi).parent_is ∙ p in
      let t : is_child s.writer s.text s.tree parent name j ≡ true =
      rw (eq-eqb (slot_entry s.tree j).parent parent e, name_in s tree g j lo hi, q) (same_refl name) in
      true≢false (sym t ∙ f)

  limits : (length tree + 1 ≤ node_limit) × (length (add_name names name) ≤ string_limit) × (length (text_of (add_name names name)) ≤ text_area)
  unfolding too_many
  limits =
      let a = or_false _ _ clear.1.1.1.0 in
      let b = or_false _ _ a.1 in
      let m = ltb-false node_limit (s.writer.nodes + 1) a.0 in
      let k = ltb-false string_limit (s.writer.strings + added_strings s.writer s.text name) b.0 in
      let l = ltb-false text_area (s.writer.text + added_text s.writer s.text name) b.1 in
      (omega (arith, g.nodes_count), rw (← strings_now s tree g name) k, rw (← text_now s tree g name) l)

  size_now : size_of s.writer.end (with_child tree parent name) ≤ s.writer.length
  size_now =
      let l = ltb-false s.writer.length (finished_size s.writer s.tree + entry_size Void + added_text s.writer s.text name) clear.1.1.1.1.0 in
      rw (size_child s.writer.end tree parent name) (rw (size_in s tree g, names_in_lem s tree g) at l)

  -- ---- What it leaves.

  abbrev left : State
  left = completed s (make parent name)

  abbrev entry : Entry
  entry = made_entry s.writer s.text parent name

  new_stored : Stored (writer_edition s.writer) (add_name names name) s.buffer s.writer.end (suc (length tree)) entry (child parent name)
  new_stored =
      record {
        parent_is = refl;
        parent_lower = omega (arith, parent_there);
        string_exists = rw (names_in_lem s tree g) (index_in_lem names name);
        name_is = rw (names_in_lem s tree g) (index_name names name);
        subkey = is_subkey_lem;
        kind_is = refl;
        count_is = refl;
        whole = refl;
        short = omega arith;
        void_offset = λ v. refl;
        offset_aligned = refl;
        begins = λ v. absurd (true≢false v);
        ends = λ v. absurd (true≢false v);
        there = λ v. absurd (true≢false v);
      }

  each_left : Each (writer_edition s.writer) (add_name names name) s.buffer s.writer.end 1 g.entries tree
  each_left =
      each_kept (writer_edition s.writer) names (add_name names name) s.buffer s.buffer s.writer.end s.writer.end (add_longer names name) (add_old names name)
      (omega arith) (λ at n l. refl) 1 g.entries tree g.each

  text_left : (k : ℕ) × (left.text ≡ text_of (add_name names name) ++ drop k g.text_rest)
  unfolding made_text
  text_left = rw (names_in_lem s tree g, g.text_count, g.text_is) (text_stored names name g.text_rest)

  tree_left : left.tree ≡ slots_of (g.entries ++ (entry ∷ [])) ++ drop 25 g.tree_rest
  unfolding made_tree
  tree_left =
      let n : 25 * (s.writer.nodes + 1 - 1) ≡ 25 * length g.entries = omega (arith, g.nodes_count, count_same s tree g) in
      rw (n, g.tree_is) (slot_added g.entries entry g.tree_rest)

  text_long : length left.text ≡ text_area
  unfolding made_text
  text_long = go (is_in name (names_in s.writer s.text)) (rw (← text_now s tree g name) at limits.2)
    where
      go : (b : Bool) → s.writer.text + cond b 0 (length name + 1) ≤ text_area
          → length (cond b s.text (spliced s.writer.text (name ++ (0 ∷ [])) s.text)) ≡ text_area
      go true l = g.text_area_is
      go false l =
          length_spliced s.writer.text (name ++ (0 ∷ [])) s.text (omega (arith, length-append name (0 ∷ []), g.text_area_is)) ∙ g.text_area_is

  tree_long : length left.tree ≡ tree_area
  unfolding made_tree
  tree_long =
      length_spliced (slot_at (s.writer.nodes + 1)) (slot_bytes entry) s.tree
      (omega (arith, length_slot_bytes entry, g.tree_area_is, limits.0, g.nodes_count)) ∙ g.tree_area_is

  siblings_left : (j k : ℕ) → 0 < j → j < k → k ≤ length (with_child tree parent name)
      → (tree_node (with_child tree parent name) j).parent ≡ (tree_node (with_child tree parent name) k).parent
      → (tree_node (with_child tree parent name) j).name ≡ (tree_node (with_child tree parent name) k).name → ⊥
  siblings_left j k lo l hi p q =
      let t = child parent name in
      let at_most : k ≤ suc (length tree) = omega (arith, length_snoc tree t) in
      ⊎_elim
      (λ (e : k ≡ suc (length tree)).
      let a = node_old tree t j (omega arith) in
      let b : tree_node (with_child tree parent name) k ≡ t = rw e (node_new tree t) in
      free j lo (omega arith)
      (sym (ap (λ (x : Node). x.parent) a) ∙ p ∙ ap (λ (x : Node). x.parent) b)
      (sym (ap (λ (x : Node). x.name) a) ∙ q ∙ ap (λ (x : Node). x.name) b))
      (λ (m : k < suc (length tree)).
      let a = node_old tree t j (omega arith) in
      let b = node_old tree t k (omega arith) in
      g.siblings j k lo l (omega arith)
      (sym (ap (λ (x : Node). x.parent) a) ∙ p ∙ ap (λ (x : Node). x.parent) b)
      (sym (ap (λ (x : Node). x.name) a) ∙ q ∙ ap (λ (x : Node). x.name) b))
      (eq-or-lt_of_le at_most)

  made_left : Invariant left (with_child tree parent name) (call_layout layout (make parent name) true)
  unfolding made_text made_tree
  made_left =
      let t = child parent name in
      let ns = names_snoc tree t in
      record {
        entries = g.entries ++ (entry ∷ []);
        text_rest = drop text_left.0 g.text_rest;
        tree_rest = drop 25 g.tree_rest;
        text_is = rw ns text_left.1;
        tree_is = tree_left;
        text_area_is = text_long;
        tree_area_is = tree_long;
        edition_written = g.edition_written;
        buffer_length = g.buffer_length;
        buffer_allowed = g.buffer_allowed;
        form_length = g.form_length;
        strings_count = rw ns (strings_now s tree g name);
        strings_few = rw ns limits.1;
        text_count = rw ns (text_now s tree g name);
        nodes_count = omega (arith, g.nodes_count, length_snoc tree t);
        nodes_few = omega (arith, limits.0, length_snoc tree t);
        after_header = g.after_header;
        live = g.live;
        fits = size_now;
        subkeys = rw ns (subkeys_add names name (writer_edition s.writer) g.subkeys is_subkey_lem);
        distinct = rw ns (distinct_add names name g.distinct);
        each = rw ns (each_snoc (writer_edition s.writer) (add_name names name) s.buffer s.writer.end 1 g.entries tree entry t each_left (rw one-add new_stored));
        end_is = g.end_is;
        stored_are = g.stored_are;
        offsets_are = offsets_snoc g.entries entry ∙ ap (λ (l : List ℕ). l ++ (0 ∷ [])) g.offsets_are;
        siblings = siblings_left;
      }

  left_is : after_call s (make parent name) ≡ left
  unfolding step apply_stores
  left_is = rw (h, take-nil n)

  pub made_invariant : Invariant (after_call s (make parent name)) (with_child tree parent name) (call_layout layout (make parent name) true)
  made_invariant = rw left_is made_left

  -- Zeros after stay zeros.
  left_after : ZerosAfter s tree → ZerosAfter left (with_child tree parent name)
  unfolding made_left text_left
  left_after b =
      record {
        text_blank = rw (text_after left (with_child tree parent name) made_left) (blank_drop text_left.0 g.text_rest (rw (text_after s tree g) at b.text_blank));
        tree_blank = rw (tree_after_lem left (with_child tree parent name) made_left) (blank_drop 25 g.tree_rest (rw (tree_after_lem s tree g) at b.tree_blank));
      }

  pub made_after : ZerosAfter s tree → ZerosAfter (after_call s (make parent name)) (with_child tree parent name)
  made_after b = rw left_is (left_after b)
