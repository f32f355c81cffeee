-- An accepted put leaves record, tree area and buffer of the tree in which the node has its data: zeros up to the next multiple of 8 and the bytes come after
-- those put before, and no earlier byte changes. Assumes nothing.
use mathlib.Core.Path.{◌≡◌, refl, sym, ap, ◌∙◌}
use mathlib.Core.Bool.{Bool, true, false, not, true≢false}
use mathlib.Core.List.{List, [], ◌∷◌, ◌++◌}
use Prim.Native.Nat.{ℕ, zero, suc, ◌+◌, ◌-◌, ◌%◌, ◌≤◌, ◌<◌}
use native.Mathlib.Nat.{div-add-mod'}
use native.Mathlib.Numerals.{one-add}
use native.Mathlib.Omega.{arith}
use lib.Dec.{eqb}
use lib.ListN.{length, get_or, set, take, drop, replicate, length-set, length-append, length-replicate}
use lib.Seq.{get_or-set_same, get_or-set_other, take-length, take_at, take-append-add, drop_at, drop-append-le, length-take-le}
use borrow.Author.Tests.{eqb-true, eqb-false, ltb-false, not-false}
use Rattle.aff_format.specs.Align.{padding, aligned}
use Rattle.aff_format.specs.Answer.{accepted, Clear}
use Rattle.aff_format.specs.Bytes.{part, spliced}
use Rattle.aff_format.specs.Entry.{slot_bytes}
use Rattle.aff_format.specs.Kind.{kind_of, element_size, entry_size, is_void}
use Rattle.aff_format.specs.Limits.{tree_area}
use Rattle.aff_format.specs.Tree.{Node, Tree, root, tree_node}
use Rattle.aff_format.specs.declared.entry.Entry.{Entry}
use Rattle.aff_format.specs.declared.kind.Kind.{Kind}
use Rattle.std.specs.Prelude.{Option, Some, None}
use Rattle.aff_format.proofs.AlignLaws.{aligned_multiple}
use Rattle.aff_format.proofs.BytesLaws.{length_part, length_spliced, take_spliced, part_spliced, part_part, drop_take}
use Rattle.aff_format.proofs.EntryLaws.{length_slot_bytes}
use Rattle.aff_format.proofs.KindLaws.{count_in_div}
use Rattle.aff_format.proofs.TestLaws.{or_false}
use Rattle.aff_tables.specs.Tables.{node_entry}
use Rattle.aff_areas.specs.Areas.{slot_at, slot_entry, finished_size}
use Rattle.aff_areas.specs.Writer.{writer_edition, data_place, data_size}
use Rattle.aff_areas.proofs.StoreLaws.{apply_spliced}
use Rattle.aff_write.specs.Put.{takes_none, wrong_data, data_kind, put_place, put_stores, data_checks, put_writer, put_entry, put_tree}
use Rattle.aff_run.specs.TreeSizes.{with_data, add_name, names_from, names_of, entries_size, size_of}
use Rattle.aff_run.specs.Run.{put, State, DataLayout, call_layout, step, after_call}
use Rattle.aff_run.proofs.InvariantLaws.{Stored, Each, Invariant, ZerosAfter, offsets_set, each_set, each_kept, is_void_lem, count_same, entry_in_lem, stored_in, size_in, text_after, tree_after_lem}
use Rattle.aff_run.proofs.SlotsLaws.{slots_of, slot_changed}
use Rattle.aff_run.proofs.StepLaws.{accepted_clear}

-- ---- One node changed.

names_set : (names : List (List ℕ)) (tree : Tree) (j : ℕ) (t : Node) → t.name ≡ (get_or tree j root).name → names_from names (set tree j t) ≡ names_from names tree
unfolding names_from
names_set names [] j t e = refl
names_set names (u ∷ tree) zero t e = rw e
names_set names (u ∷ tree) (suc j) t e = names_set (add_name names u.name) tree j t e

entries_set : (tree : Tree) (j : ℕ) (t : Node) → j < length tree → entry_size (get_or tree j root).kind ≡ 13 → entry_size t.kind ≡ 25
    → entries_size (set tree j t) ≡ entries_size tree + 12
unfolding entries_size
entries_set [] j t h e f = absurd (omega arith)
entries_set (u ∷ tree) zero t h e f = omega arith
entries_set (u ∷ tree) (suc j) t h e f = omega (arith, entries_set tree j t (omega arith) e f)

-- A part before a run that is written is as it was.
part_before : (at n p : ℕ) (x l : List ℕ) → at + n ≤ p → p + length x ≤ length l → part at n (spliced p x l) ≡ part at n l
part_before at n p x l h f =
    let z : at + n - at ≡ n = omega arith in
    let d : (m : List ℕ) → drop at (take (at + n) m) ≡ part at n m = λ m. drop_take at (at + n) m ∙ rw z in
    sym (d (spliced p x l)) ∙ ap (drop at) (take_spliced p (at + n) x l h f) ∙ d l

-- The second of two runs written one after the other.
second_spliced : (p n : ℕ) (x y l : List ℕ) → length x ≡ n → p + length (x ++ y) ≤ length l → part (p + n) (length y) (spliced p (x ++ y) l) ≡ y
second_spliced p n x y l e f =
    let m = length-append x y in
    sym (part_part p (length (x ++ y)) n (length y) (spliced p (x ++ y) l) (omega arith))
    ∙ ap (part n (length y)) (part_spliced p (x ++ y) l f)
    ∙ rw (drop_at x y n e, take-length)

-- A part that ends where a run is written, and that run.
part_grown : (p q n : ℕ) (x l : List ℕ) → p ≤ q → n ≡ q - p + length x → q + length x ≤ length l → part p n (spliced q x l) ≡ part p (q - p) l ++ x
unfolding spliced
part_grown p q n x l h e f =
    let r = drop (q + length x) l in
    let t : length (take q l) ≡ q = length-take-le q l (omega arith) in
    let k : n ≡ length (part p (q - p) l) + length x = omega (arith, length_part p (q - p) l (omega arith)) in
    let a : drop p (take q l ++ (x ++ r)) ≡ part p (q - p) l ++ (x ++ r) = drop-append-le p (take q l) (x ++ r) (omega arith) ∙ rw (drop_take p q l) in
    ap (take n) a
    ∙ ap (λ (m : ℕ). take m (part p (q - p) l ++ (x ++ r))) k
    ∙ take-append-add (part p (q - p) l) (x ++ r) (length x)
    ∙ ap (λ (m : List ℕ). part p (q - p) l ++ m) (take_at x r (length x) refl)

-- ---- What an accepted put found.

-- A type that holds data, and a length that is a multiple of its element.
pub data_right : (f : Option Kind) (n : ℕ) → wrong_data f n ≡ false → (is_void (data_kind f) ≡ false) × (n % element_size (data_kind f) ≡ 0)
data_right None n h = absurd (true≢false h)
data_right (Some k) n h =
    let a = or_false (is_void k) (not (eqb (n % element_size k) 0)) h in (a.0, eqb-true (n % element_size k) 0 (not-false (eqb (n % element_size k) 0) a.1))

-- The tree in which a Void node has data.
module _ (tree : Tree) (node : ℕ) (kind : Kind) (bytes : List ℕ)
    (lo : 0 < node) (there : node ≤ length tree) (void : is_void (tree_node tree node).kind ≡ true) (right : is_void kind ≡ false) where
  abbrev with_node : Node
  with_node = record { parent = (tree_node tree node).parent; name = (tree_node tree node).name; kind = kind; bytes = bytes }

  old_at : (node - 1 < length tree) × (get_or tree (node - 1) root ≡ tree_node tree node)
  old_at = let e : suc (node - 1) ≡ node = omega arith in (omega arith, ap (λ (k : ℕ). tree_node tree k) e)

  names_after : names_of (with_data tree node kind bytes) ≡ names_of tree
  names_after = names_set [] tree (node - 1) with_node (ap (λ (t : Node). t.name) (sym old_at.1))

  entries_after_lem : entries_size (with_data tree node kind bytes) ≡ entries_size tree + 12
  entries_after_lem =
      entries_set tree (node - 1) with_node old_at.0 (ap (λ (t : Node). entry_size t.kind) old_at.1 ∙ ap entry_size (is_void_lem (tree_node tree node).kind void))
      (rw right)

  pub size_after : (end : ℕ) → size_of (aligned end + length bytes) (with_data tree node kind bytes) ≡ size_of end tree + 12 + padding end + length bytes
  unfolding size_of
  size_after end = rw (entries_after_lem, names_after) (omega arith)

module _ (s : State) (tree : Tree) {layout : DataLayout} (g : Invariant s tree layout) (node type : ℕ) (bytes : List ℕ) (allowance : ℕ) {n : ℕ}
    (h : (step s (put node type bytes allowance)).answer ≡ accepted n) where
  abbrev kind : Kind
  kind = data_kind (kind_of type)

  clear : Clear (data_checks s.writer s.tree node type bytes allowance)
  clear = (accepted_clear s (put node type bytes allowance) h).0

  there : node ≤ length tree
  there = omega (arith, ltb-false s.writer.nodes node clear.0, g.nodes_count)

  takes : (0 < node) × (is_void (slot_entry s.tree node).kind ≡ true)
  unfolding takes_none
  takes =
      let a = or_false (eqb node 0) (not (is_void (slot_entry s.tree node).kind)) clear.1.0 in
      let f = eqb-false node 0 a.0 in
      (omega (arith, f), not-false (is_void (slot_entry s.tree node).kind) a.1)

  -- The node as it was: Void.
  abbrev old : Node
  old = tree_node tree node

  old_stored : Stored (writer_edition s.writer) (names_of tree) s.buffer s.writer.end node (node_entry g.entries node) old
  old_stored = stored_in s tree g node takes.0 there

  old_void : is_void old.kind ≡ true
  old_void = ap is_void (sym old_stored.kind_is) ∙ ap (λ (e : Entry). is_void e.kind) (sym (entry_in_lem s tree g node there)) ∙ takes.1

  right : (is_void kind ≡ false) × (length bytes % element_size kind ≡ 0)
  right = data_right (kind_of type) (length bytes) clear.1.1.0

  size_now : size_of s.writer.end tree + 12 + padding s.writer.end + length bytes ≤ s.writer.length
  size_now =
      let l = ltb-false s.writer.length (finished_size s.writer s.tree + 12 + padding s.writer.end + length bytes) clear.1.1.1.0 in
      rw (size_in s tree g) at l

  -- ---- What it leaves.

  abbrev new : Node
  new = record { parent = old.parent; name = old.name; kind = kind; bytes = bytes }

  abbrev entry : Entry
  entry = put_entry s.writer s.tree node kind bytes

  abbrev after : Tree
  after = with_data tree node kind bytes

  abbrev zeros : List ℕ
  zeros = replicate (padding s.writer.end) 0

  length_zeros : length zeros ≡ padding s.writer.end
  length_zeros = length-replicate (padding s.writer.end) 0

  abbrev left : State
  left =
      record {
        writer = put_writer s.writer bytes;
        text = s.text;
        tree = put_tree s.writer s.tree node type bytes;
        buffer = spliced s.writer.end (zeros ++ bytes) s.buffer;
      }

  fits_buffer : s.writer.end + length (zeros ++ bytes) ≤ length s.buffer
  unfolding size_of
  fits_buffer = omega (arith, size_now, g.buffer_length, length-append zeros bytes, length_zeros)

  index : (node - 1 < length tree) × (suc (node - 1) ≡ node)
  index = (omega (arith, takes.0, there), omega (arith, takes.0))

  old_is : get_or tree (node - 1) root ≡ old
  old_is = ap (λ (k : ℕ). tree_node tree k) index.1

  new_stored : Stored (writer_edition s.writer) (names_of tree) left.buffer (put_place s.writer + length bytes) node entry new
  new_stored =
      let e = entry_in_lem s tree g node there in
      let o = old_stored in
      record {
        parent_is = ap (λ (x : Entry). x.parent) e ∙ o.parent_is;
        parent_lower = o.parent_lower;
        string_exists = rw (ap (λ (x : Entry). x.string) e) o.string_exists;
        name_is = rw (ap (λ (x : Entry). x.string) e) o.name_is;
        subkey = o.subkey;
        kind_is = refl;
        count_is = refl;
        whole =
            let d = div-add-mod' (length bytes) (element_size kind) in
            rw (count_in_div kind bytes right.0) (omega (arith, right.1));
        short = omega arith;
        void_offset = λ v. absurd (true≢false (sym v ∙ right.0));
        offset_aligned = aligned_multiple s.writer.end;
        begins = λ v. omega (arith, g.after_header);
        ends = λ v. omega arith;
        there = λ v. second_spliced s.writer.end (padding s.writer.end) zeros bytes s.buffer length_zeros fits_buffer;
      }

  each_left : Each (writer_edition s.writer) (names_of tree) left.buffer (put_place s.writer + length bytes) 1 g.entries tree
  each_left =
      each_kept (writer_edition s.writer) (names_of tree) (names_of tree) s.buffer left.buffer s.writer.end (put_place s.writer + length bytes) (omega arith) (λ k l. refl) (omega arith)
      (λ at n l. part_before at n s.writer.end (zeros ++ bytes) s.buffer l fits_buffer) 1 g.entries tree g.each

  names_left : names_of after ≡ names_of tree
  names_left = names_after tree node kind bytes takes.0 there old_void right.0

  -- Parents and names are as they were.
  site_left : (k : ℕ) → ((tree_node after k).parent ≡ (tree_node tree k).parent) × ((tree_node after k).name ≡ (tree_node tree k).name)
  site_left zero = (refl, refl)
  site_left (suc k) = go (eqb k (node - 1)) refl
    where
      go : (b : Bool) → eqb k (node - 1) ≡ b
          → ((get_or after k root).parent ≡ (get_or tree k root).parent) × ((get_or after k root).name ≡ (get_or tree k root).name)
      go true e =
          let q = eqb-true k (node - 1) e in
          rw (q, get_or-set_same tree (node - 1) new root index.0, old_is) (refl, refl)
      go false e = rw (get_or-set_other tree (node - 1) k new root (eqb-false k (node - 1) e)) (refl, refl)

  tree_left : left.tree ≡ slots_of (set g.entries (node - 1) entry) ++ g.tree_rest
  unfolding put_tree
  tree_left =
      ap (spliced (slot_at node) (slot_bytes entry)) g.tree_is
      ∙ (slot_changed g.entries entry g.tree_rest (node - 1) (omega (arith, index.0, count_same s tree g)))

  tree_long : length left.tree ≡ tree_area
  unfolding put_tree
  tree_long =
      length_spliced (slot_at node) (slot_bytes entry) s.tree
      (omega (arith, length_slot_bytes entry, g.tree_area_is, there, g.nodes_few, takes.0)) ∙ g.tree_area_is

  -- The data section has zeros and bytes more.
  stored_left : part (data_place s.writer) (put_place s.writer + length bytes - data_place s.writer) left.buffer
      ≡ part (data_place s.writer) (data_size s.writer) s.buffer ++ (zeros ++ bytes)
  stored_left =
      part_grown (data_place s.writer) s.writer.end (put_place s.writer + length bytes - data_place s.writer) (zeros ++ bytes) s.buffer g.after_header
      (omega (arith, g.after_header, length-append zeros bytes, length_zeros)) fits_buffer

  put_left : Invariant left after (call_layout layout (put node type bytes allowance) true)
  put_left =
      record {
        entries = set g.entries (node - 1) entry;
        text_rest = g.text_rest;
        tree_rest = g.tree_rest;
        text_is = rw names_left g.text_is;
        tree_is = tree_left;
        text_area_is = g.text_area_is;
        tree_area_is = tree_long;
        edition_written = g.edition_written;
        buffer_length = length_spliced s.writer.end (zeros ++ bytes) s.buffer fits_buffer ∙ g.buffer_length;
        buffer_allowed = g.buffer_allowed;
        form_length = g.form_length;
        strings_count = rw names_left g.strings_count;
        strings_few = rw names_left g.strings_few;
        text_count = rw names_left g.text_count;
        nodes_count = g.nodes_count ∙ sym (length-set tree (node - 1) new);
        nodes_few = omega (arith, g.nodes_few, length-set tree (node - 1) new);
        after_header = omega (arith, g.after_header);
        live = g.live;
        fits = rw (size_after tree node kind bytes takes.0 there old_void right.0 s.writer.end) size_now;
        subkeys = rw names_left g.subkeys;
        distinct = rw names_left g.distinct;
        each =
            rw names_left
            (each_set (writer_edition s.writer) (names_of tree) left.buffer (put_place s.writer + length bytes) 1 g.entries tree (node - 1) entry new each_left index.0
            (rw (one-add, index.1) new_stored));
        end_is = ap (λ (end : ℕ). aligned end + length bytes) g.end_is;
        offsets_are = rw (← g.end_is, ← g.offsets_are) (offsets_set g.entries (node - 1) entry);
        stored_are = rw (← g.end_is, ← g.stored_are) stored_left;
        siblings = λ j k lo l hi p q.
            let a = site_left j in
            let b = site_left k in
            g.siblings j k lo l (omega (arith, length-set tree (node - 1) new)) (sym a.0 ∙ p ∙ b.0) (sym a.1 ∙ q ∙ b.1);
      }

  -- The stores are all made, and are zeros and bytes after those put before.
  left_is : after_call s (put node type bytes allowance) ≡ left
  unfolding step
  left_is =
      let all : length (put_stores s.writer bytes) ≡ n = (accepted_clear s (put node type bytes allowance) h).1 in
      rw (h, ← all, take-length, apply_spliced s.writer.end (zeros ++ bytes) s.buffer fits_buffer)

  pub put_invariant : Invariant (after_call s (put node type bytes allowance)) after (call_layout layout (put node type bytes allowance) true)
  put_invariant = rw left_is put_left

  -- Zeros after stay zeros.
  left_after : ZerosAfter s tree → ZerosAfter left after
  unfolding put_left
  left_after b =
      record {
        text_blank = rw (text_after left after put_left) (rw (text_after s tree g) at b.text_blank);
        tree_blank = rw (tree_after_lem left after put_left) (rw (tree_after_lem s tree g) at b.tree_blank);
      }

  pub put_after_lem : ZerosAfter s tree → ZerosAfter (after_call s (put node type bytes allowance)) after
  put_after_lem b = rw left_is (left_after b)
