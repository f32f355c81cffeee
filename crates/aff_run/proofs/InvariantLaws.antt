-- What holds between the calls of a run while the writer is live: the record and the two areas are those of the tree described so far, and
-- the data that the nodes have are in the buffer. From it what the writer reads in its areas, and that the record belongs. Assumes nothing.
use mathlib.Core.Path.{◌≡◌, refl, sym, ap, ◌∙◌}
use mathlib.Core.Bool.{Bool, true, false, cond}
use mathlib.Core.List.{List, [], ◌∷◌, ◌++◌, map}
use Prim.Native.Nat.{ℕ, zero, suc, ◌+◌, ◌-◌, ◌*◌, ◌%◌, ◌^◌, ◌≤◌, ◌<◌}
use native.Mathlib.Nat.{zero-add}
use native.Mathlib.Numerals.{one-add}
use native.Mathlib.Omega.{arith}
use lib.ListN.{length, get_or, set, take, drop, replicate, length-append, get_or-map}
use lib.Seq.{take_at, drop_at, take-suc, take-length}
use Rattle.aff_format.specs.Bytes.{part, EachWithout}
use Rattle.aff_format.specs.Edition.{header_size, NamesWritten}
use Rattle.aff_format.specs.Element.{count_in}
use Rattle.aff_format.specs.Entry.{entry_bytes, Storable, no_entry}
use Rattle.aff_format.specs.Kind.{element_size, is_void}
use Rattle.aff_format.specs.Limits.{image_limit, string_limit, node_limit, text_area, tree_area}
use Rattle.aff_format.specs.Path.{Subkeys}
use Rattle.aff_format.specs.Strings.{strings_of, text_of}
use Rattle.aff_format.specs.Subkey.{is_subkey}
use Rattle.aff_format.specs.Tree.{Node, Tree, root, tree_node}
use Rattle.aff_format.specs.declared.edition.Edition.{Edition}
use Rattle.aff_format.specs.declared.entry.Entry.{Entry}
use Rattle.std.specs.Prelude.{Some}
use Rattle.aff_format.specs.declared.kind.Kind.{Kind}
use Rattle.aff_format.specs.declared.kind.Kind.TheVariants.{Void, Char, Int, Double, Complex}
use Rattle.aff_format.proofs.ClimbLaws.{absurd_bool}
use Rattle.aff_format.proofs.EntryLaws.{length_entry_bytes}
use Rattle.aff_format.proofs.KindLaws.{count_in_few, count_in_void}
use Rattle.aff_format.proofs.StringsLaws.{strings_of_text_of, ends_in_zero_text_of}
use Rattle.aff_format.proofs.PathLaws.{subkeys_no_zero}
use Rattle.aff_tables.specs.Tables.{node_entry, tree_bytes}
use Rattle.aff_areas.specs.Areas.{used_text, names_in, found_slot, slot_entry, name_of, entry_sizes, entries_out, data_nodes, finished_size}
use Rattle.aff_areas.specs.Belongs.{WriterBelongs}
use Rattle.aff_areas.specs.Writer.{writer_edition, data_place, data_size}
use Rattle.aff_run.specs.TreeSizes.{names_of, entries_size, non_void_count, size_of}
use Rattle.aff_run.specs.Run.{State, DataLayout}
use Rattle.aff_run.proofs.SlotsLaws.{slots_of, Storables, length_slots_of, slot_found, slot_entry_lem, entries_out_lem, sizes_are}

-- ---- A node and its entry.

-- Node i, t, is stored as entry e: over the strings so far, in a buffer where the data end at `end`.
pub record Stored (ed : Edition) (names : List (List ℕ)) (buffer : List ℕ) (end i : ℕ) (e : Entry) (t : Node) : Type 0 where
  pub parent_is : e.parent ≡ t.parent
  pub parent_lower : t.parent < i
  pub string_exists : e.string < length names
  pub name_is : get_or names e.string [] ≡ t.name
  pub subkey : is_subkey ed t.name ≡ true
  pub kind_is : e.kind ≡ t.kind
  pub count_is : e.count ≡ count_in t.kind t.bytes
  pub whole : e.count * element_size t.kind ≡ length t.bytes
  pub short : length t.bytes ≤ end
  pub void_offset : is_void t.kind ≡ true → e.offset ≡ 0
  pub offset_aligned : e.offset % 8 ≡ 0
  pub begins : is_void t.kind ≡ false → header_size ed ≤ e.offset
  pub ends : is_void t.kind ≡ false → e.offset + length t.bytes ≤ end
  pub there : is_void t.kind ≡ false → part e.offset (length t.bytes) buffer ≡ t.bytes

-- Each node from number i on and its entry.
abbrev pub Each : Edition → List (List ℕ) → List ℕ → ℕ → ℕ → List Entry → Tree → Type 0
Each ed names buffer end i [] [] = Unit {0}
Each ed names buffer end i [] (t ∷ ts) = ⊥
Each ed names buffer end i (e ∷ es) [] = ⊥
Each ed names buffer end i (e ∷ es) (t ∷ ts) = Stored ed names buffer end i e t × Each ed names buffer end (suc i) es ts

-- ---- What holds between the calls.

-- Where the data of an entry begin.
abbrev pub offset_of : Entry → ℕ
offset_of e = e.offset

-- With the tree described so far, and its data so laid out.
pub record Invariant (s : State) (tree : Tree) (layout : DataLayout) : Type 0 where
  -- The two areas: the strings, the slots, and what comes after them.
  pub entries : List Entry
  pub text_rest : List ℕ
  pub tree_rest : List ℕ
  pub text_is : s.text ≡ text_of (names_of tree) ++ text_rest
  pub tree_is : s.tree ≡ slots_of entries ++ tree_rest
  pub text_area_is : length s.text ≡ text_area
  pub tree_area_is : length s.tree ≡ tree_area
  -- The record. Its edition is a written one.
  pub edition_written : NamesWritten s.writer.edition
  pub buffer_length : length s.buffer ≡ s.writer.length
  pub buffer_allowed : s.writer.length ≤ image_limit
  pub form_length : length s.writer.form ≡ 12
  pub strings_count : s.writer.strings ≡ length (names_of tree)
  pub strings_few : length (names_of tree) ≤ string_limit
  pub text_count : s.writer.text ≡ length (text_of (names_of tree))
  pub nodes_count : s.writer.nodes ≡ length tree
  pub nodes_few : length tree ≤ node_limit
  pub after_header : data_place s.writer ≤ s.writer.end
  pub live : s.writer.live ≡ true
  pub fits : size_of s.writer.end tree ≤ s.writer.length
  -- The strings are subkeys and differ; each node is stored as its entry; siblings have different names.
  pub subkeys : Subkeys (writer_edition s.writer) (names_of tree)
  pub distinct : (i k : ℕ) → i < k → k < length (names_of tree) → get_or (names_of tree) i [] ≡ get_or (names_of tree) k [] → ⊥
  pub each : Each (writer_edition s.writer) (names_of tree) s.buffer s.writer.end 1 entries tree
  -- The data: where they end, where those of each node begin, and their bytes.
  pub end_is : s.writer.end ≡ layout.end
  pub offsets_are : map offset_of entries ≡ layout.offsets
  pub stored_are : part (data_place s.writer) (data_size s.writer) s.buffer ≡ layout.stored
  pub siblings : (j k : ℕ) → 0 < j → j < k → k ≤ length tree → (tree_node tree j).parent ≡ (tree_node tree k).parent → (tree_node tree j).name ≡ (tree_node tree k).name → ⊥

-- The places of one entry more, and of one entry changed.
pub offsets_snoc : (es : List Entry) (e : Entry) → map offset_of (es ++ (e ∷ [])) ≡ map offset_of es ++ (e.offset ∷ [])
offsets_snoc [] e = refl
offsets_snoc (d ∷ es) e = ap (λ (l : List ℕ). d.offset ∷ l) (offsets_snoc es e)

pub offsets_set : (es : List Entry) (j : ℕ) (e : Entry) → map offset_of (set es j e) ≡ set (map offset_of es) j e.offset
offsets_set [] j e = refl
offsets_set (d ∷ es) zero e = refl
offsets_set (d ∷ es) (suc j) e = ap (λ (l : List ℕ). d.offset ∷ l) (offsets_set es j e)

pub offset_at : (es : List Entry) (n : ℕ) → 0 < n → (node_entry es n).offset ≡ get_or (map offset_of es) (n - 1) 0
offset_at es zero lo = absurd (omega arith)
offset_at es (suc k) lo = let z : suc k - 1 ≡ k = omega arith in rw z (sym (get_or-map offset_of es k no_entry))

-- All zero.
abbrev pub Blank : List ℕ → Type 0
Blank l = l ≡ replicate (length l) 0

-- Zeros after the strings and after the slots: what an accepted begin, which clears both areas, leaves besides.
pub record ZerosAfter (s : State) (tree : Tree) : Type 0 where
  pub text_blank : Blank (drop (length (text_of (names_of tree))) s.text)
  pub tree_blank : Blank (drop (25 * length tree) s.tree)

pub blank_drop : (k : ℕ) (l : List ℕ) → Blank l → Blank (drop k l)
blank_drop zero l h = h
blank_drop (suc k) [] h = refl
blank_drop (suc k) (x ∷ l) h = blank_drop k l (ap (drop 1) h)

-- ---- Each node, by its number.

module _ (ed : Edition) (names : List (List ℕ)) (buffer : List ℕ) (end : ℕ) where
  each_length : (i : ℕ) (es : List Entry) (ts : Tree) → Each ed names buffer end i es ts → length es ≡ length ts
  each_length i [] [] h = refl
  each_length i [] (t ∷ ts) h = absurd h
  each_length i (e ∷ es) [] h = absurd h
  each_length i (e ∷ es) (t ∷ ts) h = ap suc (each_length (suc i) es ts h.1)

  each_get : (i : ℕ) (es : List Entry) (ts : Tree) (d : Entry) (r : Node) → Each ed names buffer end i es ts → (k : ℕ) → k < length ts
      → Stored ed names buffer end (i + k) (get_or es k d) (get_or ts k r)
  each_get i [] [] d r h k l = absurd (omega arith)
  each_get i [] (t ∷ ts) d r h k l = absurd h
  each_get i (e ∷ es) [] d r h k l = absurd h
  each_get i (e ∷ es) (t ∷ ts) d r h zero l = let n : i + 0 ≡ i = omega arith in rw n h.0
  each_get i (e ∷ es) (t ∷ ts) d r h (suc k) l =
      let n : i + suc k ≡ suc i + k = omega arith in rw n (each_get (suc i) es ts d r h.1 k (omega arith))

  pub each_at : (es : List Entry) (ts : Tree) → Each ed names buffer end 1 es ts → (k : ℕ) → 0 < k → k ≤ length ts
      → Stored ed names buffer end k (node_entry es k) (tree_node ts k)
  each_at es ts h zero lo hi = absurd (omega arith)
  each_at es ts h (suc k) lo hi = rw (← one-add k) (each_get 1 es ts no_entry root h k (omega arith))

  -- The numbers of an entry fit its fields.
  module _ (names-few : length names ≤ string_limit) (small : end ≤ image_limit) where
    stored_storable : (i : ℕ) (e : Entry) (t : Node) → Stored ed names buffer end i e t → i ≤ node_limit → Storable e
    stored_storable i e t s few =
        record {
          parent_fits = omega (arith, s.parent_is, s.parent_lower);
          string_fits = omega (arith, s.string_exists);
          count_fits = omega (arith, s.count_is, count_in_few t.kind t.bytes, s.short);
          offset_fits = offset (is_void t.kind) refl;
          void_count = λ v. s.count_is ∙ count_in_void t.kind t.bytes (ap is_void (sym s.kind_is) ∙ v);
          void_offset = λ v. s.void_offset (ap is_void (sym s.kind_is) ∙ v);
        }
      where
        offset : (b : Bool) → is_void t.kind ≡ b → e.offset < 256 ^ 8
        offset true v = omega (arith, s.void_offset v)
        offset false v = omega (arith, s.ends v)

    each_storable : (i : ℕ) (es : List Entry) (ts : Tree) → Each ed names buffer end i es ts → i + length ts ≤ suc node_limit → Storables es
    each_storable i [] [] h l = tt
    each_storable i [] (t ∷ ts) h l = absurd h
    each_storable i (e ∷ es) [] h l = absurd h
    each_storable i (e ∷ es) (t ∷ ts) h l = (stored_storable i e t h.0 (omega arith), each_storable (suc i) es ts h.1 (omega arith))

  -- The bytes of the entries.
  each_sizes : (i : ℕ) (es : List Entry) (ts : Tree) → Each ed names buffer end i es ts → length (tree_bytes es) ≡ entries_size ts
  unfolding tree_bytes entries_size
  each_sizes i [] [] h = refl
  each_sizes i [] (t ∷ ts) h = absurd h
  each_sizes i (e ∷ es) [] h = absurd h
  each_sizes i (e ∷ es) (t ∷ ts) h =
      length-append (entry_bytes e) (tree_bytes es)
      ∙ rw (length_entry_bytes e, h.0.kind_is, each_sizes (suc i) es ts h.1)

  -- One node more, and one node changed.
  pub each_snoc : (i : ℕ) (es : List Entry) (ts : Tree) (e : Entry) (t : Node) → Each ed names buffer end i es ts → Stored ed names buffer end (i + length ts) e t
      → Each ed names buffer end i (es ++ (e ∷ [])) (ts ++ (t ∷ []))
  each_snoc i [] [] e t h s = let n : i + 0 ≡ i = omega arith in (rw n at s, tt)
  each_snoc i [] (u ∷ ts) e t h s = absurd h
  each_snoc i (d ∷ es) [] e t h s = absurd h
  each_snoc i (d ∷ es) (u ∷ ts) e t h s =
      let n : i + suc (length ts) ≡ suc i + length ts = omega arith in (h.0, each_snoc (suc i) es ts e t h.1 (rw n at s))

  pub each_set : (i : ℕ) (es : List Entry) (ts : Tree) (j : ℕ) (e : Entry) (t : Node) → Each ed names buffer end i es ts → j < length ts
      → Stored ed names buffer end (i + j) e t → Each ed names buffer end i (set es j e) (set ts j t)
  each_set i [] [] j e t h l s = absurd (omega arith)
  each_set i [] (u ∷ ts) j e t h l s = absurd h
  each_set i (d ∷ es) [] j e t h l s = absurd h
  each_set i (d ∷ es) (u ∷ ts) zero e t h l s = let n : i + 0 ≡ i = omega arith in (rw n at s, h.1)
  each_set i (d ∷ es) (u ∷ ts) (suc j) e t h l s =
      let n : i + suc j ≡ suc i + j = omega arith in (h.0, each_set (suc i) es ts j e t h.1 (omega arith) (rw n at s))

-- More strings and more data after those that there are.
module _ (ed : Edition) (names names' : List (List ℕ)) (buffer buffer' : List ℕ) (end end' : ℕ)
    (longer : length names ≤ length names') (names-kept : (k : ℕ) → k < length names → get_or names' k [] ≡ get_or names k [])
    (larger : end ≤ end') (data-kept : (at n : ℕ) → at + n ≤ end → part at n buffer' ≡ part at n buffer) where
  stored_kept : (i : ℕ) (e : Entry) (t : Node) → Stored ed names buffer end i e t → Stored ed names' buffer' end' i e t
  stored_kept i e t s =
      record {
        parent_is = s.parent_is;
        parent_lower = s.parent_lower;
        string_exists = omega (arith, s.string_exists);
        name_is = names-kept e.string s.string_exists ∙ s.name_is;
        subkey = s.subkey;
        kind_is = s.kind_is;
        count_is = s.count_is;
        whole = s.whole;
        short = omega (arith, s.short);
        void_offset = s.void_offset;
        offset_aligned = s.offset_aligned;
        begins = s.begins;
        ends = λ v. omega (arith, s.ends v);
        there = λ v. data-kept e.offset (length t.bytes) (s.ends v) ∙ s.there v;
      }

  pub each_kept : (i : ℕ) (es : List Entry) (ts : Tree) → Each ed names buffer end i es ts → Each ed names' buffer' end' i es ts
  each_kept i [] [] h = tt
  each_kept i [] (t ∷ ts) h = absurd h
  each_kept i (e ∷ es) [] h = absurd h
  each_kept i (e ∷ es) (t ∷ ts) h = (stored_kept i e t h.0, each_kept (suc i) es ts h.1)

-- ---- Nodes that are not Void.

pub is_void_lem : (k : Kind) → is_void k ≡ true → k ≡ Void
is_void_lem Void h = refl
is_void_lem Char h = absurd_bool h
is_void_lem Int h = absurd_bool h
is_void_lem Double h = absurd_bool h
is_void_lem Complex h = absurd_bool h

not_void_append : (a b : Tree) → non_void_count (a ++ b) ≡ non_void_count a + non_void_count b
unfolding non_void_count
not_void_append [] b = sym (zero-add (non_void_count b))
not_void_append (t ∷ a) b = omega (arith, not_void_append a b)

one_more : (b : Bool) (n m : ℕ) → n ≤ m → cond b 0 1 + n ≤ suc m
one_more true n m h = omega arith
one_more false n m h = omega arith

pub not_void_few : (tree : Tree) → non_void_count tree ≤ length tree
unfolding non_void_count
not_void_few [] = omega arith
not_void_few (t ∷ ts) = one_more (is_void t.kind) (non_void_count ts) (length ts) (not_void_few ts)

-- ---- What the writer reads in its areas.

module _ (s : State) (tree : Tree) {layout : DataLayout} (g : Invariant s tree layout) where
  pub clean : EachWithout 0 (names_of tree)
  clean = subkeys_no_zero (writer_edition s.writer) (names_of tree) g.subkeys

  pub used_text_lem : used_text s.writer s.text ≡ text_of (names_of tree)
  used_text_lem = rw (g.text_count, g.text_is) (take_at (text_of (names_of tree)) g.text_rest (length (text_of (names_of tree))) refl)

  pub names_in_lem : names_in s.writer s.text ≡ names_of tree
  names_in_lem = ap strings_of used_text_lem ∙ strings_of_text_of (names_of tree) clean

  pub count_same : length g.entries ≡ length tree
  count_same = each_length (writer_edition s.writer) (names_of tree) s.buffer s.writer.end 1 g.entries tree g.each

  pub small : s.writer.end ≤ image_limit
  unfolding size_of
  small = omega (arith, g.fits, g.buffer_allowed)

  pub storables : Storables g.entries
  storables = each_storable (writer_edition s.writer) (names_of tree) s.buffer s.writer.end g.strings_few small 1 g.entries tree g.each (omega (arith, g.nodes_few))

  found_in : (k : ℕ) → 0 < k → k ≤ length tree → found_slot s.tree k ≡ Some (node_entry g.entries k)
  found_in k lo hi = rw g.tree_is (slot_found g.entries g.tree_rest storables k lo (omega (arith, count_same)))

  pub entry_in_lem : (k : ℕ) → k ≤ length tree → slot_entry s.tree k ≡ node_entry g.entries k
  entry_in_lem k hi = rw g.tree_is (slot_entry_lem g.entries g.tree_rest storables k (omega (arith, count_same)))

  pub stored_in : (k : ℕ) → 0 < k → k ≤ length tree → Stored (writer_edition s.writer) (names_of tree) s.buffer s.writer.end k (node_entry g.entries k) (tree_node tree k)
  stored_in = each_at (writer_edition s.writer) (names_of tree) s.buffer s.writer.end g.entries tree g.each

  pub entries_in_lem : entries_out s.tree s.writer.nodes ≡ tree_bytes g.entries
  entries_in_lem = rw (g.nodes_count, ← count_same, g.tree_is) (entries_out_lem g.entries g.tree_rest storables)

  -- The nodes that are not Void.
  void_in : (k : ℕ) → k < length tree → is_void (slot_entry s.tree (k + 1)).kind ≡ is_void (get_or tree k root).kind
  void_in k h =
      let e : k + 1 ≡ suc k = omega arith in
      rw e (ap (λ (x : Entry). is_void x.kind) (entry_in_lem (suc k) (omega arith)) ∙ ap is_void (stored_in (suc k) (omega arith) (omega arith)).kind_is)

  data_nodes_to : (n : ℕ) → n ≤ length tree → data_nodes s.tree n ≡ non_void_count (take n tree)
  unfolding data_nodes non_void_count
  data_nodes_to zero h = refl
  data_nodes_to (suc n) h =
      rw (take-suc tree n root (omega arith), not_void_append (take n tree) (get_or tree n root ∷ []), void_in n (omega arith))
      (omega (arith, data_nodes_to n (omega arith)))

  pub data_nodes_in : data_nodes s.tree (length tree) ≡ non_void_count tree
  data_nodes_in = data_nodes_to (length tree) (omega arith) ∙ ap non_void_count (take-length tree)

  -- The bytes of the entries in a file.
  pub sizes_in_bytes : length (tree_bytes g.entries) ≡ entries_size tree
  sizes_in_bytes = each_sizes (writer_edition s.writer) (names_of tree) s.buffer s.writer.end 1 g.entries tree g.each

  sizes_in_lem : entry_sizes s.tree s.writer.nodes ≡ entries_size tree
  sizes_in_lem =
      rw (g.nodes_count, ← count_same, g.tree_is) (sizes_are g.entries g.tree_rest storables) ∙ sizes_in_bytes

  pub size_in : finished_size s.writer s.tree ≡ size_of s.writer.end tree
  unfolding finished_size size_of
  size_in = rw (sizes_in_lem, g.text_count)

  pub name_in : (k : ℕ) → 0 < k → k ≤ length tree → name_of s.writer s.text s.tree k ≡ (tree_node tree k).name
  name_in k lo hi = rw (names_in_lem, entry_in_lem k hi) (stored_in k lo hi).name_is

  -- What comes after the strings and the slots.
  pub text_after : drop (length (text_of (names_of tree))) s.text ≡ g.text_rest
  text_after = rw g.text_is (drop_at (text_of (names_of tree)) g.text_rest (length (text_of (names_of tree))) refl)

  pub tree_after_lem : drop (25 * length tree) s.tree ≡ g.tree_rest
  tree_after_lem = rw g.tree_is (drop_at (slots_of g.entries) g.tree_rest (25 * length tree) (length_slots_of g.entries ∙ ap (λ (n : ℕ). 25 * n) count_same))

  -- The record belongs to what is passed.
  pub invariant_belongs : WriterBelongs (length s.buffer) s.writer s.text s.tree
  invariant_belongs =
      record {
        edition_written = g.edition_written;
        length_recorded = g.buffer_length;
        length_allowed = g.buffer_allowed;
        text_area_is = g.text_area_is;
        tree_area_is = g.tree_area_is;
        few_strings = omega (arith, g.strings_count, g.strings_few);
        text_inside = omega (arith, g.text_count, g.text_area_is, ap length g.text_is, length-append (text_of (names_of tree)) g.text_rest);
        few_nodes = omega (arith, g.nodes_count, g.nodes_few);
        text_ends = rw used_text_lem (ends_in_zero_text_of (names_of tree));
        text_strings = rw names_in_lem (sym g.strings_count);
        slot_whole = λ k lo hi. let l : k ≤ length tree = omega (arith, g.nodes_count) in rw (entry_in_lem k l) (found_in k lo l);
        parent_lower = λ k lo hi.
            let l : k ≤ length tree = omega (arith, g.nodes_count) in
            let t = stored_in k lo l in
            rw (entry_in_lem k l) (omega (arith, t.parent_is, t.parent_lower));
        string_exists = λ k lo hi.
            let l : k ≤ length tree = omega (arith, g.nodes_count) in
            rw (entry_in_lem k l) (omega (arith, (stored_in k lo l).string_exists, g.strings_count));
        end_after_header = g.after_header;
        data_begins = λ k lo hi.
            let l : k ≤ length tree = omega (arith, g.nodes_count) in
            let t = stored_in k lo l in
            rw (entry_in_lem k l, t.kind_is) t.begins;
        data_ends = λ k lo hi.
            let l : k ≤ length tree = omega (arith, g.nodes_count) in
            let t = stored_in k lo l in
            rw (entry_in_lem k l, t.kind_is, t.whole) t.ends;
        size_fits = rw size_in g.fits;
      }
