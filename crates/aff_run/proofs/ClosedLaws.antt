-- The buffer after all stores of a close is the finished file of what the run holds (`file_of`), and what was after it. Its contents are lawful, and their tree
-- is the tree described; so it opens and shows that tree. Assumes nothing.
use mathlib.Core.Path.{◌≡◌, refl, sym, ap, ap₂, ◌∙◌, subst}
use mathlib.Core.Bool.{Bool, true, false, cond}
use mathlib.Core.List.{List, [], ◌∷◌, ◌++◌, append_assoc}
use Prim.Native.Nat.{ℕ, ◌+◌, ◌-◌, ◌*◌, ◌≤◌, ◌<◌}
use native.Mathlib.Nat.{mul-zero}
use native.Mathlib.Numerals.{one-add}
use native.Mathlib.Omega.{arith}
use lib.ListN.{length, take, drop, length-append, length-drop}
use lib.Seq.{drop-append-le, length-take-le}
use Rattle.aff_format.specs.Answer.{accepted}
use Rattle.aff_format.specs.Bytes.{part, spliced}
use Rattle.aff_format.specs.Edition.{header_size}
use Rattle.aff_format.specs.Kind.{element_size, is_void}
use Rattle.aff_format.specs.Limits.{string_limit, node_limit}
use Rattle.aff_format.specs.Strings.{text_of}
use Rattle.aff_format.specs.Tree.{Node, Tree, tree_node}
use Rattle.aff_format.specs.declared.edition.Edition.{Edition}
use Rattle.aff_format.specs.declared.entry.Entry.{Entry}
use Rattle.aff_format.specs.declared.kind.Kind.{Kind}
use Rattle.aff_format.specs.declared.section.Section.{Section}
use Rattle.aff_format.specs.declared.section.Section.TheVariants.{Symbol, Data}
use Rattle.aff_format.specs.declared.section.Section.TheVariants as section
use Rattle.aff_format.proofs.BytesLaws.{length_part, length_spliced, drop_take, spliced_more, part_part}
use Rattle.aff_format.proofs.EditionLaws.{header_least, written_edition, written_counts}
use Rattle.aff_header.specs.Header.{section_header, header_front, with_sum}
use Rattle.aff_tables.specs.Tables.{node_entry, tree_bytes}
use Rattle.aff_reader.specs.declared.reader.Reader.{Reader}
use Rattle.aff_open.specs.Opening.{open_answer}
use Rattle.aff_open.specs.Rules.{EachNode}
use Rattle.aff_read.specs.Shows.{Shows}
use Rattle.aff_file.specs.File.{FileContents, header_of, file_header, file_of, node_in, contents_tree, Lawful}
use Rattle.aff_file.proofs.FileLaws.{length_file_header, length_file_of, file_laid, lower_climbs}
use Rattle.aff_file.proofs.FileShowsLaws.{contents_tree_lem, file_shows, file_counts}
use Rattle.aff_areas.specs.Areas.{data_nodes}
use Rattle.aff_areas.specs.Stores.{Store, apply_stores, stores_from}
use Rattle.aff_areas.specs.Writer.{writer_edition, data_place, data_size}
use Rattle.aff_areas.proofs.StoreLaws.{apply_append, apply_spliced}
use Rattle.aff_write.specs.Close.{symbols_place, tree_place, close_section, close_header, close_stores}
use Rattle.aff_run.specs.TreeSizes.{names_of, non_void_count, size_of}
use Rattle.aff_run.specs.Run.{State, DataLayout}
use Rattle.aff_run.proofs.SlotsLaws.{node_storable}
use Rattle.aff_run.proofs.InvariantLaws.{Stored, Invariant, is_void_lem, used_text_lem, entries_in_lem, count_same, stored_in, storables, sizes_in_bytes, not_void_few, data_nodes_in}

-- A header stored from its byte 1 on, and last its first byte.
header_stored : (h l : List ℕ) → 1 ≤ length h → length h ≤ length l → spliced 0 (take 1 h) (spliced 1 (drop 1 h) l) ≡ h ++ drop (length h) l
unfolding spliced
header_stored [] l lo hi = absurd (omega arith)
header_stored (x ∷ h) [] lo hi = absurd (omega arith)
header_stored (x ∷ h) (y ∷ l) lo hi = rw one-add

-- Strings and entries after p + d bytes, then a header of p bytes.
buffer_stored : (buffer h x e : List ℕ) (p d : ℕ) → length h ≡ p → 1 ≤ p → p + d + length x + length e ≤ length buffer
    → spliced 0 (take 1 h) (spliced 1 (drop 1 h) (spliced (p + d + length x) e (spliced (p + d) x buffer)))
    ≡ h ++ (part p d buffer ++ (x ++ (e ++ drop (p + d + length x + length e) buffer)))
unfolding spliced
buffer_stored buffer h x e p d n lo fits =
    let l = spliced (p + d) (x ++ e) buffer in
    let a : spliced (p + d + length x) e (spliced (p + d) x buffer) ≡ l = spliced_more (p + d) x e buffer (omega arith) in
    let k : length l ≡ length buffer = length_spliced (p + d) (x ++ e) buffer (omega (arith, length-append x e)) in
    let z : p + d - p ≡ d = omega arith in
    let m : p + d + length (x ++ e) ≡ p + d + length x + length e = omega (arith, length-append x e) in
    let t : length (take (p + d) buffer) ≡ p + d = length-take-le (p + d) buffer (omega arith) in
    let b : drop p l ≡ part p d buffer ++ (x ++ (e ++ drop (p + d + length x + length e) buffer)) =
    drop-append-le p (take (p + d) buffer) ((x ++ e) ++ drop (p + d + length (x ++ e)) buffer) (omega arith)
    ∙ rw (drop_take p (p + d) buffer, z, m, append_assoc) in
    ap (λ (r : List ℕ). spliced 0 (take 1 h) (spliced 1 (drop 1 h) r)) a
    ∙ header_stored h l (omega arith) (omega arith)
    ∙ rw n (ap (λ (r : List ℕ). h ++ r) b)

stores_applied : (buffer h x e : List ℕ) (p d : ℕ) → length h ≡ p → 1 ≤ p → p + d + length x + length e ≤ length buffer
    → apply_stores buffer ((stores_from (p + d) x ++ stores_from (p + d + length x) e) ++ (stores_from 1 (drop 1 h) ++ stores_from 0 (take 1 h)))
    ≡ h ++ (part p d buffer ++ (x ++ (e ++ drop (p + d + length x + length e) buffer)))
stores_applied buffer h x e p d n lo fits =
    let r₁ = spliced (p + d) x buffer in
    let r₂ = spliced (p + d + length x) e r₁ in
    let r₃ = spliced 1 (drop 1 h) r₂ in
    let l₁ : length r₁ ≡ length buffer = length_spliced (p + d) x buffer (omega arith) in
    let l₂ : length r₂ ≡ length buffer = length_spliced (p + d + length x) e r₁ (omega arith) ∙ l₁ in
    let k : length (drop 1 h) ≡ p - 1 = length-drop 1 h ∙ rw n in
    let l₃ : length r₃ ≡ length buffer = length_spliced 1 (drop 1 h) r₂ (omega arith) ∙ l₂ in
    let o : length (take 1 h) ≡ 1 = length-take-le 1 h (omega arith) in
    rw (
      apply_append,
      apply_append buffer (stores_from (p + d) x),
      apply_spliced (p + d) x buffer (omega arith),
      apply_spliced (p + d + length x) e r₁ (omega arith),
      apply_append r₂,
      apply_spliced 1 (drop 1 h) r₂ (omega arith),
      apply_spliced 0 (take 1 h) r₃ (omega arith),
    )
    (buffer_stored buffer h x e p d n lo fits)

stores_same : (buffer : List ℕ) (more : List Store) {x x' e e' : List ℕ} {p p' q q' : ℕ} → x ≡ x' → e ≡ e' → p ≡ p' → q ≡ q'
    → apply_stores buffer ((stores_from p x ++ stores_from q e) ++ more) ≡ apply_stores buffer ((stores_from p' x' ++ stores_from q' e') ++ more)
stores_same buffer more a b c d = rw (a, b, c, d)

-- A Void node has no bytes.
no_bytes : (l : List ℕ) → length l ≡ 0 → l ≡ []
no_bytes [] h = refl
no_bytes (x ∷ l) h = absurd (omega arith)

void_none : (n : ℕ) (k : Kind) → is_void k ≡ true → n * element_size k ≡ 0
void_none n k v = rw (is_void_lem k v) (mul-zero n)

header_same : (e : Edition) {p p' n n' : ℕ} {x x' : List ℕ} → p ≡ p' → n ≡ n' → x ≡ x' → section_header e p n x ≡ section_header e p' n' x'
header_same e a b c = λ i. section_header e (a i) (b i) (c i)

module _ (s : State) (tree : Tree) {layout : DataLayout} (g : Invariant s tree layout) where
  abbrev ed : Edition
  ed = writer_edition s.writer

  -- What the run holds, as the contents of a file, and what comes after the file.
  unfoldable pub contents : FileContents
  contents =
      record {
        stored = part (data_place s.writer) (data_size s.writer) s.buffer;
        records = non_void_count tree;
        names = names_of tree;
        entries = g.entries;
      }

  unfoldable pub rest : List ℕ
  rest = drop (data_place s.writer + data_size s.writer + length (text_of (names_of tree)) + length (tree_bytes g.entries)) s.buffer

  -- Header and data section, up to the end of data.
  end_is : data_place s.writer + data_size s.writer ≡ s.writer.end
  end_is = omega (arith, g.after_header)

  fits : data_place s.writer + data_size s.writer + length (text_of (names_of tree)) + length (tree_bytes g.entries) ≤ length s.buffer
  unfolding size_of
  fits = omega (arith, end_is, g.fits, g.buffer_length, sizes_in_bytes s tree g)

  length_stored : length (part (data_place s.writer) (data_size s.writer) s.buffer) ≡ data_size s.writer
  length_stored = length_part (data_place s.writer) (data_size s.writer) s.buffer (omega (arith, fits))

  at_node : (k : ℕ) → 0 < k → k ≤ length g.entries → Stored ed (names_of tree) s.buffer s.writer.end k (node_entry g.entries k) (tree_node tree k)
  at_node k lo hi = stored_in s tree g k lo (omega (arith, count_same s tree g))

  -- ---- The contents are lawful, and describe the tree.

  pub lawful : Lawful ed contents s.writer.form (length rest)
  unfolding contents rest
  lawful =
      record {
        form_length = g.form_length;
        size =
            let n = length_file_of ed contents s.writer.form g.form_length in
            let d = length-drop (data_place s.writer + data_size s.writer + length (text_of (names_of tree)) + length (tree_bytes g.entries)) s.buffer in
            omega (arith, n, d, fits, length_stored, g.buffer_length, g.buffer_allowed);
        few_names = g.strings_few;
        subkeys = g.subkeys;
        distinct = λ k m i l. g.distinct i k l m;
        few_nodes = omega (arith, count_same s tree g, g.nodes_few);
        storable = node_storable g.entries (storables s tree g);
        parent_exists = λ k lo hi. let t = at_node k lo hi in omega (arith, t.parent_is, t.parent_lower);
        string_exists = λ k lo hi. (at_node k lo hi).string_exists;
        climbs = lower_climbs g.entries (λ k lo hi. let t = at_node k lo hi in omega (arith, t.parent_is, t.parent_lower));
        name_free = λ k lo hi j l h p q.
            let a = at_node j l (omega arith) in
            let b = at_node k lo hi in
            g.siblings j k l h (omega (arith, count_same s tree g)) (sym a.parent_is ∙ p ∙ b.parent_is) (sym a.name_is ∙ q ∙ b.name_is);
        data_inside = λ k lo hi v.
            let t = at_node k lo hi in
            let w = ap is_void (sym t.kind_is) ∙ v in
            rw (length_stored, end_is, t.kind_is, t.whole) (t.begins w, t.ends w);
        records_fit = omega (arith, not_void_few tree, g.nodes_few);
      }

  bytes_held : (n : Entry) (t : Node) {k : ℕ} → Stored ed (names_of tree) s.buffer s.writer.end k n t
      → cond (is_void t.kind) [] (part (n.offset - header_size ed) (length t.bytes) (part (data_place s.writer) (data_size s.writer) s.buffer)) ≡ t.bytes
  bytes_held n t h = go (is_void t.kind) refl
    where
      go : (v : Bool) → is_void t.kind ≡ v
          → cond v [] (part (n.offset - header_size ed) (length t.bytes) (part (data_place s.writer) (data_size s.writer) s.buffer)) ≡ t.bytes
      go true v = sym (no_bytes t.bytes (sym h.whole ∙ void_none n.count t.kind v))
      go false v =
          let lo = h.begins v in
          let hi = h.ends v in
          let at : header_size ed + (n.offset - header_size ed) ≡ n.offset = omega arith in
          part_part (header_size ed) (data_size s.writer) (n.offset - header_size ed) (length t.bytes) s.buffer (omega arith) ∙ rw at (h.there v)

  pub tree_held : contents_tree ed contents ≡ tree
  unfolding contents
  tree_held = contents_tree_lem ed contents tree (count_same s tree g) node
    where
      node : EachNode g.entries (λ k. node_in ed contents (node_entry g.entries k) ≡ tree_node tree k)
      node k lo hi =
          let t = at_node k lo hi in
          rw (t.parent_is, t.name_is, t.kind_is, t.whole, bytes_held (node_entry g.entries k) (tree_node tree k) t)

  -- ---- Close makes the file of the contents.

  symbols_at : symbols_place s.writer ≡ header_size ed + length (part (data_place s.writer) (data_size s.writer) s.buffer)
  symbols_at = sym end_is ∙ ap (λ (n : ℕ). header_size ed + n) (sym length_stored)

  section_is : (t : Section) → close_section s.buffer s.writer s.text s.tree t ≡ header_of ed contents t
  unfolding close_section contents
  section_is Symbol = header_same ed symbols_at g.strings_count (used_text_lem s tree g)
  section_is section.Tree =
      header_same ed
      (ap₂ (λ (a b : ℕ). a + b) symbols_at g.text_count)
      (g.nodes_count ∙ sym (count_same s tree g)) (entries_in_lem s tree g)
  section_is Data =
      header_same ed refl (ap (data_nodes s.tree) g.nodes_count ∙ data_nodes_in s tree g) refl

  pub header_is : close_header s.buffer s.writer s.text s.tree ≡ file_header ed contents s.writer.form
  unfolding close_header file_header
  header_is = λ i. with_sum (header_front ed s.writer.form (λ t. section_is t i))

  pub length_header : length (close_header s.buffer s.writer s.text s.tree) ≡ data_place s.writer
  length_header = ap length header_is ∙ length_file_header ed contents s.writer.form g.form_length

  pub closed : List ℕ
  closed = apply_stores s.buffer (close_stores s.buffer s.writer s.text s.tree)

  pub closed_buffer : closed ≡ apply_stores s.buffer (close_stores s.buffer s.writer s.text s.tree)
  unfolding closed
  closed_buffer = refl

  pub closed_is : closed ≡ file_of ed contents s.writer.form ++ rest
  unfolding closed close_stores contents rest
  closed_is =
      let header = close_header s.buffer s.writer s.text s.tree in
      let symbols = text_of (names_of tree) in
      let q : tree_place s.writer ≡ data_place s.writer + data_size s.writer + length symbols = ap₂ (λ (a b : ℕ). a + b) (sym end_is) g.text_count in
      stores_same s.buffer (stores_from 1 (drop 1 header) ++ stores_from 0 (take 1 header)) (used_text_lem s tree g) (entries_in_lem s tree g) (sym end_is) q
      ∙ stores_applied s.buffer header symbols (tree_bytes g.entries) (data_place s.writer) (data_size s.writer) length_header (omega (arith, header_least ed)) fits
      ∙ ap (λ (h : List ℕ). h ++ (part (data_place s.writer) (data_size s.writer) s.buffer ++ (symbols ++ (tree_bytes g.entries ++ rest)))) header_is
      ∙ sym (file_laid ed contents s.writer.form rest)

  -- The file has the finished size.
  pub length_closed : length (file_of ed contents s.writer.form) ≡ size_of s.writer.end tree
  unfolding contents size_of
  length_closed = omega (arith, length_file_of ed contents s.writer.form g.form_length, length_stored, end_is, sizes_in_bytes s tree g)

  -- So it opens and shows the tree, and opening reports the number of nodes that are not Void.
  pub closed_shows : Shows closed s.writer.form tree
  closed_shows = subst (λ (t : Tree). Shows closed s.writer.form t) tree_held (rw closed_is (file_shows ed contents s.writer.form rest lawful))

  pub closed_counts : (r : Reader) → open_answer closed s.writer.form string_limit node_limit ≡ accepted r → r.records ≡ non_void_count tree
  unfolding contents
  closed_counts r h =
      file_counts ed contents s.writer.form rest lawful (written_counts ed (written_edition s.writer.edition g.edition_written)) r (rw closed_is at h)
