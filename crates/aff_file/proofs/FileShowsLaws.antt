-- A file of lawful contents shows the tree of its contents: it obeys the format, so it opens and shows the tree of its own tables, and these are the
-- contents. Assumes nothing.
use mathlib.Core.Path.{◌≡◌, refl, sym, ap, ◌∙◌, subst}
use mathlib.Core.Bool.{Bool, true, false, cond}
use mathlib.Core.List.{List, [], ◌∷◌, ◌++◌, map}
use Prim.Native.Nat.{ℕ, zero, suc, ◌+◌, ◌-◌, ◌*◌, ◌≤◌, ◌<◌}
use native.Mathlib.Omega.{arith}
use lib.ListN.{length, length-map}
use lib.Seq.{take-length}
use Rattle.aff_format.specs.Answer.{Answer, accepted}
use Rattle.aff_format.specs.Bytes.{part}
use Rattle.aff_format.specs.Edition.{has_counts, header_size}
use Rattle.aff_format.specs.Kind.{element_size, is_void}
use Rattle.aff_format.specs.Limits.{string_limit, node_limit}
use Rattle.aff_format.specs.Strings.{text_of}
use Rattle.aff_format.specs.Tree.{Node, Tree, tree_node}
use Rattle.aff_format.specs.declared.edition.Edition.{Edition}
use Rattle.aff_format.specs.declared.entry.Entry.{Entry}
use Rattle.aff_format.proofs.BytesLaws.{part_middle}
use Rattle.aff_tables.specs.Tables.{node_entry, tree_bytes}
use Rattle.aff_open.specs.Opening.{open_answer, reader_for, strings_after, entries_after}
use Rattle.aff_open.specs.Rules.{EachNode}
use Rattle.aff_open.proofs.ObeysLaws.{obeys_accepted}
use Rattle.aff_reader.specs.declared.reader.Reader.{Reader}
use Rattle.aff_reader.specs.declared.reader.Span.{Span}
use Rattle.aff_nodes.specs.Answers.{view_answer}
use Rattle.aff_read.specs.Shows.{Shows}
use Rattle.aff_file.specs.File.{FileContents, node_in, contents_tree, file_header, file_of, Lawful}
use Rattle.aff_file.specs.TreeIn.{node_by, tree_in}
use Rattle.aff_file.proofs.FileLaws.{length_file_header, file_laid, file_obeys, file_edition, file_strings, file_nodes, file_records}
use Rattle.aff_file.proofs.OpenedShowsLaws.{node_of_entry, view_begins, view_of_root, opened_shows}

-- ---- A tree made entry by entry.

-- It is the tree whose node k is made of entry k.
made_is : (f : Entry → Node) (es : List Entry) (tree : Tree) → length es ≡ length tree → EachNode es (λ k. f (node_entry es k) ≡ tree_node tree k) → map f es ≡ tree
made_is f [] [] l h = refl
made_is f [] (t ∷ tree) l h = absurd (omega arith)
made_is f (x ∷ es) [] l h = absurd (omega arith)
made_is f (x ∷ es) (t ∷ tree) l h =
    let first : f x ≡ t = h 1 (omega arith) (omega arith) in
    rw (first, made_is f es tree (omega arith) later)
  where
    later : EachNode es (λ k. f (node_entry es k) ≡ tree_node tree k)
    later zero lo hi = absurd (omega arith)
    later (suc k) lo hi = h (suc (suc k)) (omega arith) (omega arith)

pub contents_tree_lem : (e : Edition) (c : FileContents) (tree : Tree) → length c.entries ≡ length tree
    → EachNode c.entries (λ k. node_in e c (node_entry c.entries k) ≡ tree_node tree k) → contents_tree e c ≡ tree
unfolding contents_tree
contents_tree_lem e c tree l h = made_is (node_in e c) c.entries tree l h

-- ---- A file of lawful contents, and what follows it.

module _ (e : Edition) (c : FileContents) (form rest : List ℕ) (g : Lawful e c form (length rest)) where
  abbrev file : List ℕ
  file = file_of e c form ++ rest

  -- The data in the file are those stored.
  data_there : (at n : ℕ) → header_size e ≤ at → at + n ≤ header_size e + length c.stored → part at n file ≡ part (at - header_size e) n c.stored
  data_there at n lo hi =
      let l = length_file_header e c form g.form_length in
      ap (part at n) (file_laid e c form rest)
      ∙ part_middle (file_header e c form) c.stored (text_of c.names ++ (tree_bytes c.entries ++ rest)) at n (omega arith) (omega arith)
      ∙ rw l

  pub file_stored : part (header_size e) (length c.stored) file ≡ c.stored
  file_stored =
      let z : header_size e - header_size e ≡ 0 = omega arith in
      data_there (header_size e) (length c.stored) (omega arith) (omega arith) ∙ rw (z, take-length)

  -- An entry makes the same node by the file as by the contents.
  bytes_alike : (n : Entry)
      → (is_void n.kind ≡ false → (header_size e ≤ n.offset) × (n.offset + n.count * element_size n.kind ≤ header_size e + length c.stored))
      → (node_by e file n).bytes ≡ (node_in e c n).bytes
  bytes_alike n = go (is_void n.kind)
    where
      size : ℕ
      size = n.count * element_size n.kind

      go : (v : Bool) → (v ≡ false → (header_size e ≤ n.offset) × (n.offset + size ≤ header_size e + length c.stored))
          → cond v [] (part n.offset size file) ≡ cond v [] (part (n.offset - header_size e) size c.stored)
      go true d = refl
      go false d = data_there n.offset size (d refl).0 (d refl).1

  node_alike : EachNode c.entries (λ k. node_by e file (node_entry c.entries k) ≡ tree_node (contents_tree e c) k)
  unfolding contents_tree
  node_alike k lo hi =
      let there = node_of_entry (node_in e c) c.entries k lo hi in
      rw (file_strings e c form rest g, bytes_alike (node_entry c.entries k) (g.data_inside k lo hi)) (sym there)

  pub file_tree : tree_in e file ≡ contents_tree e c
  unfolding tree_in contents_tree
  file_tree =
      rw (file_nodes e c form rest g)
      (made_is (node_by e file) c.entries (contents_tree e c) (sym (length-map c.entries (node_in e c))) node_alike)

  -- It opens.
  pub file_opens : open_answer file form string_limit node_limit ≡ accepted (reader_for e file)
  file_opens = obeys_accepted file form (file_obeys e c form rest g) ∙ ap (λ (d : Edition). accepted (reader_for d file)) (file_edition e c form rest g)

  pub file_shows : Shows file form (contents_tree e c)
  file_shows =
      subst (Shows file form) (ap (λ (d : Edition). tree_in d file) (file_edition e c form rest g) ∙ file_tree) (opened_shows file form file_opens)

  -- An accepted view begins where the entry of its node says; that of the root begins at 0.
  module _ {r : Reader} (h : open_answer file form string_limit node_limit ≡ accepted r) (strings entries : List ℕ) (a : length strings ≡ string_limit) (b : length entries ≡ node_limit) where
    abbrev view_in : ℕ → Answer Span
    view_in n = view_answer file r (strings_after file form strings entries) (entries_after file form strings entries) n

    pub file_view : (n : ℕ) {view : Span} → view_in n ≡ accepted view → 0 < n → (n ≤ length c.entries) × (view.offset ≡ (node_entry c.entries n).offset)
    file_view n {view} v lo =
        let (hi, is) = rw (file_edition e c form rest g, file_nodes e c form rest g) at (view_begins file form h strings entries a b n v lo) in
        (hi, is ∙ go (node_entry c.entries n) (is_void (node_entry c.entries n).kind) (g.storable n lo hi).void_offset)
      where
        go : (x : Entry) (void : Bool) → (void ≡ true → x.offset ≡ 0) → cond void 0 x.offset ≡ x.offset
        go x true z = sym (z refl)
        go x false z = refl

    pub file_view_root : {view : Span} → view_in 0 ≡ accepted view → view.offset ≡ 0
    file_view_root = view_of_root file form h strings entries a b

  -- Opening reports the record count of the data.
  pub file_counts : has_counts e ≡ true → (r : Reader) → open_answer file form string_limit node_limit ≡ accepted r → r.records ≡ c.records
  file_counts k r h =
      let both : accepted (reader_for e file) ≡ accepted r = sym file_opens ∙ h in
      let same : reader_for e file ≡ r = cc in
      ap (λ (x : Reader). x.records) (sym same) ∙ file_records e c form rest g k
