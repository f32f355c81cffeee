-- Document 01, 'Reading keys': after an accepted opening a path names one node at most. Names are subkeys, which hold no slash, so a path determines its
-- last name and its parent's path; no two siblings have one name. So a lookup returns the only node with its path, and each node is found by its
-- path. Assumes nothing.
use mathlib.Core.Path.{◌≡◌, refl, sym, ap, ◌∙◌}
use mathlib.Core.Bool.{true}
use mathlib.Core.List.{List}
use mathlib.Core.Logic.{◌↔◌}
use Prim.Native.Nat.{ℕ, ◌≤◌, ◌<◌}
use native.Mathlib.Omega.{arith}
use lib.ListN.{length}
use borrow.Author.Tests.{ne_eqb}
use Rattle.aff_format.specs.Answer.{accepted}
use Rattle.aff_format.specs.Path.{is_path}
use Rattle.aff_format.specs.Subkey.{is_subkey}
use Rattle.aff_format.specs.declared.edition.Edition.{Edition}
use Rattle.aff_format.specs.declared.entry.Entry.{Entry}
use Rattle.aff_format.proofs.EditionLaws.{edition_by_number}
use Rattle.aff_format.proofs.TreeLaws.{path_formed, path_unique}
use Rattle.aff_reader.specs.Belongs.{ReaderBelongs}
use Rattle.aff_open.specs.Opening.{open_answer, strings_after, entries_after, string_in, entry_in}
use Rattle.aff_open.specs.Sections.{edition_in, strings_in, nodes_in}
use Rattle.aff_format.specs.Edition.{edition_by}
use Rattle.aff_reader.specs.declared.reader.Reader.{Reader}
use Rattle.aff_reader.proofs.BelongsLaws.{belongs_record}
use Rattle.aff_open.proofs.ObeysLaws.{NodesHold, accepted_nodes}
use Rattle.aff_open.proofs.OpenedLaws.{OpenedShape, opened_shape, opened_belongs}
use Rattle.aff_read.specs.Paths.{lookup_answer}
use Rattle.aff_read.specs.Lookup.{OnlyWith}
use Rattle.aff_nodes.specs.Recall.{parent_at, name_at, path_at}
use Rattle.aff_read.proofs.LookupLaws.{lookup_accepts}

module _ (image form strings entries : List ℕ) {r : Reader} (h : open_answer image form (length strings) (length entries) ≡ accepted r) where
  abbrev e : Edition
  e = edition_in image

  abbrev ss : List ℕ
  ss = strings_after image form strings entries

  abbrev es : List ℕ
  es = entries_after image form strings entries

  shape : OpenedShape image form strings entries r
  shape = opened_shape image form strings entries h

  shown : ReaderBelongs image r ss es
  shown = belongs_record (opened_belongs image form strings entries h)

  -- The rules of the nodes, which the record counts.
  rules_hold : NodesHold e image (strings_in e image) (nodes_in e image)
  rules_hold = accepted_nodes image form (length strings) (length entries) h

  counted : (r.strings ≡ length (strings_in e image)) × (r.nodes ≡ length (nodes_in e image))
  counted = (ap (λ (x : Reader). x.strings) shape.reader, ap (λ (x : Reader). x.nodes) shape.reader)

  -- Parents and names that the areas show are those of the tables.
  parent_is : (k : ℕ) → 0 < k → k ≤ r.nodes → parent_at image es k ≡ (entry_in e image k).parent
  parent_is k lo hi = ap (λ (x : Entry). x.parent) (shape.entries_are k lo hi)

  name_is : (k : ℕ) → 0 < k → k ≤ r.nodes → name_at image r ss es k ≡ string_in e image (entry_in e image k).string
  unfolding name_at
  name_is k lo hi =
      rw (ne_eqb k 0 (λ z. omega arith), shape.entries_are k lo hi)
      (shape.strings_are (entry_in e image k).string (omega (arith, counted.0, (rules_hold.0 k lo (omega (arith, counted.1))).1)))

  subkey : (k : ℕ) → 0 < k → k ≤ r.nodes → is_subkey e (name_at image r ss es k) ≡ true
  subkey k lo hi = ap (is_subkey e) (name_is k lo hi) ∙ (rules_hold.0 k lo (omega (arith, counted.1))).2

  siblings : (j k : ℕ) → 0 < j → j < k → k ≤ r.nodes → parent_at image es j ≡ parent_at image es k → name_at image r ss es j ≡ name_at image r ss es k → ⊥
  siblings j k lo l hi p n =
      let hj : j ≤ r.nodes = omega arith in
      rules_hold.2 k (omega arith) (omega (arith, counted.1)) j lo l
      (sym (parent_is j lo hj) ∙ p ∙ parent_is k (omega arith) hi) (sym (name_is j lo hj) ∙ n ∙ name_is k (omega arith) hi)

  pub unique_path : (i j : ℕ) → i ≤ r.nodes → j ≤ r.nodes → path_at image r ss es i ≡ path_at image r ss es j → i ≡ j
  unique_path = path_unique e (parent_at image es) (name_at image r ss es) r.nodes shown.parent_exists shown.climb_ends subkey siblings

  -- A lookup returns n exactly where n is the one node with the path.
  pub lookup_only : (path : List ℕ) → is_path (edition_by r.edition) path ≡ true → (n : ℕ)
      → (lookup_answer image r ss es path ≡ accepted n) ↔ OnlyWith image r ss es path n
  lookup_only path p n =
      let lowest = lookup_accepts image r ss es path shown p n in (
        λ a.
            let w = lowest.0 a in
            record { exists = w.exists; has = w.has; only = λ k l q. unique_path k n l w.exists (q ∙ sym w.has) },
        λ w.
            lowest.1 (record {
              exists = w.exists;
              has = w.has;
              least = λ k l q. let b : n ≤ r.nodes = w.exists in let z : k ≡ n = w.only k (omega arith) q in omega arith;
            }),
      )

  edition_is : edition_by r.edition ≡ e
  edition_is = ap (λ (x : Reader). edition_by x.edition) shape.reader ∙ edition_by_number e

  -- Each node's path is a path, and its lookup returns the node.
  pub lookup_path : (n : ℕ) → n ≤ r.nodes → lookup_answer image r ss es (path_at image r ss es n) ≡ accepted n
  lookup_path n l =
      let p = ap (λ (d : Edition). is_path d (path_at image r ss es n)) edition_is
      ∙ path_formed e (parent_at image es) (name_at image r ss es) r.nodes shown.parent_exists shown.climb_ends subkey n l in
      (lookup_only (path_at image r ss es n) p n).1 (record { exists = l; has = refl; only = λ k m q. unique_path k n m l q })
