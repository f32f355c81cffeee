-- What an accepted opening leaves: the record is the image's, the areas show its strings and entries (`opened_shape`), and the record belongs
-- to what was passed (`opened_belongs`): no check found anything wrong, and each clause of 24 is read off a check or off the places. Assumes nothing.
use mathlib.Core.Path.{◌≡◌, refl, sym, ap, ◌∙◌}
use mathlib.Core.Bool.{true, false}
use mathlib.Core.List.{List}
use Prim.Native.Nat.{ℕ, ◌+◌, ◌≤◌, ◌<◌}
use native.Mathlib.Omega.{arith}
use lib.ListN.{length, get_or, replicate, length-replicate}
use borrow.Author.Tests.{not-false}
use Rattle.aff_format.specs.Answer.{accepted, Check, Clear}
use Rattle.aff_format.specs.Bytes.{laid_over}
use Rattle.aff_format.specs.Recorded.{found_entry, recorded_entry, recorded_string}
use Rattle.aff_format.specs.declared.section.Section.TheVariants.{Symbol, Tree, Data}
use Rattle.aff_format.specs.declared.edition.Edition.{Edition}
use Rattle.aff_format.specs.declared.entry.Entry.{Entry}
use Rattle.std.specs.Prelude.{Some}
use Rattle.aff_format.proofs.AnswerLaws.{passed, passed_value, clear_accepts, clear_both}
use Rattle.aff_format.proofs.EditionLaws.{edition_of_number}
use Rattle.aff_format.proofs.EntryLaws.{data_asks}
use Rattle.aff_format.proofs.LaidLaws.{length_laid}
use Rattle.aff_format.proofs.LowestLaws.{none_holds}
use Rattle.aff_tables.specs.Nodes.{Contents, recorded_contents, climb_endless, node_checks}
use Rattle.aff_tables.proofs.LinkLaws.{links_clear}
use Rattle.aff_tables.proofs.NodeLaws.{nodes_clear}
use Rattle.aff_tables.proofs.SymbolLaws.{string_placed}
use Rattle.aff_tables.proofs.TreeTableLaws.{entry_found}
use Rattle.aff_reader.specs.Belongs.{reader_belongs, ReaderBelongs}
use Rattle.aff_open.specs.Opening.{lengths_wrong, up_to_tables, open_checks, open_answer, nodes_checked, tables_answer, sizes_in, string_places, node_places, reader_for, strings_after, entries_after, string_in, entry_in, span_of}
use Rattle.aff_open.specs.passes.Opening.{IsReadable, StringsLaid, EntriesLaid}
use Rattle.aff_open.specs.Sections.{edition_in, section_offset, section_size, section_bytes, strings_in, nodes_in}
use Rattle.aff_reader.specs.declared.reader.Reader.{Reader}
use Rattle.aff_reader.proofs.BelongsLaws.{record_belongs}
use Rattle.aff_open.proofs.OpeningLaws.{checked_by}
use Rattle.aff_open.proofs.TablesLaws.{lengths_right, section_inside, tables_lengths, tables_readable, strings_filled_lem, entries_filled_lem, tables_strings, tables_entries}

abbrev zeros : List ℕ → List ℕ
zeros area = replicate (length area) 0

-- Record and areas of an accepted opening.
pub record OpenedShape (image form strings entries : List ℕ) (r : Reader) : Type 0 where
  pub reader : r ≡ reader_for (edition_in image) image
  pub strings_are : (i : ℕ) → i < r.strings
      → recorded_string image (r.symbols.offset + r.symbols.size) (strings_after image form strings entries) i ≡ string_in (edition_in image) image i
  pub entries_are : (k : ℕ) → 0 < k → k ≤ r.nodes
      → recorded_entry image (entries_after image form strings entries) k ≡ entry_in (edition_in image) image k

module _ (image form strings entries : List ℕ) {r : Reader} (h : open_answer image form (length strings) (length entries) ≡ accepted r) where
  abbrev e : Edition
  e = edition_in image

  abbrev ss : List ℕ
  ss = strings_after image form strings entries

  abbrev es : List ℕ
  es = entries_after image form strings entries

  -- How many strings and nodes there are.
  abbrev n : ℕ
  n = length (strings_in e image)

  abbrev m : ℕ
  m = length (nodes_in e image)

  -- No check found anything wrong, up to the tables and of the nodes.
  clear : Clear (up_to_tables image form (length strings) (length entries)) × Clear (nodes_checked e image)
  unfolding open_checks
  clear =
      clear_both (up_to_tables image form (length strings) (length entries)) (nodes_checked e image)
      (passed (open_checks image form (length strings) (length entries)) (reader_for e image) h)

  is : r ≡ reader_for e image
  is = sym (passed_value (open_checks image form (length strings) (length entries)) (reader_for e image) h)

  found : tables_answer image form (length strings) (length entries) ≡ accepted (sizes_in e image)
  found = clear_accepts (up_to_tables image form (length strings) (length entries)) (sizes_in e image) clear.0

  lengths : lengths_wrong image form (length strings) (length entries) ≡ false
  lengths = tables_lengths image form strings entries found

  readable : IsReadable e image
  readable = tables_readable image form strings entries found

  -- The areas are as the tables filled them.
  strings_after_lem : ss ≡ laid_over (zeros strings) (string_places e image)
  unfolding strings_after
  strings_after_lem = rw (lengths, h)

  entries_after_lem : es ≡ laid_over (zeros entries) (node_places e image)
  unfolding entries_after
  entries_after_lem = rw (lengths, h)

  laid_strings : StringsLaid e image ss n
  laid_strings = rw (strings_after_lem ∙ sym (strings_filled_lem image form strings entries found)) (tables_strings image form strings entries found)

  laid_entries : EntriesLaid e image es m
  laid_entries = rw (entries_after_lem ∙ sym (entries_filled_lem image form strings entries found)) (tables_entries image form strings entries found)

  strings_long : length (zeros strings) ≡ 2048
  strings_long = length-replicate {A = ℕ} (length strings) 0 ∙ (lengths_right image form (length strings) (length entries) lengths).1

  entries_long : length (zeros entries) ≡ 2048
  entries_long = length-replicate {A = ℕ} (length entries) 0 ∙ (lengths_right image form (length strings) (length entries) lengths).2

  pub opened_shape : OpenedShape image form strings entries r
  opened_shape = rw is (record { reader = refl; strings_are = laid_strings.are; entries_are = laid_entries.are })

  -- The nodes, by what the areas show.
  abbrev end : ℕ
  end = section_offset e Symbol image + section_size e Symbol image

  abbrev node : ℕ → Entry
  node = recorded_entry image es

  abbrev contents : Contents
  contents = recorded_contents image end ss n es m

  abbrev checks : List Check
  checks = node_checks e (section_offset e Data image) (section_size e Data image) contents

  checked : Clear checks
  checked =
      passed checks (tt {0})
      (checked_by laid_strings laid_entries (span_of e Symbol image) (span_of e Data image) refl refl (tt {0})
      ∙ clear_accepts (nodes_checked e image) (tt {0}) clear.1)

  placed : (i : ℕ) → i < n → (section_offset e Symbol image ≤ get_or ss i 0) × (get_or ss i 0 < end)
  unfolding section_bytes
  placed i l =
      rw strings_after_lem
      (string_placed image (section_offset e Symbol image) (section_size e Symbol image) (zeros strings) (omega (arith, laid_strings.placed.few, strings_long))
      (section_inside Symbol readable) i l)

  entries_whole : (k : ℕ) → 0 < k → k ≤ m → found_entry image es k ≡ Some (node k)
  unfolding section_bytes
  entries_whole k lo hi =
      rw (laid_entries.are k lo hi, entries_after_lem)
      (entry_found image 2048 (section_offset e Tree image) (section_size e Tree image) (zeros entries) (omega (arith, laid_entries.few, entries_long)) k lo hi)

  clauses : ReaderBelongs image (reader_for e image) ss es
  unfolding climb_endless
  clauses =
      let none = nodes_clear e (section_offset e Data image) (section_size e Data image) contents checked in
      let link = links_clear e contents none.0 in
      let right = lengths_right image form (length strings) (length entries) lengths in
      let data-end = section_inside Data readable in
      record {
        length_recorded = refl;
        length_allowed = omega arith;
        strings_area = ap length strings_after_lem ∙ length_laid (zeros strings) (string_places e image) ∙ strings_long;
        entries_area = ap length entries_after_lem ∙ length_laid (zeros entries) (node_places e image) ∙ entries_long;
        few_strings = laid_strings.placed.few;
        few_nodes = laid_entries.few;
        edition = e;
        edition_recorded = edition_of_number e;
        symbols_inside = section_inside Symbol readable;
        tree_inside = section_inside Tree readable;
        data_inside = data-end;
        string_begins = λ i l. (placed i l).0;
        string_before_end = λ i l. (placed i l).1;
        entry_whole = entries_whole;
        parent_exists = λ k lo hi. (link k lo hi).0;
        string_exists = λ k lo hi. (link k lo hi).1;
        node_data = λ k lo hi v. let d = ((data_asks _ _ _).0 (none_holds _ _ 1 none.3 k (omega arith) (omega arith)) v).1 in omega arith;
        climb_ends = λ k lo hi. not-false _ (none_holds _ _ 1 none.1 k (omega arith) (omega arith));
      }

  pub opened_belongs : reader_belongs image r (strings_after image form strings entries) (entries_after image form strings entries) ≡ true
  opened_belongs = rw is (record_belongs clauses)
