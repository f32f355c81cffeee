-- A file of lawful contents, whatever bytes follow it, obeys the format, and its tables are the names and entries of the contents. Each field of its
-- header is found by its place: the header of a section is that of its rank, and the field is a part of it. Assumes nothing.
use mathlib.Core.Path.{◌≡◌, refl, sym, ap, ◌∙◌}
use mathlib.Core.Bool.{Bool, true, false, cond}
use mathlib.Core.List.{List, [], ◌∷◌, ◌++◌, append_assoc, append-nil}
use Prim.Native.Nat.{ℕ, zero, suc, ◌+◌, ◌-◌, ◌*◌, ◌≤◌, ◌<◌}
use native.Mathlib.Omega.{arith}
use lib.ListN.{length, get_or, take, length-append}
use lib.Seq.{take_at}
use borrow.Author.Tests.{ne_eqb}
use Rattle.aff_md5.specs.Md5.{md5}
use Rattle.aff_md5.proofs.DigestLaws.{length_md5}
use Rattle.aff_format.specs.Bytes.{part}
use Rattle.aff_format.specs.Edition.{signature_text, signature_size, sum_size, has_counts, section_header_size, section_at, section_rank, section_header_at, section_sum_at, header_sum_at, header_size}
use Rattle.aff_format.specs.Limits.{image_limit}
use Rattle.aff_format.specs.Number.{be_of, be_bytes}
use Rattle.aff_format.specs.Strings.{text_of, with_last_zero}
use Rattle.aff_format.specs.Tree.{reaches_by}
use Rattle.aff_format.specs.declared.edition.Edition.{Edition}
use Rattle.aff_format.specs.declared.entry.Entry.{Entry}
use Rattle.aff_format.specs.declared.section.Section.{Section}
use Rattle.aff_format.specs.declared.section.Section.TheVariants.{Symbol, Tree, Data}
use Rattle.aff_format.proofs.BytesLaws.{laid, part_laid, part_part}
use Rattle.aff_format.proofs.EditionLaws.{length_signature_text, section_header_parts, section_header_sizes, section_at_rank, rank_below}
use Rattle.aff_format.proofs.NumberLaws.{length_be_bytes, be_of_be_bytes}
use Rattle.aff_format.proofs.PathLaws.{subkeys_no_zero, subkeys_at}
use Rattle.aff_format.proofs.StringsLaws.{each_at, with_last_zero_text_of}
use Rattle.aff_header.specs.Header.{section_numbers, section_header, header_front, with_sum}
use Rattle.aff_header.proofs.HeaderLaws.{length_section_header, three_headers, length_header_front, length_with_sum}
use Rattle.aff_tables.specs.Tables.{node_entry, tree_bytes}
use Rattle.aff_open.specs.Obeys.{Obeys}
use Rattle.aff_open.specs.Rules.{Climbs, EachNode}
use Rattle.aff_open.specs.Sections.{edition_in, section_offset, section_size, section_records, section_sum, section_bytes, strings_in, nodes_in}
use Rattle.aff_open.proofs.ObeysLaws.{without_at, edition_found, strings_found, entries_found}
use Rattle.aff_file.specs.File.{FileContents, bytes_of, place_of, count_of, header_of, file_header, file_of, Lawful}

-- ---- Climbs.

-- Where each parent is lower than its child, as a writer numbers them, every climb ends.
climb : (es : List Entry) → EachNode es (λ k. (node_entry es k).parent < k) → (steps k : ℕ) → k ≤ steps → k ≤ length es
    → reaches_by (λ j. (node_entry es j).parent) steps k ≡ true
unfolding reaches_by
climb es low zero zero h l = refl
climb es low zero (suc k) h l = absurd (omega arith)
climb es low (suc steps) zero h l = refl
climb es low (suc steps) (suc k) h l =
    let f : suc k ≡ 0 → ⊥ = λ q. omega arith in
    let p = low (suc k) (omega arith) l in
    rw (ne_eqb (suc k) 0 f) (climb es low steps (node_entry es (suc k)).parent (omega arith) (omega arith))

pub lower_climbs : (es : List Entry) → EachNode es (λ k. (node_entry es k).parent < k) → EachNode es (Climbs es)
lower_climbs es low k lo hi = (k, climb es low k k (omega arith) hi)

-- ---- The fields of a section header.

module _ (e : Edition) (offset count : ℕ) (bytes : List ℕ) where
  abbrev header : List ℕ
  header = section_header e offset count bytes

  abbrev fields : List (List ℕ)
  fields = be_bytes 8 offset ∷ be_bytes 8 (length bytes) ∷ cond (has_counts e) (be_bytes 8 count) [] ∷ md5 bytes ∷ []

  fields_laid : header ≡ laid fields []
  unfolding section_header section_numbers
  fields_laid = simp (append_assoc, append-nil)

  field_offset : part 0 8 header ≡ be_bytes 8 offset
  field_offset = rw fields_laid (part_laid fields [] 0 0 8 refl (length_be_bytes 8 offset))

  field_size : part 8 8 header ≡ be_bytes 8 (length bytes)
  field_size = rw fields_laid (part_laid fields [] 1 8 8 (simp length_be_bytes) (length_be_bytes 8 (length bytes)))

  length_count : (b : Bool) → length (cond b (be_bytes 8 count) []) ≡ cond b 8 0
  length_count true = length_be_bytes 8 count
  length_count false = refl

  field_count : has_counts e ≡ true → part 16 8 header ≡ be_bytes 8 count
  field_count k =
      let q : cond (has_counts e) (be_bytes 8 count) [] ≡ be_bytes 8 count = rw k in
      rw fields_laid (part_laid fields [] 2 16 8 (simp length_be_bytes) (ap length q ∙ length_be_bytes 8 count)) ∙ q

  field_sum : part (section_header_size e - sum_size) sum_size header ≡ md5 bytes
  field_sum =
      rw fields_laid
      (part_laid fields [] 3 (section_header_size e - sum_size) sum_size
      (simp length_be_bytes (omega (arith, length_count (has_counts e), section_header_parts e)))
      (length_md5 bytes))

-- ---- The pieces of a file.

module _ (e : Edition) (c : FileContents) (form : List ℕ) where
  abbrev front : List ℕ
  front = header_front e form (header_of e c)

  header_sized : (s : Section) → length (header_of e c s) ≡ section_header_size e
  header_sized s = length_section_header e (place_of e c s) (count_of e c s) (bytes_of e c s)

  length_front : length form ≡ 12 → length front ≡ header_sum_at e
  length_front f = length_header_front e form (header_of e c) f header_sized

  pub length_file_header : length form ≡ 12 → length (file_header e c form) ≡ header_size e
  unfolding file_header
  length_file_header f = length_with_sum e front (length_front f)

  pub length_file_of : length form ≡ 12
      → length (file_of e c form) ≡ header_size e + length c.stored + length (text_of c.names) + length (tree_bytes c.entries)
  unfolding file_of
  length_file_of f =
      let n = length_file_header f in
      simp length-append (omega arith)

  module _ (rest : List ℕ) where
    abbrev image : List ℕ
    image = file_of e c form ++ rest

    abbrev after : List ℕ
    after = c.stored ++ (text_of c.names ++ (tree_bytes c.entries ++ rest))

    -- Header and sections, one after the other.
    pub file_laid : image ≡ file_header e c form ++ (c.stored ++ (text_of c.names ++ (tree_bytes c.entries ++ rest)))
    unfolding file_of
    file_laid = simp append_assoc

    abbrev sections : List (List ℕ)
    sections = file_header e c form ∷ c.stored ∷ text_of c.names ∷ tree_bytes c.entries ∷ []

    -- Signature text, form, section headers by rank, header sum.
    abbrev pieces : List (List ℕ)
    pieces = signature_text e ∷ form ∷ header_of e c (section_at e 0) ∷ header_of e c (section_at e 1) ∷ header_of e c (section_at e 2) ∷ md5 front ∷ []

    front_laid : image ≡ front ++ (md5 front ++ after)
    unfolding file_header with_sum
    front_laid = file_laid ∙ append_assoc front (md5 front) after

    pieces_laid : image ≡ laid pieces after
    unfolding header_front
    pieces_laid = front_laid ∙ rw (three_headers e (header_of e c)) (simp append_assoc)

    module _ (f : length form ≡ 12) where
      -- ---- The signature and the header sum.

      text_is : take 20 image ≡ signature_text e
      text_is = rw pieces_laid (part_laid pieces after 0 0 20 refl (length_signature_text e))

      form_is : part 20 12 image ≡ form
      form_is = rw pieces_laid (part_laid pieces after 1 20 12 (omega (arith, length_signature_text e)) f)

      front_is : take (header_sum_at e) image ≡ front
      front_is = rw front_laid (take_at front (md5 front ++ after) (header_sum_at e) (length_front f))

      header_sum_is : part (header_sum_at e) sum_size image ≡ md5 (take (header_sum_at e) image)
      header_sum_is =
          ap (λ (l : List ℕ). part (header_sum_at e) sum_size l) front_laid
          ∙ part_laid (front ∷ md5 front ∷ []) after 1 (header_sum_at e) sum_size (omega (arith, length_front f)) (length_md5 front)
          ∙ ap md5 (sym front_is)

      -- ---- The section headers: each is at its rank.

      abbrev n : ℕ
      n = section_header_size e

      header_at_rank : (r : ℕ) → r < 3 → part (signature_size + r * n) n (laid pieces after) ≡ header_of e c (section_at e r)
      header_at_rank zero h = part_laid pieces after 2 (signature_size + 0 * n) n (omega (arith, length_signature_text e)) (header_sized (section_at e 0))
      header_at_rank (suc zero) h =
          part_laid pieces after 3 (signature_size + 1 * n) n (omega (arith, length_signature_text e, header_sized (section_at e 0))) (header_sized (section_at e 1))
      header_at_rank (suc (suc zero)) h =
          let first = header_sized (section_at e 0) in
          let second = header_sized (section_at e 1) in
          part_laid pieces after 4 (signature_size + 2 * n) n (omega (arith, length_signature_text e)) (header_sized (section_at e 2))
      header_at_rank (suc (suc (suc r))) h = absurd (omega arith)

      section_header_lem : (s : Section) → part (section_header_at e s) n image ≡ header_of e c s
      section_header_lem s =
          ap (part (section_header_at e s) n) pieces_laid ∙ header_at_rank (section_rank e s) (rank_below e s) ∙ ap (header_of e c) (section_at_rank e s)

      -- A field of a section header, j bytes from its start; and one that is a number.
      field_is : (s : Section) (at j w : ℕ) (field : List ℕ) → at ≡ section_header_at e s + j → j + w ≤ n → part j w (header_of e c s) ≡ field
          → part at w image ≡ field
      field_is s at j w field i h q =
          ap (λ (k : ℕ). part k w image) i
          ∙ sym (part_part (section_header_at e s) n j w image h)
          ∙ ap (part j w) (section_header_lem s)
          ∙ q

      number_is : (s : Section) (at j v : ℕ) → at ≡ section_header_at e s + j → j + 8 ≤ n → v ≤ image_limit → part j 8 (header_of e c s) ≡ be_bytes 8 v
          → be_of (part at 8 image) ≡ v
      number_is s at j v i h l q = ap be_of (field_is s at j 8 (be_bytes 8 v) i h q) ∙ be_of_be_bytes 8 v (omega arith)

      -- ---- The sections, each at its place.

      section_there : (s : Section) → part (place_of e c s) (length (bytes_of e c s)) image ≡ bytes_of e c s
      section_there Symbol =
          rw file_laid (part_laid sections rest 2 (place_of e c Symbol) (length (text_of c.names)) (omega (arith, length_file_header f)) refl)
      section_there Tree =
          rw file_laid (part_laid sections rest 3 (place_of e c Tree) (length (tree_bytes c.entries)) (omega (arith, length_file_header f)) refl)
      section_there Data = rw file_laid (part_laid sections rest 1 (place_of e c Data) (length c.stored) (omega (arith, length_file_header f)) refl)

-- ---- A file of lawful contents, and what follows it.

module _ (e : Edition) (c : FileContents) (form rest : List ℕ) (g : Lawful e c form (length rest)) where
  abbrev file : List ℕ
  file = file_of e c form ++ rest

  length_file : length file ≡ length (file_of e c form) + length rest
  length_file = length-append (file_of e c form) rest

  -- The numbers fit their fields.
  ends_inside : (s : Section) → place_of e c s + length (bytes_of e c s) ≤ length (file_of e c form)
  ends_inside Symbol = omega (arith, length_file_of e c form g.form_length)
  ends_inside Tree = omega (arith, length_file_of e c form g.form_length)
  ends_inside Data = omega (arith, length_file_of e c form g.form_length)

  short : (s : Section) → place_of e c s + length (bytes_of e c s) ≤ image_limit
  short s = omega (arith, ends_inside s, g.size)

  count_fits : (s : Section) → count_of e c s ≤ image_limit
  count_fits Symbol = omega (arith, g.few_names)
  count_fits Tree = omega (arith, g.few_nodes)
  count_fits Data = g.records_fit

  -- The four fields of each section header.
  pub file_offset : (s : Section) → section_offset e s file ≡ place_of e c s
  unfolding section_offset
  file_offset s =
      number_is e c form rest g.form_length s (section_header_at e s) 0 (place_of e c s) (omega arith) (omega (arith, section_header_sizes e)) (omega (arith, short s))
      (field_offset e (place_of e c s) (count_of e c s) (bytes_of e c s))

  pub file_size : (s : Section) → section_size e s file ≡ length (bytes_of e c s)
  unfolding section_size
  file_size s =
      number_is e c form rest g.form_length s (section_header_at e s + 8) 8 (length (bytes_of e c s)) refl (omega (arith, section_header_sizes e)) (omega (arith, short s))
      (field_size e (place_of e c s) (count_of e c s) (bytes_of e c s))

  pub file_count : (s : Section) → has_counts e ≡ true → section_records e s file ≡ count_of e c s
  unfolding section_records
  file_count s k =
      rw k
      (number_is e c form rest g.form_length s (section_header_at e s + 16) 16 (count_of e c s) refl (omega (arith, section_header_sizes e)) (count_fits s)
      (field_count e (place_of e c s) (count_of e c s) (bytes_of e c s) k))

  pub file_sum : (s : Section) → section_sum e s file ≡ md5 (bytes_of e c s)
  file_sum s =
      field_is e c form rest g.form_length s (section_sum_at e s) (section_header_size e - sum_size) sum_size (md5 (bytes_of e c s))
      (omega (arith, section_header_sizes e)) (omega (arith, section_header_sizes e))
      (field_sum e (place_of e c s) (count_of e c s) (bytes_of e c s))

  -- The bytes of each section.
  pub file_bytes : (s : Section) → section_bytes e s file ≡ bytes_of e c s
  unfolding section_bytes
  file_bytes s = rw (file_offset s, file_size s) (section_there e c form rest g.form_length s)

  -- ---- The rules of a file.

  pub file_obeys : Obeys file form
  file_obeys =
      record {
        edition = e;
        size = omega (arith, length_file, g.size);
        whole_header = omega (arith, length_file, length_file_of e c form g.form_length);
        text = text_is e c form rest g.form_length;
        number_form_is = form_is e c form rest g.form_length;
        header_sum = header_sum_is e c form rest g.form_length;
        inside = λ s. rw (file_offset s, file_size s) (omega (arith, length_file, ends_inside s));
        sums = λ s. file_sum s ∙ ap md5 (sym (file_bytes s));
        strings = c.names;
        symbol_table = ap with_last_zero (file_bytes Symbol) ∙ with_last_zero_text_of c.names;
        no_zero = λ i k l m. without_at (get_or c.names i []) (each_at 0 c.names i (subkeys_no_zero e c.names g.subkeys)) k m;
        few_strings = g.few_names;
        string_count = file_count Symbol;
        distinct = g.distinct;
        entries = c.entries;
        tree_table = file_bytes Tree;
        storable = g.storable;
        few_nodes = g.few_nodes;
        node_count = file_count Tree;
        linked = λ k lo hi.
            let there = g.string_exists k lo hi in
            (g.parent_exists k lo hi, there, subkeys_at e c.names g.subkeys _ there);
        climbs = g.climbs;
        name_free = g.name_free;
        data_inside = λ k lo hi. rw (file_offset Data, file_size Data) (g.data_inside k lo hi);
      }

  -- Its edition, its tables and its data count.
  pub file_edition : edition_in file ≡ e
  unfolding file_obeys
  file_edition = edition_found file_obeys

  pub file_strings : strings_in e file ≡ c.names
  unfolding file_obeys
  file_strings = strings_found file_obeys

  pub file_nodes : nodes_in e file ≡ c.entries
  unfolding file_obeys
  file_nodes = entries_found file_obeys

  pub file_records : has_counts e ≡ true → section_records e Data file ≡ c.records
  file_records = file_count Data
